-- A loaded machine that ran to its end has executed its image.
use Rattle.std.proofs.Common.{◌≡◌, ℕ, ◌≤◌, List, length, None, Result, sym, refl, ◌∙◌, subst, arith}
use Rattle.memory.specs.Contents.{word}
use Rattle.memory.proofs.Contents.{fronted, fronted_low, fronted_high, fronted_length}
use Rattle.hart.specs.State.{started}
use Rattle.hart.specs.declared.state.Core.{Core}
use Rattle.hart.specs.declared.action.Stop.{Stop}
use Rattle.image.specs.Image.{header, given_words}
use Rattle.image.proofs.Accepted.{accepted}
use Rattle.machine.specs.declared.End.{End}
use Rattle.machine.specs.declared.Refusal.{Refusal}
use Rattle.machine.specs.declared.Machine.{Machine}
use Rattle.machine.specs.Processor.{State}
use Rattle.machine.specs.Refusals.{load_refusal}
use Rattle.machine.specs.Run.{limits, ended, run_start, run_end}
use Rattle.machine.specs.Calls.{state_of, Fits, Finished, with_image, Executed, Execute}
use Rattle.machine.proofs.Ends.{sent_within}
use Rattle.machine.proofs.Alike.{Alike, alike_after, alike_stop}
use Rattle.machine.proofs.Loading.{load_accepted}

module _ (bs ws log : List ℕ) (ok : load_refusal bs (length ws) (length log) ≡ None) where
  abbrev loaded : State
  loaded = state_of (started (header bs).entry) (with_image bs ws) log

  pub fits : Fits (limits bs) ws log
  fits = let a = load_accepted bs (length ws) (length log) ok in (a.1, a.2)

  pub image_length : length (with_image bs ws) ≡ length ws
  image_length = fronted_length (word (given_words bs)) (header bs).words ws fits.0

  text : (header bs).text ≤ (header bs).words
  text = (accepted bs (load_accepted bs (length ws) (length log) ok).0).text_high

  alike : Alike (limits bs) (word ws) (word log) (ended (limits bs) loaded) (run_end bs)
  unfolding run_end
  alike =
      alike_after (limits bs) (word ws) (word log) text (limits bs).instructions loaded (run_start bs) (record {
        core = refl;
        low = fronted_low (word (given_words bs)) (header bs).words ws;
        high = fronted_high (word (given_words bs)) (header bs).words ws;
        sent = λ k h. absurd (omega arith);
        rest = λ k h. refl;
      })

  sent_most : (run_end bs).core.sent ≤ (header bs).outputs
  unfolding run_end
  sent_most = sent_within (limits bs) (limits bs).instructions (run_start bs) (omega arith)

  module _ (c' : Core) (ws' log' : List ℕ) (z : Stop) (f : Finished (limits bs) (started (header bs).entry) (with_image bs ws) log c' ws' log' z) where
    ran_alike : Alike (limits bs) (word ws) (word log) (state_of c' ws' log') (run_end bs)
    ran_alike = subst (λ (s : State). Alike (limits bs) (word ws) (word log) s (run_end bs)) (sym f.state) alike

    pub executed : Executed bs ws log ws' log' (record { core = c'; stop = z })
    executed =
        let a = ran_alike in
        record {
          accepted = ok;
          core = a.core;
          stop = f.answer ∙ alike_stop (limits bs) (word ws) (word log) text (state_of c' ws' log') (run_end bs) a;
          words = fronted (run_end bs).mem (header bs).words ws ws' fits.0 (f.words_size ∙ image_length) a.low a.high;
          outputs = fronted (run_end bs).log (run_end bs).core.sent log log' (omega (arith, fits.1, sent_most)) f.log_size a.sent a.rest;
        }

  -- of the machine that a load answers
  module _ (m : Machine) (ws₁ : List ℕ) (e : m ≡ record { limits = limits bs; core = started (header bs).entry }) (f : ws₁ ≡ with_image bs ws) where
    pub fits_image : Fits m.limits ws₁ log
    fits_image =
        subst (λ (n : Machine). Fits n.limits ws₁ log) (sym e)
        (subst (λ (v : List ℕ). Fits (limits bs) v log) (sym f) (omega (arith, fits.0, image_length), fits.1))

    pub ran_image : (c' : Core) (ws' log' : List ℕ) (z : Stop) → Finished m.limits m.core ws₁ log c' ws' log' z
        → Executed bs ws log ws' log' (record { core = c'; stop = z })
    ran_image c' ws' log' z d =
        executed c' ws' log' z
        (subst (λ (v : List ℕ). Finished (limits bs) (started (header bs).entry) v log c' ws' log' z) f
        (subst (λ (n : Machine). Finished n.limits n.core ws₁ log c' ws' log' z) e d))

-- the same of equal words
pub execute_alike : (bs : List ℕ) (r : Result End Refusal) (ws log ws' log' ws₁ log₁ ws₁' log₁' : List ℕ)
    → ws₁ ≡ ws → log₁ ≡ log → ws₁' ≡ ws' → log₁' ≡ log' → Execute bs ws log ws' log' r → Execute bs ws₁ log₁ ws₁' log₁' r
execute_alike bs r ws log ws' log' ws₁ log₁ ws₁' log₁' a b c d h = rw (a, b, c, d) h
