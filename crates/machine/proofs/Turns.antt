-- The turns of the loop that steps a machine to its end.
use Rattle.std.proofs.Common.{◌≡◌, ℕ, ◌-◌, ◌<◌, List, length, Some, None, Option, sym, ap, ◌∙◌, subst, ⊎_elim, arith}
use Rattle.hart.specs.Stops.{number}
use Rattle.hart.specs.declared.state.Core.{Core}
use Rattle.hart.specs.declared.action.Stop.{Stop}
use Rattle.hart.specs.declared.action.Limits.{Limits}
use Rattle.machine.specs.Processor.{stop, stop_number, State, doing, step}
use Rattle.machine.specs.Rv32i.{rv32i}
use Rattle.machine.specs.Run.{ended}
use Rattle.machine.specs.Calls.{state_of, Fits, Advanced, Finished}
use Rattle.machine.proofs.Ends.{goes, stays, ran_on, ended_step, ended_here, stop_told, number_bounds}

module _ (lim : Limits) (c : Core) (ws log : List ℕ) (c' : Core) (ws' log' : List ℕ) where
  abbrev here : State
  here = state_of c ws log

  -- the run ends where it did
  pub ends_alike : (r : Option Stop) → Advanced lim c ws log c' ws' log' r → ended lim (state_of c' ws' log') ≡ ended lim here
  ends_alike r a = ap (ended lim) a.state ∙ ended_step lim here

  -- a turn that goes on leaves fewer instructions
  pub fewer_left : Advanced lim c ws log c' ws' log' None → lim.instructions - c'.ran < lim.instructions - c.ran
  fewer_left a =
      let e : c'.ran ≡ (step (rv32i lim) here).core.ran = ap (λ (s : State). s.core.ran) a.state in
      ⊎_elim
      (λ k. absurd (omega (arith, a.answer, ap stop_number k.1, k.2)))
      (λ k. omega (arith, e, k.1, ran_on (rv32i lim) here k.2))
      (goes lim here)

  -- a turn that stops was at the end
  pub stops_there : (z : Stop) → Advanced lim c ws log c' ws' log' (Some z) → Finished lim c ws log c' ws' log' z
  stops_there z a =
      let d : doing (rv32i lim) here ≡ stop (number z) = stop_told (doing (rv32i lim) here) (number z) (number_bounds z).0 a.answer in
      let same : state_of c' ws' log' ≡ here = a.state ∙ stays (rv32i lim) here (number z) d in
      record {
        state = same ∙ sym (ended_here lim here (number z) d);
        answer = a.answer ∙ sym (ap (λ (s : State). stop_number (doing (rv32i lim) s)) same);
        words_size = a.words_size;
        log_size = a.log_size;
      }

-- a loop that began with lim, c, ws and log has come to the others: the run from here ends as it does from the loop's start
pub record Running (lim : Limits) (c : Core) (ws log : List ℕ) (lim' : Limits) (c' : Core) (ws' log' : List ℕ) : Type 0 where
  pub limits : lim' ≡ lim
  pub fits : Fits lim' ws' log'
  pub ends : ended lim (state_of c' ws' log') ≡ ended lim (state_of c ws log)
  pub words_size : length ws' ≡ length ws
  pub log_size : length log' ≡ length log

module _ (lim : Limits) (c : Core) (ws log : List ℕ) (lim' : Limits) (c' : Core) (ws' log' : List ℕ) (r : Running lim c ws log lim' c' ws' log')
    (c'' : Core) (ws'' log'' : List ℕ) where
  -- one turn more
  pub goes_on : (lim'' : Limits) → lim'' ≡ lim' → Advanced lim' c' ws' log' c'' ws'' log'' None → Running lim c ws log lim'' c'' ws'' log''
  goes_on lim'' e a =
      let same : ended lim (state_of c'' ws'' log'') ≡ ended lim (state_of c' ws' log') =
      subst (λ (l : Limits). ended l (state_of c'' ws'' log'') ≡ ended l (state_of c' ws' log')) r.limits (ends_alike lim' c' ws' log' c'' ws'' log'' None a) in
      record {
        limits = e ∙ r.limits;
        fits = (omega (arith, ap (λ (l : Limits). l.words) e, r.fits.0, a.words_size), omega (arith, ap (λ (l : Limits). l.outputs) e, r.fits.1, a.log_size));
        ends = same ∙ r.ends;
        words_size = a.words_size ∙ r.words_size;
        log_size = a.log_size ∙ r.log_size;
      }

  -- the last turn
  pub finishes : (z : Stop) → Advanced lim' c' ws' log' c'' ws'' log'' (Some z) → Finished lim c ws log c'' ws'' log'' z
  finishes z a =
      let f : Finished lim c' ws' log' c'' ws'' log'' z =
      subst (λ (l : Limits). Finished l c' ws' log' c'' ws'' log'' z) r.limits (stops_there lim' c' ws' log' c'' ws'' log'' z a) in
      record { state = f.state ∙ r.ends; answer = f.answer; words_size = f.words_size ∙ r.words_size; log_size = f.log_size ∙ r.log_size }
