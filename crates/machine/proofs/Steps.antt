-- A planned action, carried out on a core, a memory and a log, is a step of the machine that these are.
use Rattle.std.proofs.Common.{◌≡◌, ℕ, ◌+◌, ◌/◌, ◌^◌, ◌<◌, ◌≤◌, Bool, true, false, ltb, List, length, set, Some, None, sym, refl, ap, ◌∙◌, subst, arith, length-set}
use Rattle.memory.specs.Contents.{Mem, word, put}
use Rattle.memory.specs.Lanes.{merged}
use Rattle.memory.proofs.Contents.{word_set}
use Rattle.rv32i.specs.declared.instruction.LoadKind.{LoadKind}
use Rattle.hart.specs.State as hart
use Rattle.hart.specs.State.{next, next_sent, moved, onward, counted, retired, retired_load, retired_output}
use Rattle.hart.specs.Plan.{plan}
use Rattle.hart.specs.declared.state.Hart.{Hart}
use Rattle.hart.specs.declared.state.Core.{Core}
use Rattle.hart.specs.declared.action.Stop.{Stop}
use Rattle.hart.specs.declared.action.Action.{Action}
use Rattle.hart.specs.declared.action.Action.TheVariants.{Halt, Next, Load, Store, Output}
use Rattle.hart.specs.declared.action.Limits.{Limits}
use Rattle.hart.proofs.Plans.{Within, within_plan}
use Rattle.machine.specs.Processor.{stop_number, State, enact, doing, step}
use Rattle.machine.specs.Rv32i.{loaded_into, loading, effect, rv32i}
use Rattle.machine.specs.Calls.{state_of, Fits, Advanced}

-- a counter with room counts one more
counts : (n : ℕ) → n + 1 < 2 ^ 32 → counted n ≡ n + 1
counts n h = omega arith

-- a load is the same below the text's end and above it
load_enacted : (t : Bool) (s : State) (h : Hart) (k : LoadKind) (r i b : ℕ) →
    enact s (loading t s.mem h k r i b) ≡ record { core = next s.core (loaded_into h k r b (s.mem i)); mem = s.mem; log = s.log }
load_enacted true s h k r i b = refl
load_enacted false s h k r i b = refl

load_goes : (t : Bool) (m : Mem) (h : Hart) (k : LoadKind) (r i b : ℕ) → stop_number (loading t m h k r i b) ≡ 0
load_goes true m h k r i b = refl
load_goes false m h k r i b = refl

-- x is the word at pc
module _ (lim : Limits) (c : Core) (ws log : List ℕ) (x : ℕ) (fetched : x ≡ word ws (c.hart.pc / 4)) where
  abbrev here : State
  here = state_of c ws log

  abbrev Planned : Action → Type 0
  Planned a = a ≡ plan lim c x

  planned : (a : Action) → Planned a → a ≡ plan lim c (word ws (c.hart.pc / 4))
  planned a p = p ∙ ap (plan lim c) fetched

  does : (a : Action) → Planned a → doing (rv32i lim) here ≡ effect lim (word ws) c.hart a
  unfolding rv32i
  does a p = ap (effect lim (word ws) c.hart) (sym (planned a p))

  steps : (a : Action) → Planned a → step (rv32i lim) here ≡ enact here (effect lim (word ws) c.hart a)
  unfolding step
  steps a p = ap (enact here) (does a p)

  within : (a : Action) → Planned a → Within lim c a
  within a p = subst (Within lim c) (sym (planned a p)) (within_plan lim c (word ws (c.hart.pc / 4)))

  pub halts : (z : Stop) → Planned (Halt z) → Advanced lim c ws log c ws log (Some z)
  halts z p = record {
    state = sym (steps (Halt z) p);
    answer = sym (ap stop_number (does (Halt z) p));
    words_size = refl;
    log_size = refl;
  }

  module _ (room : c.ran < lim.instructions → c.ran + 1 < 2 ^ 32) (c' : Core) where
    pub moves : (to r v : ℕ) → Planned (Next to r v) → c' ≡ retired c to r v → Advanced lim c ws log c' ws log None
    moves to r v p e =
        let n = counts c.ran (room (within (Next to r v) p)) in
        record {
          state = ap (λ d. state_of d ws log) (e ∙ ap (λ k. record { hart = moved c.hart to r v; sent = c.sent; ran = k }) n) ∙ sym (steps (Next to r v) p);
          answer = sym (ap stop_number (does (Next to r v) p));
          words_size = refl;
          log_size = refl;
        }

    pub loads : (k : LoadKind) (r i b w : ℕ) → Planned (Load k r i b) → w ≡ word ws i → c' ≡ retired_load c k r b w → Advanced lim c ws log c' ws log None
    loads k r i b w p l e =
        let n = counts c.ran (room (within (Load k r i b) p).0) in
        record {
          state = ap (λ d. state_of d ws log) (e ∙ ap (retired_load c k r b) l ∙ ap (λ j. record { hart = loaded_into c.hart k r b (word ws i); sent = c.sent; ran = j }) n)
              ∙ sym (steps (Load k r i b) p ∙ load_enacted (ltb i lim.text) here c.hart k r i b);
          answer = sym (ap stop_number (does (Load k r i b) p) ∙ load_goes (ltb i lim.text) (word ws) c.hart k r i b);
          words_size = refl;
          log_size = refl;
        }

    pub stores : (fits : Fits lim ws log) (i w lanes old new : ℕ) (ws' : List ℕ) → Planned (Store i w lanes) → old ≡ word ws i → new ≡ merged old w lanes
        → ws' ≡ set ws i new → c' ≡ retired c (hart.after c.hart.pc) 0 0 → Advanced lim c ws log c' ws' log None
    stores fits i w lanes old new ws' p l k f e =
        let h = within (Store i w lanes) p in
        let n = counts c.ran (room h.0) in
        let v : new ≡ merged (word ws i) w lanes = k ∙ ap (λ (z : ℕ). merged z w lanes) l in
        let m : word ws' ≡ put (word ws) i (merged (word ws i) w lanes) = ap word f ∙ word_set ws i new (omega arith) ∙ ap (put (word ws) i) v in
        record {
          state = ap (λ d. state_of d ws' log) (e ∙ ap (λ j. record { hart = onward c.hart; sent = c.sent; ran = j }) n)
              ∙ ap (λ (q : Mem). record { core = next c (onward c.hart); mem = q; log = word log }) m
              ∙ sym (steps (Store i w lanes) p);
          answer = sym (ap stop_number (does (Store i w lanes) p));
          words_size = ap length f ∙ length-set ws i new;
          log_size = refl;
        }

    pub outputs : (fits : Fits lim ws log) (few : length log ≤ 16384) (w : ℕ) (log' : List ℕ) → Planned (Output w)
        → log' ≡ set log c.sent w → c' ≡ retired_output c → Advanced lim c ws log c' ws log' None
    outputs fits few w log' p f e =
        let h = within (Output w) p in
        let n = counts c.ran (room h.0) in
        let k = counts c.sent (omega (arith, h.1)) in
        let m : word log' ≡ put (word log) c.sent w = ap word f ∙ word_set log c.sent w (omega arith) in
        record {
          state = ap (λ d. state_of d ws log') (e ∙ ap (λ j. record { hart = onward c.hart; sent = j; ran = counted c.ran }) k
              ∙ ap (λ j. record { hart = onward c.hart; sent = c.sent + 1; ran = j }) n)
              ∙ ap (λ (q : Mem). record { core = next_sent c (onward c.hart); mem = word ws; log = q }) m
              ∙ sym (steps (Output w) p);
          answer = sym (ap stop_number (does (Output w) p));
          words_size = refl;
          log_size = ap length f ∙ length-set log c.sent w;
        }
