-- A run ends: each step stops or counts one instruction, and at the limit it stops.
use Rattle.std.proofs.Common.{◌≡◌, ℕ, zero, suc, ◌+◌, ◌/◌, ◌<◌, ◌≤◌, Bool, true, false, ltb, ◌⊎◌, sym, refl, ap, ◌∙◌, subst, inl, inr, ⊎_elim, arith}
use Rattle.memory.specs.Contents.{Mem}
use Rattle.rv32i.specs.declared.instruction.LoadKind.{LoadKind}
use Rattle.hart.specs.Stops.{number}
use Rattle.hart.specs.Plan.{plan}
use Rattle.hart.specs.declared.state.Hart.{Hart}
use Rattle.hart.specs.declared.action.Stop.{Stop}
use Rattle.hart.specs.declared.action.Stop.TheVariants as stops
use Rattle.hart.specs.declared.action.Action.{Action}
use Rattle.hart.specs.declared.action.Action.TheVariants.{Halt, Next, Load, Store, Output}
use Rattle.hart.specs.declared.action.Limits.{Limits}
use Rattle.hart.proofs.Plans.{Within, within_plan}
use Rattle.machine.specs.Processor.{Effect, stop, quiet, load, store, emit, stop_number, Processor, State, enact, doing, step, after}
use Rattle.machine.specs.Rv32i.{loading, effect, rv32i}
use Rattle.machine.specs.Run.{ended, limits, run_start, run_end, run_stop, RunsEnd}

pub number_bounds : (z : Stop) → (0 < number z) × (number z ≤ 10)
number_bounds stops.Limit = (omega arith, omega arith)
number_bounds stops.PastText = (omega arith, omega arith)
number_bounds stops.NoInstruction = (omega arith, omega arith)
number_bounds stops.Ebreak = (omega arith, omega arith)
number_bounds stops.Ecall = (omega arith, omega arith)
number_bounds stops.TargetMisaligned = (omega arith, omega arith)
number_bounds stops.DataMisaligned = (omega arith, omega arith)
number_bounds stops.OutOfRange = (omega arith, omega arith)
number_bounds stops.StoreToText = (omega arith, omega arith)
number_bounds stops.OutputsFull = (omega arith, omega arith)

-- an effect stops by a number from 1 to 10, or is one of an instruction below the limit that counts one more
abbrev Goes : Limits → State → Effect → Type 0
Goes lim s e =
    ((z : ℕ) × (e ≡ stop z) × (0 < z) × (z ≤ 10))
    ⊎ ((stop_number e ≡ 0) × (s.core.ran < lim.instructions) × ((enact s e).core.ran ≡ s.core.ran + 1))

goes_load : (lim : Limits) (s : State) → s.core.ran < lim.instructions → (t : Bool) (m : Mem) (h : Hart) (k : LoadKind) (r i b : ℕ) → Goes lim s (loading t m h k r i b)
goes_load lim s runs true m h k r i b = inr (refl, runs, refl)
goes_load lim s runs false m h k r i b = inr (refl, runs, refl)

goes_action : (lim : Limits) (s : State) (a : Action) → Within lim s.core a → Goes lim s (effect lim s.mem s.core.hart a)
goes_action lim s (Halt z) w = inl (number z, refl, (number_bounds z).0, (number_bounds z).1)
goes_action lim s (Next to r v) w = inr (refl, w, refl)
goes_action lim s (Load k r i b) w = goes_load lim s w.0 (ltb i lim.text) s.mem s.core.hart k r i b
goes_action lim s (Store i x lanes) w = inr (refl, w.0, refl)
goes_action lim s (Output x) w = inr (refl, w.0, refl)

pub goes : (lim : Limits) (s : State) → Goes lim s (doing (rv32i lim) s)
unfolding rv32i
goes lim s =
    let a = plan lim s.core (s.mem (s.core.hart.pc / 4)) in
    goes_action lim s a (within_plan lim s.core (s.mem (s.core.hart.pc / 4)))

-- where an effect stops, a step changes nothing, and so does any number of them
pub stays : (p : Processor) (s : State) (z : ℕ) → doing p s ≡ stop z → step p s ≡ s
unfolding step
stays p s z h = ap (enact s) h

pub rests : (p : Processor) (s : State) (z n : ℕ) → doing p s ≡ stop z → after p n s ≡ s
unfolding after
rests p s z zero h = refl
rests p s z (suc n) h = ap (after p n) (stays p s z h) ∙ rests p s z n h

-- steps before and after others
pub after_step : (p : Processor) (n : ℕ) (s : State) → after p n (step p s) ≡ step p (after p n s)
unfolding after
after_step p zero s = refl
after_step p (suc n) s = after_step p n (step p s)

abbrev Stopped : Limits → State → Type 0
Stopped lim s = (z : ℕ) × (doing (rv32i lim) s ≡ stop z) × (0 < z) × (z ≤ 10)

pub ran_on : (p : Processor) (s : State) → (enact s (doing p s)).core.ran ≡ s.core.ran + 1 → (step p s).core.ran ≡ s.core.ran + 1
unfolding step
ran_on p s e = e

-- with n instructions left, n steps come to a stop
pub comes : (lim : Limits) (n : ℕ) (s : State) → lim.instructions ≤ s.core.ran + n → Stopped lim (after (rv32i lim) n s)
unfolding after
comes lim zero s h = ⊎_elim (λ k. k) (λ k. absurd (omega (arith, k.1))) (goes lim s)
comes lim (suc n) s h =
    ⊎_elim
    (λ k. subst (Stopped lim) (sym (ap (after (rv32i lim) n) (stays (rv32i lim) s k.0 k.1) ∙ rests (rv32i lim) s k.0 n k.1)) k)
    (λ k. comes lim n (step (rv32i lim) s) (omega (arith, ran_on (rv32i lim) s k.2)))
    (goes lim s)

-- and the count does not pass the limit
pub counts_within : (lim : Limits) (n : ℕ) (s : State) → s.core.ran ≤ lim.instructions → (after (rv32i lim) n s).core.ran ≤ lim.instructions
unfolding after
counts_within lim zero s h = h
counts_within lim (suc n) s h = counts_within lim n (step (rv32i lim) s) (once lim s h)
  where
    once : (lim : Limits) (s : State) → s.core.ran ≤ lim.instructions → (step (rv32i lim) s).core.ran ≤ lim.instructions
    once lim s h =
        ⊎_elim
        (λ k. subst (λ (t : State). t.core.ran ≤ lim.instructions) (sym (stays (rv32i lim) s k.0 k.1)) h)
        (λ k. omega (arith, k.1, ran_on (rv32i lim) s k.2))
        (goes lim s)

-- nor do the outputs pass their limit
sent_action : (lim : Limits) (s : State) (a : Action) → Within lim s.core a → s.core.sent ≤ lim.outputs → (enact s (effect lim s.mem s.core.hart a)).core.sent ≤ lim.outputs
sent_action lim s (Halt z) w h = h
sent_action lim s (Next to r v) w h = h
sent_action lim s (Load k r i b) w h = either (ltb i lim.text)
  where
    either : (t : Bool) → (enact s (loading t s.mem s.core.hart k r i b)).core.sent ≤ lim.outputs
    either true = h
    either false = h
sent_action lim s (Store i x lanes) w h = h
sent_action lim s (Output x) w h = omega (arith, w.1)

sent_step : (lim : Limits) (s : State) → s.core.sent ≤ lim.outputs → (step (rv32i lim) s).core.sent ≤ lim.outputs
unfolding step rv32i
sent_step lim s h =
    let w = s.mem (s.core.hart.pc / 4) in
    sent_action lim s (plan lim s.core w) (within_plan lim s.core w) h

pub sent_within : (lim : Limits) (n : ℕ) (s : State) → s.core.sent ≤ lim.outputs → (after (rv32i lim) n s).core.sent ≤ lim.outputs
unfolding after
sent_within lim zero s h = h
sent_within lim (suc n) s h = sent_within lim n (step (rv32i lim) s) (sent_step lim s h)

pub ended_stops : (lim : Limits) (s : State) → Stopped lim (ended lim s)
ended_stops lim s = comes lim lim.instructions s (omega arith)

-- a run ends where it ends from its next state
pub ended_step : (lim : Limits) (s : State) → ended lim (step (rv32i lim) s) ≡ ended lim s
ended_step lim s =
    let k = ended_stops lim s in
    after_step (rv32i lim) lim.instructions s ∙ stays (rv32i lim) (ended lim s) k.0 k.1

pub ended_here : (lim : Limits) (s : State) (z : ℕ) → doing (rv32i lim) s ≡ stop z → ended lim s ≡ s
ended_here lim s z h = rests (rv32i lim) s z lim.instructions h

-- a stop's number tells the stop
pub stop_told : (e : Effect) (z : ℕ) → 0 < z → z ≡ stop_number e → e ≡ stop z
stop_told (stop y) z h q = ap stop (sym q)
stop_told (quiet x) z h q = absurd (omega arith)
stop_told (load i f) z h q = absurd (omega arith)
stop_told (store i l w x) z h q = absurd (omega arith)
stop_told (emit w x) z h q = absurd (omega arith)

pub runs_end : RunsEnd
unfolding run_end
runs_end bs =
    let k = ended_stops (limits bs) (run_start bs) in
    let q : run_stop bs ≡ k.0 = ap stop_number k.1 in
    record {
      stops = k.1 ∙ ap stop (sym q);
      low = omega arith;
      high = omega arith;
      count = counts_within (limits bs) (limits bs).instructions (run_start bs) (omega arith);
    }
