-- A state leads to the end if some number of steps does; what the steps keep.
use Rattle.std.proofs.Common.{◌≡◌, ℕ, zero, suc, ◌+◌, ◌<◌, ◌≤◌, sym, refl, ap, ◌∙◌, le_trans, le_refl, arith}
use Rattle.memory.proofs.Contents.{put_other}
use Rattle.machine.specs.Processor.{Effect, stop, quiet, load, store, emit, State, enact, doing, step, after}
use Rattle.agreement.specs.Board.{Board}

move_sent : (m : State) (a : Effect) → m.core.sent ≤ (enact m a).core.sent
move_sent m (stop z) = le_refl _
move_sent m (quiet h) = le_refl _
move_sent m (load i f) = le_refl _
move_sent m (store i lanes w h) = le_refl _
move_sent m (emit w h) = omega arith

move_ran : (m : State) (a : Effect) → m.core.ran ≤ (enact m a).core.ran
move_ran m (stop z) = le_refl _
move_ran m (quiet h) = omega arith
move_ran m (load i f) = omega arith
move_ran m (store i lanes w h) = omega arith
move_ran m (emit w h) = omega arith

move_ran_most : (m : State) (a : Effect) → (enact m a).core.ran ≤ (m.core.ran + 1)
move_ran_most m (stop z) = omega arith
move_ran_most m (quiet h) = le_refl _
move_ran_most m (load i f) = le_refl _
move_ran_most m (store i lanes w h) = le_refl _
move_ran_most m (emit w h) = le_refl _

move_log : (m : State) (a : Effect) (n : ℕ) → n < m.core.sent → (enact m a).log n ≡ m.log n
move_log m (stop z) n h = refl
move_log m (quiet g) n h = refl
move_log m (load i f) n h = refl
move_log m (store i lanes w g) n h = refl
move_log m (emit w g) n h = put_other m.log m.core.sent w n (omega arith)

module _ (b : Board) where
  pub step_sent : (m : State) → m.core.sent ≤ (step b.act m).core.sent
  unfolding step
  step_sent m = move_sent m (doing b.act m)

  pub step_ran : (m : State) → m.core.ran ≤ (step b.act m).core.ran
  unfolding step
  step_ran m = move_ran m (doing b.act m)

  pub step_log : (m : State) (n : ℕ) → n < m.core.sent → (step b.act m).log n ≡ m.log n
  unfolding step
  step_log m n h = move_log m (doing b.act m) n h

  pub after_sent : (n : ℕ) (m : State) → m.core.sent ≤ (after b.act n m).core.sent
  unfolding after
  after_sent zero m = le_refl _
  after_sent (suc n) m = le_trans (step_sent m) (after_sent n (step b.act m))

  pub after_ran : (n : ℕ) (m : State) → m.core.ran ≤ (after b.act n m).core.ran
  unfolding after
  after_ran zero m = le_refl _
  after_ran (suc n) m = le_trans (step_ran m) (after_ran n (step b.act m))

  pub after_ran_most : (n : ℕ) (m : State) → (after b.act n m).core.ran ≤ n + m.core.ran
  unfolding after step
  after_ran_most zero m = omega arith
  after_ran_most (suc n) m = omega (arith, after_ran_most n (step b.act m), move_ran_most m (doing b.act m))

  pub after_log : (n : ℕ) (m : State) (k : ℕ) → k < m.core.sent → (after b.act n m).log k ≡ m.log k
  unfolding after
  after_log zero m k h = refl
  after_log (suc n) m k h = after_log n (step b.act m) k (le_trans h (step_sent m)) ∙ step_log m k h

  pub step_stop : (m : State) (z : ℕ) → doing b.act m ≡ stop z → step b.act m ≡ m
  unfolding step
  step_stop m z e = ap (enact m) e

  pub after_stop : (n : ℕ) (m : State) (z : ℕ) → doing b.act m ≡ stop z → after b.act n m ≡ m
  unfolding after
  after_stop zero m z e = refl
  after_stop (suc n) m z e = rw (step_stop m z e) (after_stop n m z e)

  abbrev pub Leads : State → State → Type 0
  Leads end m = (n : ℕ) × (after b.act n m ≡ end)

  pub leads_stop : (end m : State) (z : ℕ) → Leads end m → doing b.act m ≡ stop z → m ≡ end
  leads_stop end m z l e = sym (after_stop l.0 m z e) ∙ l.1

  pub leads_step : (end m : State) (z : ℕ) → doing b.act end ≡ stop z → Leads end m → Leads end (step b.act m)
  unfolding after
  leads_step end m z e l = go l.0 l.1
    where
      go : (n : ℕ) → after b.act n m ≡ end → Leads end (step b.act m)
      go zero q = (zero, (ap (step b.act) q ∙ step_stop end z e))
      go (suc n) q = (n, q)
