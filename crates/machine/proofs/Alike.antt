-- Two machines with one core, whose memories agree below the limit, run alike, whatever stands elsewhere; and elsewhere nothing
-- changes.
use Rattle.std.proofs.Common.{◌≡◌, ℕ, zero, suc, ◌/◌, ◌<◌, ◌≤◌, Bool, true, false, ltb, ◌≢◌, sym, refl, ap, ◌∙◌, subst, ⊎_elim, arith}
use Rattle.std.proofs.lemmas.Bool.{cases_eq}
use Rattle.memory.specs.Contents.{Mem, put}
use Rattle.memory.specs.Lanes.{merged}
use Rattle.memory.proofs.Contents.{put_same, put_other}
use Rattle.rv32i.specs.declared.instruction.LoadKind.{LoadKind}
use Rattle.hart.specs.State.{next}
use Rattle.hart.specs.Plan.{plan}
use Rattle.hart.specs.declared.state.Hart.{Hart}
use Rattle.hart.specs.declared.state.Core.{Core}
use Rattle.hart.specs.declared.action.Action.{Action}
use Rattle.hart.specs.declared.action.Action.TheVariants.{Halt, Next, Load, Store, Output}
use Rattle.hart.specs.declared.action.Limits.{Limits}
use Rattle.hart.proofs.Plans.{Within, within_plan, plan_alike}
use Rattle.machine.specs.Processor.{stop_number, State, doing, enact, step, after}
use Rattle.machine.specs.Rv32i.{loaded_into, loading, effect, rv32i}

-- s and t are alike; above the limit, and from the outputs on, s has the words of m₀ and l₀
pub record Alike (lim : Limits) (m₀ l₀ : Mem) (s t : State) : Type 0 where
  pub core : s.core ≡ t.core
  pub low : (k : ℕ) → k < lim.words → s.mem k ≡ t.mem k
  pub high : (k : ℕ) → lim.words ≤ k → s.mem k ≡ m₀ k
  pub sent : (k : ℕ) → k < t.core.sent → s.log k ≡ t.log k
  pub rest : (k : ℕ) → t.core.sent ≤ k → s.log k ≡ l₀ k

-- a put into both
put_both : (m m' : Mem) (i w w' k : ℕ) → w ≡ w' → m k ≡ m' k → put m i w k ≡ put m' i w' k
unfolding put
put_both m m' i w w' k e h = cc

module _ (lim : Limits) (m₀ l₀ : Mem) (c : Core) (m m' l l' : Mem) where
  abbrev left : State
  left = record { core = c; mem = m; log = l }

  abbrev right : State
  right = record { core = c; mem = m'; log = l' }

  module _ (fits : lim.text ≤ lim.words) (a : Alike lim m₀ l₀ left right) where
    alike_load : (t : Bool) (k : LoadKind) (r i b : ℕ) → i < lim.words → Alike lim m₀ l₀ (enact left (loading t m c.hart k r i b)) (enact right (loading t m' c.hart k r i b))
    alike_load true k r i b h = record {
      core = ap (λ w. next c (loaded_into c.hart k r b w)) (a.low i h);
      low = a.low;
      high = a.high;
      sent = a.sent;
      rest = a.rest;
    }
    alike_load false k r i b h = record {
      core = ap (λ w. next c (loaded_into c.hart k r b w)) (a.low i h);
      low = a.low;
      high = a.high;
      sent = a.sent;
      rest = a.rest;
    }

    alike_action : (x : Action) → Within lim c x → Alike lim m₀ l₀ (enact left (effect lim m c.hart x)) (enact right (effect lim m' c.hart x))
    alike_action (Halt z) w = a
    alike_action (Next to r v) w = record { core = refl; low = a.low; high = a.high; sent = a.sent; rest = a.rest }
    alike_action (Load k r i b) w = alike_load (ltb i lim.text) k r i b w.1
    alike_action (Store i v lanes) w = record {
      core = refl;
      low = λ k h. put_both m m' i _ _ k (ap (λ x. merged x v lanes) (a.low i w.2)) (a.low k h);
      high = λ k h. put_other m i _ k (omega (arith, w.2)) ∙ a.high k h;
      sent = a.sent;
      rest = a.rest;
    }
    alike_action (Output v) w = record {
      core = refl;
      low = a.low;
      high = a.high;
      sent = λ k h. ⊎_elim
          (λ (e : k ≡ c.sent). ap (put l c.sent v) e ∙ put_same l c.sent v ∙ sym (ap (put l' c.sent v) e ∙ put_same l' c.sent v))
          (λ (n : k ≢ c.sent). put_other l c.sent v k n ∙ a.sent k (omega arith) ∙ sym (put_other l' c.sent v k n))
          (cases_eq k c.sent);
      rest = λ k h. put_other l c.sent v k (omega arith) ∙ a.rest k (omega arith);
    }

    alike_next : Alike lim m₀ l₀ (step (rv32i lim) left) (step (rv32i lim) right)
    unfolding step rv32i
    alike_next =
        let w = m (c.hart.pc / 4) in
        subst (λ (x : Action). Alike lim m₀ l₀ (enact left (effect lim m c.hart (plan lim c w))) (enact right (effect lim m' c.hart x)))
        (plan_alike lim c w (m' (c.hart.pc / 4)) (λ h. a.low (c.hart.pc / 4) (omega arith)))
        (alike_action (plan lim c w) (within_plan lim c w))

module _ (lim : Limits) (m₀ l₀ : Mem) (fits : lim.text ≤ lim.words) where
  alike_step : (s t : State) → Alike lim m₀ l₀ s t → Alike lim m₀ l₀ (step (rv32i lim) s) (step (rv32i lim) t)
  alike_step s t a =
      let b : Alike lim m₀ l₀ (record { core = t.core; mem = s.mem; log = s.log }) t =
      record { core = refl; low = a.low; high = a.high; sent = a.sent; rest = a.rest } in
      subst (λ (c : Core). Alike lim m₀ l₀ (step (rv32i lim) (record { core = c; mem = s.mem; log = s.log })) (step (rv32i lim) t)) (sym a.core)
      (alike_next lim m₀ l₀ t.core s.mem t.mem s.log t.log fits b)

  pub alike_after : (n : ℕ) (s t : State) → Alike lim m₀ l₀ s t → Alike lim m₀ l₀ (after (rv32i lim) n s) (after (rv32i lim) n t)
  unfolding after
  alike_after zero s t a = a
  alike_after (suc n) s t a = alike_after n (step (rv32i lim) s) (step (rv32i lim) t) (alike_step s t a)

-- and they stop alike
stop_load : (t : Bool) (m m' : Mem) (h : Hart) (k : LoadKind) (r i b : ℕ) → stop_number (loading t m h k r i b) ≡ stop_number (loading t m' h k r i b)
stop_load true m m' h k r i b = refl
stop_load false m m' h k r i b = refl

stop_action : (lim : Limits) (m m' : Mem) (h : Hart) (x : Action) → stop_number (effect lim m h x) ≡ stop_number (effect lim m' h x)
stop_action lim m m' h (Halt z) = refl
stop_action lim m m' h (Next to r v) = refl
stop_action lim m m' h (Load k r i b) = stop_load (ltb i lim.text) m m' h k r i b
stop_action lim m m' h (Store i v lanes) = refl
stop_action lim m m' h (Output v) = refl

pub alike_stop : (lim : Limits) (m₀ l₀ : Mem) → lim.text ≤ lim.words → (s t : State) → Alike lim m₀ l₀ s t
    → stop_number (doing (rv32i lim) s) ≡ stop_number (doing (rv32i lim) t)
unfolding rv32i
alike_stop lim m₀ l₀ fits s t a =
    let c = t.core in
    let w = s.mem (c.hart.pc / 4) in
    ap (λ (d : Core). stop_number (rv32i lim s.mem d)) a.core
    ∙ stop_action lim s.mem t.mem c.hart (plan lim c w)
    ∙ ap (λ (x : Action). stop_number (effect lim t.mem c.hart x))
    (plan_alike lim c w (t.mem (c.hart.pc / 4)) (λ h. a.low (c.hart.pc / 4) (omega arith)))
