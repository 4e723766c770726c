-- RV32I on an image keeps what the law asks of a board.
use Rattle.std.proofs.Common.{◌≡◌, ℕ, ◌+◌, ◌-◌, ◌*◌, ◌/◌, ◌%◌, ◌<◌, ◌≤◌, Bool, true, false, cond, not, ◌&&◌, eqb, ltb, leb, List, length, Ok, Err, refl, ap, ◌∙◌, arith, length-set}
use Rattle.std.proofs.lemmas.Bool.{cond_both, and_parts, and_from, eqb-true, eqb-false, eq-eqb, leb-true, leb-false, le-leb, ltb-true, ltb-false}
use Rattle.memory.specs.Contents.{Mem}
use Rattle.rv32i.specs.Decode.{Decoded, decode}
use Rattle.rv32i.specs.declared.instruction.LoadKind.{LoadKind}
use Rattle.rv32i.specs.declared.instruction.StoreKind.{StoreKind}
use Rattle.rv32i.specs.declared.instruction.Instruction.{Instruction}
use Rattle.rv32i.specs.declared.instruction.Instruction.TheVariants.{Lui, Auipc, Jal, Jalr, Branch, Load, Store, Op, OpImm, Fence, Ecall, Ebreak}
use Rattle.hart.specs.Registers.{reg, with_reg}
use Rattle.hart.specs.Alu.{wrap, holds, load_width, store_width}
use Rattle.hart.specs.State.{after}
use Rattle.hart.specs.Plan.{jump, load, port, is_word, store, perform, execute, plan}
use Rattle.hart.specs.declared.state.Hart.{Hart}
use Rattle.hart.specs.declared.state.Core.{Core}
use Rattle.hart.specs.declared.action.Action.{Action}
use Rattle.hart.specs.declared.action.Action.TheVariants as action
use Rattle.hart.specs.declared.action.Limits.{Limits}
use Rattle.hart.proofs.Plans.{Within, within_plan, plan_alike}
use Rattle.image.specs.declared.header.Header.{Header}
use Rattle.machine.specs.Rv32i.{loading, effect, rv32i}
use Rattle.machine.specs.Run.{limits_of}
use Rattle.machine.proofs.Ends.{number_bounds}
use Rattle.agreement.specs.Board.{Lawful, Keeps, Laws}
use Rattle.agreement.specs.Calls.{sane, due_of, Kind, board}

-- ---- pc stays a multiple of 4
abbrev Aligned : Action → Type 0
Aligned (action.Halt z) = Unit {0}
Aligned (action.Next to r v) = to % 4 ≡ 0
Aligned (action.Load k r i b) = Unit {0}
Aligned (action.Store i w lanes) = Unit {0}
Aligned (action.Output w) = Unit {0}

module _ (lim : Limits) (sent pc : ℕ) (even : pc % 4 ≡ 0) where
  on : after pc % 4 ≡ 0
  on = omega arith

  aligned_jump : (target r v : ℕ) → Aligned (jump target r v)
  aligned_jump target r v = cond_both (eqb (target % 4) 0) _ _ Aligned (λ e. eqb-true _ _ e) (λ _. tt)

  aligned_load : (k : LoadKind) (r a : ℕ) → Aligned (load lim pc k r a)
  aligned_load k r a =
      cond_both (eqb r 0) _ _ Aligned (λ _. on) λ _.
      cond_both (not (eqb (a % load_width k) 0)) _ _ Aligned (λ _. tt) λ _.
      cond_both (leb (4 * lim.words) a) _ _ Aligned (λ _. tt) λ _. tt

  aligned_store : (k : StoreKind) (v a : ℕ) → Aligned (store lim sent k v a)
  aligned_store k v a =
      cond_both (not (eqb (a % store_width k) 0)) _ _ Aligned (λ _. tt) λ _.
      cond_both (is_word k && eqb a port) _ _ Aligned (λ _. cond_both (leb lim.outputs sent) _ _ Aligned (λ _. tt) (λ _. tt)) λ _.
      cond_both (leb (4 * lim.words) a) _ _ Aligned (λ _. tt) λ _.
      cond_both (ltb a (4 * lim.text)) _ _ Aligned (λ _. tt) λ _. tt

aligned_perform : (lim : Limits) (h : Hart) (sent : ℕ) → h.pc % 4 ≡ 0 → (i : Instruction) → Aligned (perform lim h sent i)
aligned_perform lim h sent e (Lui r imm) = on lim sent h.pc e
aligned_perform lim h sent e (Auipc r imm) = on lim sent h.pc e
aligned_perform lim h sent e (Jal r offset) = aligned_jump lim sent h.pc e (wrap (h.pc + offset)) r (after h.pc)
aligned_perform lim h sent e (Jalr r a offset) = aligned_jump lim sent h.pc e (wrap (reg h.x a + offset) / 2 * 2) r (after h.pc)
aligned_perform lim h sent e (Branch c a b offset) =
    cond_both (holds c (reg h.x a) (reg h.x b)) _ _ Aligned (λ _. aligned_jump lim sent h.pc e (wrap (h.pc + offset)) 0 0) (λ _. on lim sent h.pc e)
aligned_perform lim h sent e (Load k r a offset) = aligned_load lim sent h.pc e k r (wrap (reg h.x a + offset))
aligned_perform lim h sent e (Store k a b offset) = aligned_store lim sent h.pc e k (reg h.x b) (wrap (reg h.x a + offset))
aligned_perform lim h sent e (Op o r a b) = on lim sent h.pc e
aligned_perform lim h sent e (OpImm o r a imm) = on lim sent h.pc e
aligned_perform lim h sent e Fence = on lim sent h.pc e
aligned_perform lim h sent e Ecall = tt
aligned_perform lim h sent e Ebreak = tt

aligned_execute : (lim : Limits) (h : Hart) (sent : ℕ) → h.pc % 4 ≡ 0 → (d : Decoded Instruction) → Aligned (execute lim h sent d)
aligned_execute lim h sent e (Err x) = tt
aligned_execute lim h sent e (Ok i) = aligned_perform lim h sent e i

aligned_plan : (lim : Limits) (c : Core) (w : ℕ) → c.hart.pc % 4 ≡ 0 → Aligned (plan lim c w)
aligned_plan lim c w e =
    cond_both (leb lim.instructions c.ran) _ _ Aligned (λ _. tt) λ _.
    cond_both (leb (4 * lim.text) c.hart.pc) _ _ Aligned (λ _. tt) λ _.
    aligned_execute lim c.hart c.sent e (decode w)

-- ---- a stop's number, and where accesses and outputs go
lawful_load : (lim : Limits) (c : Core) (m : Mem) (k : LoadKind) (r i b : ℕ) → i < lim.words → (t : Bool) → ltb i lim.text ≡ t →
    Lawful lim.text lim.words lim.outputs c (loading t m c.hart k r i b)
lawful_load lim c m k r i b h true e = tt
lawful_load lim c m k r i b h false e = (ltb-false i lim.text e, h)

lawful_effect : (lim : Limits) (c : Core) (m : Mem) (a : Action) → Within lim c a → Lawful lim.text lim.words lim.outputs c (effect lim m c.hart a)
lawful_effect lim c m (action.Halt z) w = number_bounds z
lawful_effect lim c m (action.Next to r v) w = tt
lawful_effect lim c m (action.Load k r i b) w = lawful_load lim c m k r i b w.1 (ltb i lim.text) refl
lawful_effect lim c m (action.Store i x lanes) w = (w.1, w.2)
lawful_effect lim c m (action.Output x) w = w.1

-- ---- a checkpoint's core
same_length : (xs : List ℕ) (r v : ℕ) → length (with_reg xs r v) ≡ length xs
same_length xs r v = cond_both (eqb r 0) _ _ (λ (ys : List ℕ). length ys ≡ length xs) (λ _. refl) (λ _. length-set xs (r - 1) v)

module _ (h : Header) where
  abbrev lim : Limits
  lim = limits_of h

  record Sane (c : Core) : Type 0 where
    pub long : length c.hart.x ≡ 31
    pub even : c.hart.pc % 4 ≡ 0
    pub low : c.ran ≤ h.limit

  sane_parts : (c : Core) → sane h c ≡ true → Sane c
  sane_parts c e =
      let p = and_parts (eqb (length c.hart.x) 31) (eqb (c.hart.pc % 4) 0 && leb c.ran h.limit) e in
      let q = and_parts (eqb (c.hart.pc % 4) 0) (leb c.ran h.limit) p.1 in
      record { long = eqb-true _ _ p.0; even = eqb-true _ _ q.0; low = leb-true _ _ q.1 }

  sane_from : (x : List ℕ) (pc sent ran : ℕ) → length x ≡ 31 → pc % 4 ≡ 0 → ran ≤ h.limit
      → sane h (record { hart = record { x = x; pc = pc }; sent = sent; ran = ran }) ≡ true
  sane_from x pc sent ran l e k = and_from _ _ (eq-eqb _ _ l) (and_from _ _ (eq-eqb _ _ e) (le-leb _ _ k))

  keeps_load : (c : Core) → Sane c → c.ran < h.limit → (t : Bool) (m : Mem) (k : LoadKind) (r i b : ℕ) → Keeps (sane h) c (loading t m c.hart k r i b)
  keeps_load c s runs true m k r i b = sane_from _ _ c.sent _ (same_length c.hart.x r _ ∙ s.long) (let e = s.even in omega arith) (omega arith)
  keeps_load c s runs false m k r i b = λ w. sane_from _ _ c.sent _ (same_length c.hart.x r _ ∙ s.long) (let e = s.even in omega arith) (omega arith)

  keeps_effect : (c : Core) (m : Mem) → Sane c → (a : Action) → Within lim c a → Aligned a → Keeps (sane h) c (effect lim m c.hart a)
  keeps_effect c m s (action.Halt z) w e = tt
  keeps_effect c m s (action.Next to r v) w e = sane_from _ _ c.sent _ (same_length c.hart.x r v ∙ s.long) e (omega (arith, w))
  keeps_effect c m s (action.Load k r i b) w e = keeps_load c s w.0 (ltb i lim.text) m k r i b
  keeps_effect c m s (action.Store i x lanes) w e = sane_from _ _ c.sent _ s.long (let k = s.even in omega arith) (omega (arith, w.0))
  keeps_effect c m s (action.Output x) w e = sane_from _ _ (c.sent + 1) _ s.long (let k = s.even in omega arith) (omega (arith, w.0))

  -- ---- only the text matters to what is done
  same_load : (m m' : Mem) (c : Core) (k : LoadKind) (r i b : ℕ) → ((j : ℕ) → j < h.text → m j ≡ m' j) → (t : Bool) → ltb i h.text ≡ t
      → loading t m c.hart k r i b ≡ loading t m' c.hart k r i b
  same_load m m' c k r i b same true e = ap (λ w. loading true (λ _. w) c.hart k r i b) (same i (ltb-true i h.text e))
  same_load m m' c k r i b same false e = refl

  same_effect : (m m' : Mem) (c : Core) → ((j : ℕ) → j < h.text → m j ≡ m' j) → (a : Action) → effect lim m c.hart a ≡ effect lim m' c.hart a
  same_effect m m' c same (action.Halt z) = refl
  same_effect m m' c same (action.Next to r v) = refl
  same_effect m m' c same (action.Load k r i b) = same_load m m' c k r i b same (ltb i h.text) refl
  same_effect m m' c same (action.Store i x lanes) = refl
  same_effect m m' c same (action.Output x) = refl

  -- ---- the watchdog
  due_bounds : 0 < h.period → (n : ℕ) → (0 < due_of h.period n) × (due_of h.period n ≤ h.period)
  unfolding due_of
  due_bounds p n = go (leb h.period n) refl (eqb n 0) refl
    where
      go : (x : Bool) → leb h.period n ≡ x → (y : Bool) → eqb n 0 ≡ y →
          (0 < cond x h.period (cond y 1 n)) × (cond x h.period (cond y 1 n) ≤ h.period)
      go true e y f = (p, omega arith)
      go false e true f = (omega arith, p)
      go false e false f = let k = leb-false _ _ e in let q = eqb-false _ _ f in (omega arith, omega arith)

  pub laws : (kind : Kind) → h.text ≤ h.words → 0 < h.period → Laws (board kind h)
  unfolding rv32i
  laws kind t p = record {
    inside = t;
    beats = λ store. due_bounds p (kind.watchdog h.period store);
    shape = λ c e. (sane_parts c e).long;
    lawful = λ m c. lawful_effect lim c m (plan lim c (m (c.hart.pc / 4))) (within_plan lim c (m (c.hart.pc / 4)));
    keeps = λ m c e.
        let s = sane_parts c e in
        keeps_effect c m s (plan lim c (m (c.hart.pc / 4))) (within_plan lim c (m (c.hart.pc / 4))) (aligned_plan lim c (m (c.hart.pc / 4)) s.even);
    fetches = λ m m' c same.
        same_effect m m' c same (plan lim c (m (c.hart.pc / 4)))
        ∙ ap (effect lim m' c.hart) (plan_alike lim c (m (c.hart.pc / 4)) (m' (c.hart.pc / 4)) (λ l. same (c.hart.pc / 4) (omega arith)));
  }
