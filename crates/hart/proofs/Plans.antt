-- What holds of every action that is planned: it is planned below the limit, and stays within the memory and the outputs.
use Rattle.std.proofs.Common.{◌≡◌, ℕ, ◌+◌, ◌*◌, ◌/◌, ◌%◌, ◌<◌, ◌≤◌, Bool, true, false, not, ◌&&◌, eqb, ltb, leb, Ok, Err, refl, ap, arith}
use Rattle.std.proofs.lemmas.Bool.{leb-false, ltb-false, cond_both}
use Rattle.rv32i.specs.Decode.{Decoded, decode}
use Rattle.rv32i.specs.declared.instruction.LoadKind.{LoadKind}
use Rattle.rv32i.specs.declared.instruction.StoreKind.{StoreKind}
use Rattle.rv32i.specs.declared.instruction.Instruction.{Instruction}
use Rattle.rv32i.specs.declared.instruction.Instruction.TheVariants.{Lui, Auipc, Jal, Jalr, Branch, Load, Store, Op, OpImm, Fence, Ecall, Ebreak}
use Rattle.hart.specs.Registers.{reg}
use Rattle.hart.specs.Alu.{wrap, holds, load_width, store_width}
use Rattle.hart.specs.State.{after}
use Rattle.hart.specs.Plan.{jump, load, port, output, is_word, store, perform, execute, plan}
use Rattle.hart.specs.declared.state.Hart.{Hart}
use Rattle.hart.specs.declared.state.Core.{Core}
use Rattle.hart.specs.declared.action.Action.{Action}
use Rattle.hart.specs.declared.action.Action.TheVariants as action
use Rattle.hart.specs.declared.action.Limits.{Limits}

abbrev pub Within : Limits → Core → Action → Type 0
Within lim c (action.Halt z) = Unit {0}
Within lim c (action.Next to r v) = c.ran < lim.instructions
Within lim c (action.Load k r i b) = (c.ran < lim.instructions) × (i < lim.words)
Within lim c (action.Store i w lanes) = (c.ran < lim.instructions) × (lim.text ≤ i) × (i < lim.words)
Within lim c (action.Output w) = (c.ran < lim.instructions) × (c.sent < lim.outputs)

module _ (lim : Limits) (c : Core) (runs : c.ran < lim.instructions) where
  abbrev In : Action → Type 0
  In a = Within lim c a

  within_jump : (target r v : ℕ) → In (jump target r v)
  within_jump target r v = cond_both (eqb (target % 4) 0) _ _ In (λ _. runs) (λ _. tt)

  within_load : (pc : ℕ) (k : LoadKind) (r a : ℕ) → In (load lim pc k r a)
  within_load pc k r a =
      cond_both (eqb r 0) _ _ In (λ _. runs) λ _.
      cond_both (not (eqb (a % load_width k) 0)) _ _ In (λ _. tt) λ _.
      cond_both (leb (4 * lim.words) a) _ _ In (λ _. tt) λ e.
      (runs, omega (arith, leb-false (4 * lim.words) a e))

  within_output : (v : ℕ) → In (output lim c.sent v)
  within_output v =
      cond_both (leb lim.outputs c.sent) _ _ In (λ _. tt) (λ e. (runs, leb-false lim.outputs c.sent e))

  within_store : (k : StoreKind) (v a : ℕ) → In (store lim c.sent k v a)
  within_store k v a =
      cond_both (not (eqb (a % store_width k) 0)) _ _ In (λ _. tt) λ _.
      cond_both (is_word k && eqb a port) _ _ In (λ _. within_output v) λ _.
      cond_both (leb (4 * lim.words) a) _ _ In (λ _. tt) λ e.
      cond_both (ltb a (4 * lim.text)) _ _ In (λ _. tt) λ f.
      (runs, omega (arith, ltb-false a (4 * lim.text) f), omega (arith, leb-false (4 * lim.words) a e))

  within_perform : (h : Hart) (i : Instruction) → In (perform lim h c.sent i)
  within_perform h (Lui r imm) = runs
  within_perform h (Auipc r imm) = runs
  within_perform h (Jal r offset) = within_jump (wrap (h.pc + offset)) r (after h.pc)
  within_perform h (Jalr r a offset) = within_jump (wrap (reg h.x a + offset) / 2 * 2) r (after h.pc)
  within_perform h (Branch d a b offset) =
      cond_both (holds d (reg h.x a) (reg h.x b)) _ _ In (λ _. within_jump (wrap (h.pc + offset)) 0 0) (λ _. runs)
  within_perform h (Load k r a offset) = within_load h.pc k r (wrap (reg h.x a + offset))
  within_perform h (Store k a b offset) = within_store k (reg h.x b) (wrap (reg h.x a + offset))
  within_perform h (Op o r a b) = runs
  within_perform h (OpImm o r a imm) = runs
  within_perform h Fence = runs
  within_perform h Ecall = tt
  within_perform h Ebreak = tt

  within_execute : (h : Hart) (d : Decoded Instruction) → In (execute lim h c.sent d)
  within_execute h (Err e) = tt
  within_execute h (Ok i) = within_perform h i

pub within_plan : (lim : Limits) (c : Core) (w : ℕ) → Within lim c (plan lim c w)
within_plan lim c w =
    cond_both (leb lim.instructions c.ran) _ _ (Within lim c) (λ _. tt) λ e.
    cond_both (leb (4 * lim.text) c.hart.pc) _ _ (Within lim c) (λ _. tt) λ _.
    within_execute lim c (leb-false lim.instructions c.ran e) c.hart (decode w)

-- the word at pc counts only inside the text
pub plan_alike : (lim : Limits) (c : Core) (w w' : ℕ) → (c.hart.pc < 4 * lim.text → w ≡ w') → plan lim c w ≡ plan lim c w'
plan_alike lim c w w' same = go (leb (4 * lim.text) c.hart.pc) refl
  where
    go : (b : Bool) → leb (4 * lim.text) c.hart.pc ≡ b → plan lim c w ≡ plan lim c w'
    go true e = simp e
    go false e = ap (plan lim c) (same (leb-false (4 * lim.text) c.hart.pc e))
