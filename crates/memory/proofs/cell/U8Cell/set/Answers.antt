use Rattle.std.proofs.Common.{refl, ◌∙◌, arith}
use Rattle.memory.proofs.Packed.{packed_length, packed_put, beside_put}
use Rattle.memory.proofs.cell.U8Cell.set.Goals as goal

pub slice_bounds-copy_from_slice-end : goal.slice_bounds-copy_from_slice-end
slice_bounds-copy_from_slice-end c = omega (arith, packed_length c.args.cells.now, c.count.ensures.count)

pub returns-clause-put : goal.returns-clause-put
returns-clause-put c = (
  λ _. (
    refl,
    packed_put c.args.cells.now c.args.index c.args.word (omega (arith, packed_length c.args.cells.now, c.count.ensures.count)) (omega arith) _ _ (omega arith)
        (c.copy_from_slice.ensures.after ∙ c.to_le_bytes.ensures),
  ),
  λ h. absurd (omega (arith, c.count.ensures.count)),
)

pub returns-clause-beside : goal.returns-clause-beside
returns-clause-beside c =
    beside_put c.args.cells.now c.args.index c.args.word (omega (arith, packed_length c.args.cells.now, c.count.ensures.count)) (omega arith) _ _ (omega arith)
    (c.copy_from_slice.ensures.after ∙ c.to_le_bytes.ensures)
