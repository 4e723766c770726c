use Rattle.std.proofs.Common.{◌*◌, ◌∙◌, arith, length-take, rules}
use Rattle.memory.proofs.Packed.{packed_length, packed_get}
use Rattle.memory.proofs.cell.U8Cell.word.Goals as goal

pub slice_bounds-word_at-end : goal.slice_bounds-word_at-end
slice_bounds-word_at-end c = omega (arith, length-take (4 * c.count.result) c.args.cells.now, packed_length c.args.cells.now, c.count.ensures.count)

pub returns : goal.returns
returns c =
    let looked =
    packed_get c.args.cells.now c.args.index c.count.result c.word_at.result
    (c.count.ensures.count ∙ packed_length c.args.cells.now) c.word_at.ensures in
    search rules
