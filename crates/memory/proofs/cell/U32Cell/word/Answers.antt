use Rattle.std.proofs.Common.{◌∙◌, arith, length-take}
use Rattle.std.proofs.lemmas.List.{take_min}
use Rattle.memory.proofs.Items.{item}
use Rattle.memory.proofs.cell.U32Cell.word.Goals as goal

pub slice_bounds-get-end : goal.slice_bounds-get-end
slice_bounds-get-end c = omega (arith, length-take c.count.result c.args.cells.now, length-take 16384 c.args.cells.now, c.count.ensures.count)

pub returns : goal.returns
returns c =
    c.copied.ensures
    ∙ item _ c.args.index c.get.result c.get.ensures.lookup
    ∙ rw (c.count.ensures.count, length-take, take_min)
