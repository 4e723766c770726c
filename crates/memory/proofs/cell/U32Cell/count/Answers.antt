use Rattle.std.proofs.Common.{arith, length-take}
use Rattle.memory.proofs.cell.U32Cell.count.Goals as goal

pub returns-clause-count : goal.returns-clause-count
returns-clause-count c = omega (arith, length-take 16384 c.args.cells.now, c.min.ensures)
