use Rattle.std.proofs.Common.{arith}
use Rattle.memory.proofs.Packed.{packed_length}
use Rattle.memory.proofs.cell.U8Cell.count.Goals as goal

pub returns-clause-count : goal.returns-clause-count
returns-clause-count c = omega (arith, packed_length c.args.cells.now, c.min.ensures)
