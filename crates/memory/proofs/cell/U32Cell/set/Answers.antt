use Rattle.std.proofs.Common.{refl, arith, length-take}
use Rattle.std.proofs.Math.Seq.{take-set-lt}
use Rattle.std.proofs.lemmas.List.{drop-set-lt}
use Rattle.memory.proofs.cell.U32Cell.set.Goals as goal

pub bounds-cells-index : goal.bounds-cells-index
bounds-cells-index c = omega (arith, length-take 16384 c.args.cells.now, c.count.ensures.count)

pub returns-clause-put : goal.returns-clause-put
returns-clause-put c = (
  λ _. (refl, take-set-lt 16384 c.args.cells.now c.args.index c.args.word (omega (arith, c.count.ensures.few))),
  λ h. absurd (omega (arith, c.count.ensures.count)),
)

pub returns-clause-beside : goal.returns-clause-beside
returns-clause-beside c = drop-set-lt 16384 c.args.cells.now c.args.index c.args.word (omega (arith, c.count.ensures.few))
