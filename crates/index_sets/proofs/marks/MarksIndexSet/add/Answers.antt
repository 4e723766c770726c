use Rattle.std.proofs.Common.{arith}
use Rattle.index_sets.proofs.Marking.{marked_add}
use Rattle.index_sets.proofs.marks.MarksIndexSet.add.Goals as goal

pub returns-clause-took : goal.returns-clause-took
returns-clause-took c =
    ((λ h. absurd (omega arith)), λ h. marked_add c.args.self.now.words c.args.index h (omega arith))
