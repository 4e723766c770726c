use Rattle.index_sets.proofs.Marking.{marked_none}
use Rattle.index_sets.proofs.marks.Marks.new.Goals as goal

pub returns : goal.returns
returns c = marked_none
