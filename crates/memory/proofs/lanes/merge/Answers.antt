use Rattle.std.proofs.Common.{rules}
use Rattle.memory.specs.Lanes.{byte, names, pick, merged}
use Rattle.memory.proofs.lanes.merge.Goals as goal

pub returns : goal.returns
unfolding byte names pick merged
returns c = search rules
