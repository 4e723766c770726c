use Rattle.std.proofs.Common.{◌∙◌}
use Rattle.index_sets.proofs.Among.{among_found}
use Rattle.index_sets.proofs.table.TableIndexSet.has.Goals as goal

pub returns : goal.returns
returns c = c.is_some.ensures ∙ among_found _ _ _ c.place.ensures
