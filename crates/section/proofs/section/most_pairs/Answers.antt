use Rattle.section.proofs.Laws.{section_laws}
use Rattle.section.proofs.section.most_pairs.Goals as goal

pub returns-clause-laws : goal.returns-clause-laws
returns-clause-laws c = section_laws
