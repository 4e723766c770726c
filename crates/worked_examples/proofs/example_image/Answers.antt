use Rattle.std.proofs.Common.{refl}
use Rattle.worked_examples.proofs.Examples.{worked_examples}
use Rattle.worked_examples.proofs.example_image.Goals as goal

pub returns : goal.returns
returns c = record { bytes = refl; examples = worked_examples }
