use Rattle.std.proofs.Common.{rules}
use Rattle.image.specs.Image.{header}
use Rattle.image.proofs.header.Header.of.Goals as goal

pub returns : goal.returns
unfolding header
returns c = search rules
