use Rattle.std.proofs.Common.{map, string_bytes, ap}
use Rattle.lerpuod.specs.Commands.{texts}
use Rattle.lerpuod.proofs.command.alone.Goals as goal

pub returns-in-Some : goal.returns-in-Some
returns-in-Some c = (texts c.next.new.self, ap (map string_bytes) c.in-Some.ensures.items)
