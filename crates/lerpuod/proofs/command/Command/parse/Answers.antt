use Rattle.std.proofs.Common.{◌∙◌, map, string_bytes, ap}
use Rattle.lerpuod.specs.Commands.{texts}
use Rattle.lerpuod.proofs.command.Command.parse.Goals as goal

pub returns-in_default-as_str : goal.returns-in_default-as_str
returns-in_default-as_str c = (
  texts c.next.new.self,
  ap (map string_bytes) c.in-Some.ensures.items,
  λ h. c.in_default-as_str.not-uninterrupted (c.as_str.ensures.value ∙ h),
  λ h. c.in_default-as_str.not-help (c.as_str.ensures.value ∙ h),
)
