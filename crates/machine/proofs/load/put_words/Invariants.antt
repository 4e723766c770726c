use Rattle.std.proofs.Common.{◌≡◌}
use Rattle.machine.specs.Calls.{Filled, whole_words}
use Rattle.machine.proofs.load.put_words.Given as goal

pub record Filling (g : goal.Over) (l : goal.Live-loop-i g) : Type 0 where
  pub words : Filled (whole_words l.image.memory.now) l.i (g.M.Memory.words l.initial.memory) (g.M.Memory.words l.memory)
  pub home : g.M.Memory.fixed l.memory ≡ g.M.Memory.fixed l.initial.memory

abbrev pub invariant-loop-i : goal.invariant-loop-i
invariant-loop-i g l = Filling g l
