use Rattle.std.proofs.Common.{◌≡◌, ◌-◌}
use Rattle.machine.proofs.Turns as turns
use Rattle.machine.proofs.Machine.run.Given as goal

pub record Running (g : goal.Over) (l : goal.Live-loop-stop g) : Type 0 where
  pub run :
      turns.Running l.initial.self.limits l.initial.self.core (g.M.Memory.words l.initial.memory) (g.L.Memory.words l.initial.log)
      l.self.limits l.self.core (g.M.Memory.words l.memory) (g.L.Memory.words l.log)
  pub memory_home : g.M.Memory.fixed l.memory ≡ g.M.Memory.fixed l.initial.memory
  pub log_home : g.L.Memory.fixed l.log ≡ g.L.Memory.fixed l.initial.log

abbrev pub invariant-loop-stop : goal.invariant-loop-stop
invariant-loop-stop g l = Running g l

abbrev pub decreases-loop-stop : goal.decreases-loop-stop
decreases-loop-stop g l = l.self.limits.instructions - l.self.core.ran
