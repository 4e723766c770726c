use Rattle.std.proofs.Common.{◌∙◌}
use Rattle.machine.proofs.Turns.{fewer_left, goes_on, finishes}
use Rattle.machine.proofs.Machine.run.Goals as goal

pub returns-in-Some-clause-run : goal.returns-in-Some-clause-run
returns-in-Some-clause-run g c =
    let r = c.loop-stop.invariant.run in
    (c.in_ok-check_sizes.ensures.sizes, c.advance.ensures.limits ∙ r.limits, finishes _ _ _ _ _ _ _ _ r _ _ _ _ c.in-Some.ensures.step)

pub loop-stop-smaller : goal.loop-stop-smaller
loop-stop-smaller g c =
    rw c.advance.ensures.limits (fewer_left _ _ _ _ _ _ _ c.in_default.ensures.step)

pub loop-stop-preserved : goal.loop-stop-preserved
loop-stop-preserved g c =
    let i = c.loop-stop.invariant in
    record {
      run = goes_on _ _ _ _ _ _ _ _ i.run _ _ _ _ c.advance.ensures.limits c.in_default.ensures.step;
      memory_home = c.advance.ensures.memory_home ∙ i.memory_home;
      log_home = c.advance.ensures.log_home ∙ i.log_home;
    }
