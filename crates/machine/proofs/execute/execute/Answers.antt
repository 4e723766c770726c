use Rattle.std.proofs.Common.{refl, ◌∙◌}
use Rattle.std.proofs.lemmas.Result.{err_from_is_err_and}
use Rattle.machine.proofs.Ends.{runs_end}
use Rattle.machine.proofs.Executes.{ran_image, fits_image}
use Rattle.machine.proofs.execute.execute.Goals as goal

pub returns-in_err-machine : goal.returns-in_err-machine
returns-in_err-machine g c =
    let p = err_from_is_err_and c.from_residual.result c.from_residual.ensures.1 in
    let e = c.in_err-machine.ensures in
    record {
      execute = rw (p.1, p.2) (e.load.0, e.load.1, refl);
      ends = runs_end;
      memory_home = e.home;
      log_home = refl;
    }

-- a machine that was loaded fits its memories
pub returns-in_err-stop : goal.returns-in_err-stop
returns-in_err-stop g c =
    let e = c.in_ok-machine.ensures in
    let bs = c.args.bytes.now in
    let ws = g.M.Memory.words c.args.memory.now in
    let log = g.L.Memory.words c.args.log.now in
    absurd (c.in_err-stop.ensures.run.small
    (fits_image bs ws log e.load.0 c.in_ok-machine.machine (g.M.Memory.words c.load.new.memory) e.load.1 e.load.2))

pub returns : goal.returns
returns g c =
    let e = c.in_ok-machine.ensures in
    let r = c.in_ok-stop.ensures in
    record {
      execute = ran_image c.args.bytes.now (g.M.Memory.words c.args.memory.now) (g.L.Memory.words c.args.log.now) e.load.0
          c.in_ok-machine.machine (g.M.Memory.words c.load.new.memory) e.load.1 e.load.2
          c.run.new.self.core (g.M.Memory.words c.run.new.memory) (g.L.Memory.words c.run.new.log) c.in_ok-stop.stop r.run.2;
      ends = runs_end;
      memory_home = r.memory_home ∙ e.home;
      log_home = r.log_home;
    }
