-- What became of an image.
use Rattle.std.specs.Prelude.{◌≡◌, ℕ, List, Some, None, Ok, Err, Result, vec_items}
use Rattle.image.specs.Image.{header}
use Rattle.hart.specs.Stops.{number}
use Rattle.machine.specs.Run.{run_end, run_stop, run_outputs}
use Rattle.machine.specs.Refusals.{as_no, load_refusal}
use Rattle.lerpuod.specs.declared.execution.Run.{Run}
use Rattle.lerpuod.specs.declared.execution.NoRun.{NoRun}
use Rattle.lerpuod.specs.declared.execution.NoRun.TheVariants.{Refused, Memory}

-- the end of the image's uninterrupted run
pub record Ran (bs : List ℕ) (r : Run) : Type 0 where
  pub header_is : r.header ≡ header bs
  pub core_is : r.end.core ≡ (run_end bs).core
  pub stop_is : number r.end.stop ≡ run_stop bs
  pub outputs_are : vec_items r.outputs ≡ run_outputs bs

-- what an image comes to; nothing is said of one that finds no memory
abbrev pub OutcomeOf : List ℕ → Result Run NoRun → Type 0
OutcomeOf bs (Ok r) = (load_refusal bs 16384 16384 ≡ None) × Ran bs r
OutcomeOf bs (Err (Refused e)) = load_refusal bs 16384 16384 ≡ Some (as_no e)
OutcomeOf bs (Err Memory) = Unit {0}
