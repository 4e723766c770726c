-- A refusal changes nothing.
use Rattle.std.specs.Prelude.{◌≡◌, ℕ, List}
use Rattle.section.specs.View.{View}
use Rattle.agreement.specs.Turns.{Choice}
use Rattle.agreement.specs.Calls.{Kind, Runner, refused, Outcome, load, attach, Call, call}

abbrev pub Unchanged : Runner → Outcome → Type 0
Unchanged r o = (n : ℕ) (v : List ℕ) → o.0 ≡ refused n v → o.1 ≡ r

abbrev pub RefusalsChangeNothing : Type 0
RefusalsChangeNothing =
    (kind : Kind) (r : Runner)
    → ((marks : View) (bs : List ℕ) → Unchanged r (load kind marks bs r))
    × ((bs : List ℕ) → Unchanged r (attach kind bs r))
    × ((ch : ℕ → Choice) (c : Call) → Unchanged r (call kind ch c r))
