-- A charge as a loop of ticks, and a list of calls as a loop: each turn brings its own choices.
use Rattle.std.specs.Prelude.{◌≡◌, ℕ, suc, ◌≤◌, List, [], ◌∷◌, ◌++◌}
use Rattle.section.specs.View.{View, fresh}
use Rattle.agreement.specs.Board.{Board}
use Rattle.agreement.specs.Turns.{Choice, finished}
use Rattle.agreement.specs.Charge.{At, tick, spend}
use Rattle.agreement.specs.Calls.{Kind, Runner, accepted, load, Call, call, History}
use Rattle.agreement.specs.Agreement.{Agrees}

-- n ticks have led from a to a'
pub data Ticked (b : Board) (a : At) : ℕ → At → Type 0 where
  none : Ticked b a 0 a
  more : {n : ℕ} {a' : At} → Ticked b a n a' → (ch : Choice) → Ticked b a (suc n) (tick b ch a')

-- a charge cut after all its units: the loop made them, and the last choice is the torn action's
abbrev pub TicksAreSpent : Type 0
TicksAreSpent =
    (b : Board) (a a' : At) (n : ℕ) (last : Choice) → Ticked b a n a' →
    (ch : ℕ → Choice) × (spend b ch n a ≡ a') × (ch n ≡ last)

-- a charge that finished: the loop stopped there, and the units left change nothing
abbrev pub FinishIsSpent : Type 0
FinishIsSpent =
    (b : Board) (a a' : At) (n units : ℕ) → Ticked b a n a' → n ≤ units → a'.phase ≡ finished → a'.marks ≡ fresh →
    (ch : ℕ → Choice) × (spend b ch units a ≡ a')

-- these calls were made, with these answers, and have led from r to r'
pub data Made (kind : Kind) (r : Runner) : History → Runner → Type 0 where
  none : Made kind r [] r
  more : {es : History} {r' : Runner} → Made kind r es r' → (ch : ℕ → Choice) (c : Call) →
      Made kind r (es ++ (c, (call kind ch c r').0) ∷ []) (call kind ch c r').1

abbrev pub MadeAgree : Type 0
MadeAgree =
    (kind : Kind) (bs : List ℕ) (r r' : Runner) (marks : View) → (load kind marks bs r).0 ≡ accepted →
    (es : History) → Made kind (load kind marks bs r).1 es r' → Agrees kind bs es r'.bank
