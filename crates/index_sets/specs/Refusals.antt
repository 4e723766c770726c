-- The number of each refusal of an index set.
use Rattle.std.specs.Prelude.{◌≡◌, ℕ, Ok, Err, Result}
use Rattle.index_sets.specs.declared.Refusal.{Refusal}
use Rattle.index_sets.specs.declared.Refusal.TheVariants.{OutOfRange, Full}

abbrev pub number : Refusal → ℕ
number OutOfRange = 20
number Full = 22

-- the answer is the refusal with this number
abbrev pub Refused : {A : Type 0} → ℕ → Result A Refusal → Type 0
Refused n (Ok x) = ⊥
Refused n (Err e) = number e ≡ n
