-- The number of each refusal of a memory.
use Rattle.std.specs.Prelude.{◌≡◌, ℕ, Ok, Err, Result}
use Rattle.memory.specs.declared.Refusal.{Refusal}
use Rattle.memory.specs.declared.Refusal.TheVariants.{OutOfRange}

abbrev pub number : Refusal → ℕ
number OutOfRange = 20

-- the answer is the refusal with this number
abbrev pub Refused : {A : Type 0} → ℕ → Result A Refusal → Type 0
Refused n (Ok x) = ⊥
Refused n (Err e) = number e ≡ n
