-- The number of each refusal of a section memory.
use Rattle.std.specs.Prelude.{◌≡◌, ℕ, Ok, Err, Result}
use Rattle.section.specs.declared.Refusal.{Refusal}
use Rattle.section.specs.declared.Refusal.TheVariants.{OutOfRange, Due, Lanes, NoPair}

abbrev pub number : Refusal → ℕ
number OutOfRange = 20
number Due = 21
number Lanes = 23
number NoPair = 24

-- the answer is the refusal with this number
abbrev pub Refused : {A : Type 0} → ℕ → Result A Refusal → Type 0
Refused n (Ok x) = ⊥
Refused n (Err e) = number e ≡ n
