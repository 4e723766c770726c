-- Refusals as they are printed.
use Rattle.std.specs.Prelude.{ℕ, List, [], ◌∷◌, ◌++◌, codes, decimal}
use Rattle.machine.specs.declared.Refusal.{Refusal}
use Rattle.machine.specs.Refusals.{number, values, reason}

-- each after a blank
abbrev pub spaced : List ℕ → List ℕ
spaced [] = []
spaced (v ∷ vs) = codes " " ++ (decimal v ++ spaced vs)

-- the refusal's number, its values, and its reason in plain words
abbrev pub refused : Refusal → List ℕ
refused e = codes "refused " ++ (decimal (number e) ++ (spaced (values e) ++ (codes ": " ++ reason e)))
