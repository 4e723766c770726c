-- What arguments ask for.
use Rattle.std.specs.Prelude.{◌≡◌, ℕ, ◌⊎◌, List, [], ◌∷◌, map, string_bytes, codes, String, ◌≢◌}
use Rattle.std.specs.Vec.Iter.{into_iter_items}
use Rattle.std.specs.declared.vec.IntoIter.{IntoIter}
use Rattle.lerpuod.specs.declared.command.Command.{Command}
use Rattle.lerpuod.specs.declared.command.Command.TheVariants.{Example, Uninterrupted, Help}
use Rattle.lerpuod.specs.declared.command.Misuse.{Misuse}
use Rattle.lerpuod.specs.declared.command.Misuse.TheVariants.{Unknown, NoImage, Extra}

-- the arguments that are still to come
abbrev pub texts : {Y Z : Type 0} → IntoIter (String Y) Z → List (List ℕ)
texts args = map string_bytes (into_iter_items args)

-- the arguments are the command
abbrev pub Asks : List (List ℕ) → Command → Type 0
Asks ts Example = ts ≡ []
Asks ts (Uninterrupted image) = ts ≡ codes "uninterrupted" ∷ string_bytes image ∷ []
Asks ts Help = ts ≡ codes "help" ∷ []

-- the first of them is the one too many
abbrev pub ExtraFirst : List (List ℕ) → Misuse → Type 0
ExtraFirst ts (Unknown name) = ⊥
ExtraFirst ts NoImage = ⊥
ExtraFirst ts (Extra text) = (rest : List (List ℕ)) × (ts ≡ string_bytes text ∷ rest)

-- the arguments are no command
abbrev pub Misuses : List (List ℕ) → Misuse → Type 0
Misuses ts (Unknown name) =
    (rest : List (List ℕ)) × (ts ≡ string_bytes name ∷ rest)
    × (string_bytes name ≢ codes "uninterrupted") × (string_bytes name ≢ codes "help")
Misuses ts NoImage = ts ≡ codes "uninterrupted" ∷ []
Misuses ts (Extra text) =
    ((rest : List (List ℕ)) × (ts ≡ codes "help" ∷ string_bytes text ∷ rest))
    ⊎ ((image : List ℕ) × (rest : List (List ℕ)) × (ts ≡ codes "uninterrupted" ∷ image ∷ string_bytes text ∷ rest))
