-- The write-back layer's own pairs.
use Rattle.std.specs.Prelude.{◌≡◌, ℕ, Bool, true, false, List, Some, None}
use Rattle.memory.specs.Lanes.{merged}
use Rattle.section.specs.View.{held, replaced}

-- whether i is among the pairs ps; if so, its pair gets the named bytes of w
abbrev pub Changed : List (ℕ × ℕ) → ℕ → ℕ → ℕ → Bool → List (ℕ × ℕ) → Type 0
Changed ps i w lanes true ps' = (old : ℕ) × (held ps i ≡ Some old) × (ps' ≡ replaced ps i (merged old w lanes))
Changed ps i w lanes false ps' = (held ps i ≡ None) × (ps' ≡ ps)
