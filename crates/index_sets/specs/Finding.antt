-- What `find` answers, over the indexes that a row of entries tells.
use Rattle.std.specs.Prelude.{◌≡◌, ℕ, ◌<◌, List, length, Some, None, Option, ◌≢◌, slice_index}

-- a place that tells i, or none exactly if there is none
abbrev pub Found : List ℕ → ℕ → Option ℕ → Type 0
Found ks i (Some k) = (k < length ks) × (slice_index ks k ≡ i)
Found ks i None = (j : ℕ) → j < length ks → slice_index ks j ≢ i
