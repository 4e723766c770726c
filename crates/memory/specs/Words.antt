-- What look and put answer, and what a put leaves, over a memory of the words ws.
use Rattle.std.specs.Prelude.{◌≡◌, ℕ, ◌<◌, ◌≤◌, List, length, take, Ok, Result, slice_index, slice_set}
use Rattle.std.proofs.Common.{arith, length-take}
use Rattle.memory.specs.declared.Refusal.{Refusal}
use Rattle.memory.specs.Refusals.{Refused}

-- the words in use of a row are few
pub front_few : (ws : List ℕ) → length (take 16384 ws) ≤ 16384
front_few ws = omega (arith, length-take 16384 ws)

-- word i, or refusal 20 exactly if there is none
abbrev pub Looked : List ℕ → ℕ → Result ℕ Refusal → Type 0
Looked ws i r = (i < length ws → r ≡ Ok (slice_index ws i)) × (length ws ≤ i → Refused 20 r)

-- word i becomes w, or refusal 20 exactly if there is none, which changes nothing
abbrev pub Put : List ℕ → ℕ → ℕ → List ℕ → Result (Unit {0}) Refusal → Type 0
Put ws i w ws' r =
    (i < length ws → (r ≡ Ok tt) × (ws' ≡ slice_set ws i w)) × (length ws ≤ i → Refused 20 r × (ws' ≡ ws))
