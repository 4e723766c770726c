-- Where what is among a row stands in it: what the table's law rests on.
use Rattle.std.specs.Prelude.{◌≡◌, ℕ, ◌<◌, Bool, true, false, ◌||◌, ◌≢◌, List, ◌∷◌, length, take, ◌==◌, slice_index}
use Rattle.std.proofs.Common.{arith}
use Rattle.std.proofs.lemmas.Bool.{eqb-true, ne_eqb}
use Rattle.std.proofs.lemmas.List.{get_or-take, get_or_default, length-take}
use Rattle.std.proofs.lemmas.List.Folds.{Any-from_list_any}
use Rattle.index_sets.specs.Sets.{among}

pub or_no : (x y : Bool) → x ≡ false → (x || y) ≡ y
or_no x y e = rw e

-- what is not the first of a row is among it if it is among the rest
pub among_tail : (xs : List ℕ) (x k : ℕ) → (k ≢ x) → among (x ∷ xs) k ≡ among xs k
among_tail xs x k ne = or_no (k == x) (among xs k) (ne_eqb k x ne)

-- what is among a row has a place in it
pub among_place : (xs : List ℕ) (i : ℕ) → among xs i ≡ true → (j : ℕ) × (j < length xs) × (slice_index xs j ≡ i)
among_place xs i e =
    let p = Any-from_list_any (λ x. i == x) xs e in
    let j = p.0 in
    (j, p.2, omega (arith, p.3, eqb-true i p.1 p.4, get_or_default xs j p.1 0 p.2))

-- if the first n of a row lie below 16,384, so does all that is among them
pub among_small : (xs : List ℕ) (n k : ℕ) → ((j : ℕ) → j < n → slice_index xs j < 16384) → among (take n xs) k ≡ true → k < 16384
among_small xs n k small e =
    let p = among_place (take n xs) k e in
    let l : p.0 < n = omega (arith, p.1, length-take n xs) in
    omega (arith, small p.0 l, p.2, get_or-take n xs p.0 0 l)
