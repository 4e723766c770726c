-- What an index set means: by a test of membership.
use Rattle.std.specs.Prelude.{◌≡◌, ℕ, ◌/◌, ◌%◌, ◌<◌, ◌≤◌, Bool, true, false, ◌&&◌, ◌||◌, List, Ok, Err, Result, ◌==◌, nat_lt, slice_index}
use Rattle.std.specs.Int.{bit_at}
use Rattle.std.specs.List.{list_any}
use Rattle.index_sets.specs.declared.Refusal.{Refusal}
use Rattle.index_sets.specs.Refusals.{number, Refused}

-- a set of indexes: m i tells whether i is in it
abbrev pub IndexTest : Type 0
IndexTest = ℕ → Bool

abbrev pub none : IndexTest
none k = false

-- the set with i in it
abbrev pub joined : IndexTest → ℕ → IndexTest
joined m i k = k == i || m k

-- the set is not empty
abbrev pub SomeIn : IndexTest → Type 0
SomeIn m = (k : ℕ) × (m k ≡ true)

-- add(i) of an index below 16,384: the set m' has i in it; or, free but for a set that is empty or has i, refusal 22 and no change
abbrev pub Takes : IndexTest → ℕ → Result (Unit {0}) Refusal → IndexTest → Type 0
Takes m i (Ok _) m' = m' ≡ joined m i
Takes m i (Err e) m' = (number e ≡ 22) × (m i ≡ false) × SomeIn m × (m' ≡ m)

-- add(i): refusal 20 and no change from 16,384 on
abbrev pub Took : IndexTest → ℕ → Result (Unit {0}) Refusal → IndexTest → Type 0
Took m i r m' = (16384 ≤ i → Refused 20 r × (m' ≡ m)) × (i < 16384 → Takes m i r m')

-- the set of what is in a list
abbrev pub among : List ℕ → IndexTest
among xs k = list_any (λ x. k == x) xs

-- the set of the indexes below 16,384 whose bits are set in a row of words
abbrev pub marked : List ℕ → IndexTest
marked ws i = nat_lt i 16384 && bit_at (slice_index ws (i / 32)) (i % 32) == 1
