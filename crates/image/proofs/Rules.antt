-- The rules of header words, asked in order, and the first that is broken.
use Rattle.std.proofs.Common.{◌≡◌, ℕ, zero, suc, ◌<◌, Bool, true, false, leb, List, [], ◌∷◌, map, length, Some, None, Option, MatchOption, Bor, refl, ap, ◌∙◌, arith}
use Rattle.std.specs.List.{AllWithin, HoldsAt}
use Rattle.std.specs.Ordering.{partial_le, nat_cmp}
use Rattle.std.specs.Range.{range_inclusive_contains, range_inclusive_start, range_inclusive_end, range_inclusive_exhausted}
use Rattle.std.specs.declared.ops.RangeInclusive.{RangeInclusive}
use Rattle.std.proofs.lemmas.Bool.Decides.{nat_tests}
use Rattle.image.specs.Questions.{first_no}
use Rattle.image.specs.Refusals.{position}
use Rattle.image.specs.Image.{between, bad, asked}
use Rattle.image.specs.declared.header.HeaderWord.{HeaderWord}

-- whether a rule holds, and the word that it is of
abbrev pub Rule : Type 0
Rule = Bool × HeaderWord

abbrev pub Holds : Rule → Type 0
Holds r = r.0 ≡ true

abbrev pub Fails : Rule → Type 0
Fails r = r.0 ≡ false

none_broken : (rs : List Rule) → AllWithin Holds rs 0 (length rs) → first_no (map asked rs) ≡ None
none_broken [] h = refl
none_broken (r ∷ rs) h =
    let holds : Holds r = h 0 r (omega arith) (omega arith) in
    rw holds (none_broken rs (λ k d l m. h (suc k) d (omega arith) (omega arith)))

first_broken : (rs : List Rule) (x : Rule) (i : ℕ) → i < length rs → HoldsAt (λ r. r ≡ x) rs i → AllWithin Holds rs 0 i → Fails x
    → first_no (map asked rs) ≡ Some (bad (position x.1))
first_broken [] x i low at before wrong = absurd (omega arith)
first_broken (r ∷ rs) x zero low at before wrong =
    let fails : Fails r = ap (λ (q : Rule). q.0) (at r) ∙ wrong in
    rw fails (ap (λ (q : Rule). Some (bad (position q.1))) (at r))
first_broken (r ∷ rs) x (suc i) low at before wrong =
    let holds : Holds r = before 0 r (omega arith) (omega arith) in
    rw holds (first_broken rs x i (omega arith) at (λ k d l m. before (suc k) d (omega arith) (omega arith)) wrong)

-- the first rule that does not hold gives the first no
pub first_asked : (rs : List Rule) (r : Option (Bor Rule))
    → MatchOption r (AllWithin Holds rs 0 (length rs)) (λ x. Fails x.now × (i : ℕ) × (i < length rs) × HoldsAt (λ q. q ≡ x.now) rs i × AllWithin Holds rs 0 i)
    → MatchOption r (first_no (map asked rs) ≡ None) (λ x. first_no (map asked rs) ≡ Some (bad (position x.now.1)))
first_asked rs None h = none_broken rs h
first_asked rs (Some x) h = first_broken rs x.now h.1 h.2 h.3 h.4 h.0

le_is : (a b : ℕ) → partial_le (λ (x y : ℕ). Some (nat_cmp x y)) a b ≡ leb a b
le_is a b = grind (arith, nat_tests)

-- what a range that was just made answers of a number
pub between_ends : (s : RangeInclusive ℕ) (low n high : ℕ) (r : Bool)
    → range_inclusive_start s ≡ low → range_inclusive_end s ≡ high → range_inclusive_exhausted s ≡ false
    → r ≡ range_inclusive_contains (λ (x y : ℕ). Some (nat_cmp x y)) s n → r ≡ between low n high
unfolding between
between_ends s low n high r from to new is = is ∙ simp (from, to, new, le_is)
