-- The set of what is in a row, and one index more at its end.
use Rattle.std.specs.Prelude.{◌≡◌, ℕ, ◌+◌, ◌<◌, true, false, ◌≢◌, List, length, take, ◌==◌, Some, None, Option, is_some, slice_index, slice_index_or, slice_set}
use Rattle.std.proofs.Common.{sym, ap, ◌∙◌, ⊎_elim, arith}
use Rattle.std.proofs.lemmas.Bool.{eq-eqb, ne_eqb, cases_eq, false≢true}
use Rattle.std.proofs.lemmas.List.{get_or-set_same, get_or-set_other, get_or-take, get_or_default, length-take}
use Rattle.std.proofs.lemmas.List.Folds.{list_any_at, list_any_none}
use Rattle.index_sets.specs.Finding.{Found}
use Rattle.index_sets.specs.Sets.{among}

pub among_at : (xs : List ℕ) (j i : ℕ) → j < length xs → slice_index xs j ≡ i → among xs i ≡ true
among_at xs j i h e = list_any_at (λ x. i == x) xs j 0 h (eq-eqb i (slice_index xs j) (sym e))

-- whether a place was found tells whether the index is in the set
pub among_found : (xs : List ℕ) (i : ℕ) (r : Option ℕ) → Found xs i r → is_some r ≡ among xs i
among_found xs i (Some k) f = sym (among_at xs k i f.0 f.1)
among_found xs i None f =
    sym (list_any_none (λ x. i == x) xs (λ k d l. ne_eqb i _ (λ e. f k l (get_or_default xs k 0 d l ∙ sym e))))

-- ---- one index more at the end of a row in use up to n
module _ (xs : List ℕ) (n i : ℕ) (room : n < length xs) where
  pub small_push : i < 16384 → ((j : ℕ) → j < n → slice_index xs j < 16384) →
      (j : ℕ) → j < n + 1 → slice_index (slice_set xs n i) j < 16384
  small_push l h j k =
      ⊎_elim (λ e. omega (arith, get_or-set_same xs n i 0 room, ap (λ (z : ℕ). slice_index (slice_set xs n i) z) e)) (λ (ne : j ≢ n). rw get_or-set_other (h j (omega arith))) (cases_eq j n)

  pub apart_push : among (take n xs) i ≡ false →
      ((j k : ℕ) → j < k → k < n → slice_index xs j ≢ slice_index xs k) →
      (j k : ℕ) → j < k → k < n + 1 → slice_index (slice_set xs n i) j ≢ slice_index (slice_set xs n i) k
  apart_push new h j k lt in' e =
      let nj : j ≢ n = omega arith in
      let a : slice_index_or (slice_set xs n i) j 0 ≡ slice_index_or xs j 0 = get_or-set_other xs n j i 0 nj in
      ⊎_elim
      (λ q.
      let b : slice_index_or xs j 0 ≡ i = sym a ∙ e ∙ ap (λ (z : ℕ). slice_index (slice_set xs n i) z) q ∙ get_or-set_same xs n i 0 room in
      let t : among (take n xs) i ≡ true =
      among_at (take n xs) j i (simp length-take (omega arith)) (get_or-take n xs j 0 (omega arith) ∙ b) in
      false≢true (sym new ∙ t))
      (λ (nk : k ≢ n). h j k lt (omega arith) (sym a ∙ e ∙ get_or-set_other xs n k i 0 nk))
      (cases_eq k n)
