-- The set of the marked indexes, and one mark more.
use Rattle.std.specs.Prelude.{◌≡◌, ℕ, ◌*◌, ◌/◌, ◌%◌, ◌^◌, ◌<◌, ◌≢◌, List, length, replicate, bit_or, slice_index, slice_set}
use Rattle.std.proofs.Common.{sym, ap, ◌∙◌, ⊎_elim, arith}
use Rattle.std.specs.Int.{bit_at, w32}
use Rattle.std.proofs.lemmas.Nat.{mod_below}
use Rattle.std.proofs.lemmas.Nat.Bits.{bit_at-zero, bit_at_set_same, bit_at_set_other}
use Rattle.std.proofs.lemmas.Bool.{cases_eq, cases_lt}
use Rattle.std.proofs.lemmas.Bool.Decides.{nat_tests}
use Rattle.std.proofs.lemmas.List.{get_or-set_same, get_or-set_other, get_or-replicate, get_or_past, length-replicate}
use Rattle.index_sets.specs.Sets.{joined, none, marked}

-- ---- bit i set in a row of words
module _ (ws : List ℕ) (i : ℕ) (low : i < 16384) (room : i / 32 < length ws) where
  abbrev added : List ℕ
  added = slice_set ws (i / 32) (bit_or (slice_index ws (i / 32)) (1 * 2 ^ (i % 32) % 2 ^ 32))

  bit_set : bit_at (slice_index added (i / 32)) (i % 32) ≡ 1
  bit_set =
      ap (λ (z : ℕ). bit_at z (i % 32)) (get_or-set_same ws (i / 32) _ 0 room)
      ∙ bit_at_set_same w32 (slice_index ws (i / 32)) (i % 32) (mod_below i 32 (omega arith))

  bit_kept : (k : ℕ) → k ≢ i → bit_at (slice_index added (k / 32)) (k % 32) ≡ bit_at (slice_index ws (k / 32)) (k % 32)
  bit_kept k ne =
      ⊎_elim
      (λ (q : k / 32 ≡ i / 32).
      ap (λ (z : ℕ). bit_at z (k % 32)) (ap (slice_index added) q ∙ get_or-set_same ws (i / 32) _ 0 room)
      ∙ bit_at_set_other w32 (slice_index ws (i / 32)) (i % 32) (mod_below i 32 (omega arith)) (k % 32) (omega arith)
      ∙ ap (λ (z : ℕ). bit_at (slice_index ws z) (k % 32)) (sym q))
      (λ (q : k / 32 ≢ i / 32). ap (λ (z : ℕ). bit_at z (k % 32)) (get_or-set_other ws (i / 32) (k / 32) _ 0 q))
      (cases_eq (k / 32) (i / 32))

  added_at : (k : ℕ) → marked added k ≡ joined (marked ws) i k
  added_at k = let s = bit_set in let e = bit_kept k in grind (arith, nat_tests)

  pub marked_add : marked added ≡ joined (marked ws) i
  marked_add = λ p k. added_at k p

-- ---- no bit set
zeros_at : (n k : ℕ) → ◌≡◌ {A = ℕ} (slice_index (replicate n 0) k) 0
zeros_at n k = grind (arith, cases_lt k n, get_or-replicate, get_or_past, length-replicate)

marked_none_at : (k : ℕ) → marked (replicate 512 0) k ≡ none k
marked_none_at k =
    let e = ap (λ (z : ℕ). bit_at z (k % 32)) (zeros_at 512 (k / 32)) ∙ bit_at-zero (k % 32) in grind (arith, nat_tests)

pub marked_none : marked (replicate 512 0) ≡ none
marked_none = λ p k. marked_none_at k p
