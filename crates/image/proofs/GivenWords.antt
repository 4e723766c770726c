-- The memory words of an image, as the bytes after its header have them.
use Rattle.std.proofs.Common.{◌≡◌, ℕ, ◌+◌, ◌*◌, ◌<◌, ◌≤◌, List, length, get_or, drop, Some, None, Option, sym, refl, ap, ◌∙◌, arith}
use Rattle.std.proofs.lemmas.List.FromFn.{length-map-range_with_len, get_or-map-range_with_len}
use Rattle.std.proofs.lemmas.List.{get_or-drop, length-drop}
use Rattle.memory.specs.Bytes.{word_at, WordIs}
use Rattle.image.specs.Image.{header, given_words, refusal}
use Rattle.image.proofs.Accepted.{accepted}

byte_after : (bs : List ℕ) (i j : ℕ) → 28 + i ≡ j → get_or (drop 28 bs) i 0 ≡ get_or bs j 0
byte_after bs i j e = get_or-drop 28 bs i 0 ∙ ap (λ (k : ℕ). get_or bs k 0) e

-- a word after the header, counted from the header's start
pub word_after : (bs : List ℕ) (i : ℕ) → word_at (drop 28 bs) i ≡ word_at bs (7 + i)
word_after bs i =
    omega (
      arith,
      byte_after bs (4 * i) (4 * (7 + i)) (omega arith),
      byte_after bs (4 * i + 1) (4 * (7 + i) + 1) (omega arith),
      byte_after bs (4 * i + 2) (4 * (7 + i) + 2) (omega arith),
      byte_after bs (4 * i + 3) (4 * (7 + i) + 3) (omega arith),
    )

pub given_length : (bs : List ℕ) → length (given_words bs) ≡ (header bs).given
unfolding given_words
given_length bs = length-map-range_with_len (word_at bs) 7 (header bs).given

pub given_at : (bs : List ℕ) (i : ℕ) → i < (header bs).given → get_or (given_words bs) i 0 ≡ word_at bs (7 + i)
unfolding given_words
given_at bs i h = get_or-map-range_with_len (word_at bs) 7 (header bs).given i (7 + i) 0 h refl

-- of an accepted image, a word that is asked for is the given one, none exactly if it is not given
module _ (bs : List ℕ) (yes : refusal bs ≡ None) (i : ℕ) (r : Option ℕ) (is : WordIs (drop 28 bs) i r) where
  four_each : length (drop 28 bs) ≡ 4 * (header bs).given
  four_each = let a = accepted bs yes in omega (arith, length-drop 28 bs)

  pub word_given : i < (header bs).given → r ≡ Some (get_or (given_words bs) i 0)
  word_given h = is.0 (omega (arith, four_each)) ∙ ap Some (word_after bs i ∙ sym (given_at bs i h))

  pub word_not_given : (header bs).given ≤ i → r ≡ None
  word_not_given h = is.1 (omega (arith, four_each))
