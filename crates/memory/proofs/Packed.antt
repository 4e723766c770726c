-- The words of a row of bytes, and a word that is put there.
use Rattle.std.proofs.Common.{◌≡◌, ℕ, zero, suc, ◌+◌, ◌*◌, ◌/◌, ◌<◌, ◌≤◌, ◌≢◌, List, [], length, get_or, take, drop, set, Option, slice_get, sym, refl, ap, ◌∙◌, arith, w32}
use Rattle.std.specs.Int.{to_le_bytes, from_le_bytes}
use Rattle.std.specs.Option.{option_map}
use Rattle.std.specs.Simd.{first_chunks}
use borrow.Rule.Slice.PartMut.{put_mid}
use lib.Lanes.{put_chunk}
use Rattle.std.proofs.lemmas.Bool.{cases_eq, cases_lt}
use Rattle.std.proofs.lemmas.List.FromFn.{length-map-range_with_len, get_or-map-range_with_len, fill_by_all}
use Rattle.std.proofs.lemmas.List.{length-take, get_or-take, get_or-drop, get_or-set_same, get_or-set_other, length-set}
use Rattle.std.proofs.lemmas.Option.{slice_get-get_or, slice_get_past}
use Rattle.std.proofs.lemmas.Slice.{drop-put_mid}
use Rattle.std.proofs.lemmas.Simd.{length-put_chunk, put_chunk_is, get_or-put_chunk_below, get_or-put_chunk_at, get_or-put_chunk_above}
use Rattle.memory.specs.Bytes.{word_at, packed_size, packed, beside, WordIs}

pub packed_length : (bs : List ℕ) → length (packed bs) ≡ packed_size bs
packed_length bs = length-map-range_with_len (word_at bs) 0 (packed_size bs)

pub packed_at : (bs : List ℕ) (i : ℕ) → i < packed_size bs → get_or (packed bs) i 0 ≡ word_at bs i
packed_at bs i h = get_or-map-range_with_len (word_at bs) 0 (packed_size bs) i i 0 h (omega arith)

-- a word that is read in the part of the row that has words
pub packed_get : (bs : List ℕ) (i n : ℕ) (r : Option ℕ) → n ≡ packed_size bs → WordIs (take (4 * n) bs) i r → r ≡ slice_get (packed bs) i
packed_get bs i n r e h =
    grind (arith, cases_lt i n, length-take, get_or-take, packed_length, packed_at, slice_get-get_or (packed bs) i 0, slice_get_past)

-- a word is a chunk of four bytes
pub chunk_word : (n : ℕ) (bs : List ℕ) (i : ℕ) (d : List ℕ) → i < n → from_le_bytes w32 (get_or (first_chunks 4 n bs) i d) ≡ word_at bs i
chunk_word zero bs i d h = absurd (omega arith)
chunk_word (suc n) bs zero d h = grind (arith, get_or-take)
chunk_word (suc n) bs (suc i) d h = chunk_word n (drop 4 bs) i d (omega arith) ∙ grind (arith, get_or-drop)

pub chunk_is : (bs : List ℕ) (i : ℕ) (cs : List (List ℕ)) → cs ≡ first_chunks 4 (length bs / 4) bs → length cs ≡ length bs / 4 → WordIs bs i (option_map (from_le_bytes w32) (slice_get cs i))
chunk_is bs i cs are count = grind (arith, slice_get-get_or cs i [], slice_get_past, chunk_word)

module _ (bs : List ℕ) (i w : ℕ) (low : i < packed_size bs) (fits : w < 4294967296) where
  -- the row with a word's bytes put in
  abbrev written : List ℕ
  written = put_chunk (4 * i) bs (to_le_bytes w32 w)

  byte : (k j : ℕ) → j < 4 → 4 * i + j ≡ k → get_or written k 0 ≡ get_or (to_le_bytes w32 w) j 0
  byte k j h e = ap (λ (z : ℕ). get_or written z 0) (sym e) ∙ get_or-put_chunk_at (4 * i) bs (to_le_bytes w32 w) j 0 h (omega arith)

  word_same : word_at written i ≡ w
  word_same =
      omega (
        arith,
        byte (4 * i) 0 (omega arith) (omega arith),
        byte (4 * i + 1) 1 (omega arith) refl,
        byte (4 * i + 2) 2 (omega arith) refl,
        byte (4 * i + 3) 3 (omega arith) refl,
      )

  word_other : (k : ℕ) → k ≢ i → word_at written k ≡ word_at bs k
  word_other k ne = grind (arith, get_or-put_chunk_below, get_or-put_chunk_above)

  same_size : packed_size written ≡ packed_size bs
  same_size = rw length-put_chunk refl

  written_word : (k : ℕ) → k < packed_size written → get_or (set (packed bs) i w) k 0 ≡ word_at written k
  written_word k h = grind (arith, cases_eq k i, get_or-set_same, get_or-set_other, packed_length, packed_at, same_size, word_same, word_other)

  packed_written : packed written ≡ set (packed bs) i w
  packed_written =
      sym (fill_by_all (word_at written) (set (packed bs) i w) (packed_size written) 0
      (length-set (packed bs) i w ∙ packed_length bs ∙ sym same_size)
      written_word)

  -- a write to a part of the row leaves it so
  module _ (n : ℕ) (ws : List ℕ) (four : n ≡ 4) (bytes : ws ≡ to_le_bytes w32 w) where
    written_is : put_mid (4 * i) n bs ws ≡ written
    written_is = let room : 4 * i + 4 ≤ length bs = omega arith in rw (four, bytes, put_chunk_is)

    pub packed_put : packed (put_mid (4 * i) n bs ws) ≡ set (packed bs) i w
    packed_put = ap packed written_is ∙ packed_written

    pub beside_put : beside (put_mid (4 * i) n bs ws) ≡ beside bs
    beside_put =
        ap (λ (z : ℕ). drop (4 * z) (put_mid (4 * i) n bs ws)) (ap packed_size written_is ∙ same_size)
        ∙ drop-put_mid (4 * i) n bs ws (4 * packed_size bs) (omega arith) (omega arith) (ap length bytes ∙ sym four)
