-- The words of a row of bytes.
use Rattle.std.specs.Prelude.{◌≡◌, ℕ, ◌+◌, ◌*◌, ◌/◌, ◌<◌, ◌≤◌, min, List, length, drop, Some, None, Option, slice_index}
use Rattle.std.proofs.Common.{arith}
use Rattle.std.proofs.lemmas.List.FromFn.{length-map-range_with_len}
use Rattle.memory.specs.Contents.{words_from}

-- word i of a row of bytes, least significant byte first
abbrev pub word_at : List ℕ → ℕ → ℕ
word_at bs i =
    slice_index bs (4 * i) + slice_index bs (4 * i + 1) * 256 + slice_index bs (4 * i + 2) * 65536 + slice_index bs (4 * i + 3) * 16777216

-- how many words a row of bytes has, at most 16,384
abbrev pub packed_size : List ℕ → ℕ
packed_size bs = min 16384 (length bs / 4)

-- the words of a row of bytes
abbrev pub packed : List ℕ → List ℕ
packed bs = words_from (word_at bs) 0 (packed_size bs)

-- they are few
pub packed_few : (bs : List ℕ) → length (packed bs) ≤ 16384
packed_few bs = omega (arith, length-map-range_with_len (word_at bs) 0 (packed_size bs))

-- the bytes after the last word in use
abbrev pub beside : List ℕ → List ℕ
beside bs = drop (4 * packed_size bs) bs

-- word i of a row of bytes, none exactly if the row ends before it does
abbrev pub WordIs : List ℕ → ℕ → Option ℕ → Type 0
WordIs bs i r = (4 * i + 3 < length bs → r ≡ Some (word_at bs i)) × (length bs ≤ 4 * i + 3 → r ≡ None)
