-- What a memory holds, as a function from index to word: the form in which machines are defined.
use Rattle.std.specs.Prelude.{ℕ, cond, List, map, ◌==◌, slice_index}
use Rattle.std.specs.List.{range_with_len}

-- word i of m is m i
abbrev pub Mem : Type 0
Mem = ℕ → ℕ

-- the words of a list, 0 past its end
abbrev pub word : List ℕ → Mem
word ws i = slice_index ws i

-- m with w as word i
unfoldable pub put : Mem → ℕ → ℕ → Mem
put m i w j = cond (j == i) w (m j)

-- n words of m, from word a on
abbrev pub words_from : Mem → ℕ → ℕ → List ℕ
words_from m a n = map m (range_with_len a n)
