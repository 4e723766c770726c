-- Lists of words as functions from index to word.
use Rattle.std.proofs.Common.{◌≡◌, ℕ, ◌<◌, ◌≤◌, ◌≢◌, List, ◌++◌, length, drop, set, sym, ◌∙◌, arith, length-append, length-drop}
use mathlib.Core.Path.{fun_ext}
use Rattle.std.proofs.lemmas.List.FromFn.{length-map-range_with_len, get_or-map-range_with_len}
use Rattle.std.proofs.lemmas.List.{get_or-set_same, get_or-set_other, ext_get_or, get_or_append_left, get_or-append_right, get_or-drop}
use Rattle.memory.specs.Contents.{Mem, word, put, words_from}

pub put_same : (m : Mem) (i w : ℕ) → put m i w i ≡ w
unfolding put
put_same m i w = grind arith

pub put_other : (m : Mem) (i w j : ℕ) → j ≢ i → put m i w j ≡ m j
unfolding put
put_other m i w j n = grind arith

-- a word that is put into a list is put into its contents
pub word_set : (ws : List ℕ) (i w : ℕ) → i < length ws → word (set ws i w) ≡ put (word ws) i w
unfolding put
word_set ws i w h = fun_ext λ j. grind (arith, get_or-set_same, get_or-set_other)

-- a list whose first n words are those of m: its words and its length
pub fronted_low : (m : Mem) (n : ℕ) (ws : List ℕ) (k : ℕ) → k < n → word (words_from m 0 n ++ drop n ws) k ≡ m k
fronted_low m n ws k h = grind (arith, get_or_append_left, length-map-range_with_len, get_or-map-range_with_len)

pub fronted_high : (m : Mem) (n : ℕ) (ws : List ℕ) (k : ℕ) → n ≤ k → word (words_from m 0 n ++ drop n ws) k ≡ word ws k
fronted_high m n ws k h = grind (arith, get_or-append_right, get_or-drop, length-map-range_with_len)

pub fronted_length : (m : Mem) (n : ℕ) (ws : List ℕ) → n ≤ length ws → length (words_from m 0 n ++ drop n ws) ≡ length ws
fronted_length m n ws h = grind (arith, length-append, length-map-range_with_len, length-drop)

-- and a list is known by these
pub fronted : (m : Mem) (n : ℕ) (ws ws' : List ℕ) → n ≤ length ws → length ws' ≡ length ws
    → ((k : ℕ) → k < n → word ws' k ≡ m k) → ((k : ℕ) → n ≤ k → word ws' k ≡ word ws k)
    → ws' ≡ words_from m 0 n ++ drop n ws
fronted m n ws ws' fits same front back =
    ext_get_or 0 ws' (words_from m 0 n ++ drop n ws) (same ∙ sym (fronted_length m n ws fits)) λ k h.
    grind (arith, front, back, fronted_low, fronted_high)
