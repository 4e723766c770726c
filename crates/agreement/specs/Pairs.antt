-- Held pairs: the words seen through them, tests of them, and how they may stand after a write.
use Rattle.std.specs.Prelude.{ℕ, zero, suc, Bool, true, false, cond, not, ◌&&◌, ◌||◌, List, [], ◌∷◌, ◌++◌, length, is_some, Some, None, Option, ◌==◌, nat_le, nat_lt}
use Rattle.memory.specs.Contents.{Mem}
use Rattle.index_sets.specs.Sets.{IndexTest}
use Rattle.std.specs.Option.{unwrap_or}
use Rattle.section.specs.View.{held, replaced}

-- an index and the word held for it
abbrev pub Pair : Type 0
Pair = ℕ × ℕ

-- the words m as they are seen while the pairs are held back
abbrev pub seen_over : Mem → List Pair → Mem
seen_over m ps i = unwrap_or (held ps i) (m i)

abbrev pub is_held : List Pair → ℕ → Bool
is_held ps i = is_some (held ps i)

-- the indexes differ
abbrev pub apart : List Pair → Bool
apart [] = true
apart (p ∷ ps) = not (is_held ps p.0) && apart ps

-- the indexes are from T on and below W
abbrev pub between : ℕ → ℕ → List Pair → Bool
between T W [] = true
between T W (p ∷ ps) = (nat_le T p.0 && nat_lt p.0 W) && between T W ps

-- w is held for i: in its place, or as a further pair
unfoldable pub hold : ℕ → ℕ → List Pair → List Pair
hold i w ps = cond (is_held ps i) (replaced ps i w) (ps ++ (i, w) ∷ [])

abbrev pub is_word : Option ℕ → ℕ → Bool
is_word (Some v) w = v == w
is_word None w = false

-- the words of ps are held by qs
abbrev pub all_held : List Pair → List Pair → Bool
all_held [] qs = true
all_held (p ∷ ps) qs = is_word (held qs p.0) p.1 && all_held ps qs

-- the pairs ps as a section memory gives them: in any order, without repeating an index, at most H of them; a list that says
-- anything else counts for nothing
unfoldable pub arranged : ℕ → List Pair → List Pair → List Pair
arranged H given ps = cond ((apart given && nat_le (length given) H) && (all_held given ps && all_held ps given)) given ps

unfoldable pub some_below : ℕ → IndexTest → Bool
some_below zero r = false
some_below (suc n) r = r n || some_below n r

-- a set of indexes below 16,384 is not empty
unfoldable pub inhabited : IndexTest → Bool
inhabited r = some_below 16384 r
