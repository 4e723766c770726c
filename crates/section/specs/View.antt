-- What a section memory means beside its words, and the facts where its calls have a meaning.
use Rattle.std.specs.Prelude.{◌≡◌, ℕ, ◌<◌, ◌≤◌, true, cond, List, [], ◌∷◌, length, Some, None, Option, ◌==◌, ◌≢◌, slice_index}
use Rattle.std.specs.Map.{lookup}
use Rattle.std.specs.Option.{unwrap_or}
use Rattle.index_sets.specs.Sets.{IndexTest, none}

-- the read-first set R, the write-first set F, and the held pairs, each an index and a word
pub record View : Type 0 where
  pub reads : IndexTest
  pub writes : IndexTest
  pub pairs : List (ℕ × ℕ)

-- what forget leaves
abbrev pub fresh : View
fresh = record { reads = none; writes = none; pairs = [] }

-- the word held for i
abbrev pub held : List (ℕ × ℕ) → ℕ → Option ℕ
held ps i = lookup (λ k. i == k) ps

-- the seen word i: the word held for i if there is one, otherwise word i
abbrev pub seen : List ℕ → View → ℕ → ℕ
seen ws v i = unwrap_or (held v.pairs i) (slice_index ws i)

-- the pairs with another word in the one for i, which stays in its place
abbrev pub replaced : List (ℕ × ℕ) → ℕ → ℕ → List (ℕ × ℕ)
replaced [] i w = []
replaced (p ∷ ps) i w = cond (i == p.0) (i, w) p ∷ replaced ps i w

-- the indexes of the pairs are all different
abbrev pub Apart : List (ℕ × ℕ) → Type 0
Apart [] = Unit {0}
Apart (p ∷ ps) = (held ps p.0 ≡ None) × Apart ps

-- the facts of every section memory that holds at most h pairs
pub record Facts (h : ℕ) (v : View) : Type 0 where
  pub below : (k : ℕ) → v.reads k ≡ true → k < 16384
  pub disjoint : (k : ℕ) → v.reads k ≡ true → v.writes k ≢ true
  pub apart : Apart v.pairs
  pub inside : (k w : ℕ) → held v.pairs k ≡ Some w → v.reads k ≡ true
  pub few : length v.pairs ≤ h
  pub cap : h ≤ 64

-- all facts hold, those too that a layer adds: here read, write, held and the number of pairs have a meaning
pub record Meant (h : ℕ) (v : View) (added : Type 0) : Type 0 where
  pub facts : Facts h v
  pub layer : added
