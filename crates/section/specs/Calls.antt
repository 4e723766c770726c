-- What read, write and held answer and leave: over the words ws and the view v before the call, ws' and v' after it.
-- What these leave open is free.
use Rattle.std.specs.Prelude.{◌≡◌, ℕ, ◌<◌, ◌≤◌, Bool, true, false, cond, ◌||◌, ◌⊎◌, List, length, Some, None, Ok, Err, Result, ◌==◌, slice_index_or, slice_set}
use Rattle.memory.specs.Lanes.{merged}
use Rattle.index_sets.specs.Sets.{joined, SomeIn}
use Rattle.section.specs.declared.Refusal.{Refusal}
use Rattle.section.specs.Refusals.{number, Refused}
use Rattle.section.specs.View.{View, fresh, held, seen, Apart}

-- ---- read

-- i is in R or in F
abbrev pub known : View → ℕ → Bool
known v i = v.reads i || v.writes i

-- the view with i in R
abbrev pub with_read : View → ℕ → View
with_read v i = record { reads = joined v.reads i; writes = v.writes; pairs = v.pairs }

-- i enters R, or the read is refused 21, which it is not while R is empty
abbrev pub Entered : List ℕ → View → ℕ → Result ℕ Refusal → View → Type 0
Entered ws v i (Ok w) v' = (w ≡ seen ws v i) × (v' ≡ with_read v i)
Entered ws v i (Err e) v' = (number e ≡ 21) × SomeIn v.reads × (v' ≡ v)

-- read(i)
pub record Read (ws : List ℕ) (v : View) (i : ℕ) (r : Result ℕ Refusal) (ws' : List ℕ) (v' : View) : Type 0 where
  pub range : length ws ≤ i → Refused 20 r × (v' ≡ v)
  pub again : i < length ws → known v i ≡ true → (r ≡ Ok (seen ws v i)) × (v' ≡ v)
  pub first : i < length ws → known v i ≡ false → Entered ws v i r v'
  pub words : ws' ≡ ws

-- ---- write

-- the call is refused with this number and changes nothing
abbrev pub Declined : ℕ → List ℕ → View → Result (Unit {0}) Refusal → List ℕ → View → Type 0
Declined n ws v r ws' v' = Refused n r × (ws' ≡ ws) × (v' ≡ v)

-- the new word goes in place; with all four bytes the index may enter F
pub record Stored (ws : List ℕ) (v : View) (i new lanes : ℕ) (r : Result (Unit {0}) Refusal) (ws' : List ℕ) (v' : View) : Type 0 where
  pub accepted : r ≡ Ok tt
  pub words : ws' ≡ slice_set ws i new
  pub reads : v'.reads ≡ v.reads
  pub writes : (v'.writes ≡ v.writes) ⊎ ((lanes ≡ 15) × (v'.writes ≡ joined v.writes i))
  pub pairs : v'.pairs ≡ v.pairs

-- the new word is held for i, and for other indexes what was; the pairs differ in their indexes and stand in any order
pub record HeldBack (h : ℕ) (ws : List ℕ) (v : View) (i new : ℕ) (ws' : List ℕ) (v' : View) : Type 0 where
  pub words : ws' ≡ ws
  pub reads : v'.reads ≡ v.reads
  pub writes : v'.writes ≡ v.writes
  pub holds : (k : ℕ) → held v'.pairs k ≡ cond (k == i) (Some new) (held v.pairs k)
  pub apart : Apart v'.pairs
  pub few : length v'.pairs ≤ h
  -- a further pair is not taken where there are h
  pub room : held v.pairs i ≡ None → length v.pairs < h

-- the new word is held, or, if i is not held already, the write is refused 21
abbrev pub Kept : ℕ → List ℕ → View → ℕ → ℕ → Result (Unit {0}) Refusal → List ℕ → View → Type 0
Kept h ws v i new (Ok _) ws' v' = HeldBack h ws v i new ws' v'
Kept h ws v i new (Err e) ws' v' = (held v.pairs i ≡ None) × Declined 21 ws v (Err e) ws' v'

-- write(i, w, lanes) to a section memory that holds at most h pairs
pub record Write (h : ℕ) (ws : List ℕ) (v : View) (i w lanes : ℕ) (r : Result (Unit {0}) Refusal) (ws' : List ℕ) (v' : View) : Type 0 where
  pub range : length ws ≤ i → Declined 20 ws v r ws' v'
  pub unnamed : i < length ws → (lanes ≡ 0) ⊎ (15 < lanes) → Declined 23 ws v r ws' v'
  pub outside : i < length ws → 0 < lanes → lanes ≤ 15 → v.reads i ≡ false →
      Stored ws v i (merged (seen ws v i) w lanes) lanes r ws' v'
  pub inside : i < length ws → 0 < lanes → lanes ≤ 15 → v.reads i ≡ true →
      Kept h ws v i (merged (seen ws v i) w lanes) r ws' v'

-- the same after forget, by a section memory that holds some number of pairs: what it does to the words
abbrev pub FirstWrite : List ℕ → ℕ → ℕ → ℕ → Result (Unit {0}) Refusal → List ℕ → Type 0
FirstWrite ws i w lanes r ws' = (h : ℕ) × (v' : View) × Write h ws fresh i w lanes r ws' v'

-- ---- held

-- held(k): pair k, or refusal 24 exactly if there is none
abbrev pub Held : List (ℕ × ℕ) → ℕ → Result (ℕ × ℕ) Refusal → Type 0
Held ps k r = (k < length ps → r ≡ Ok (slice_index_or ps k (0, 0))) × (length ps ≤ k → Refused 24 r)
