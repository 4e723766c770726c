-- What a detector does where the meaning of its calls leaves a choice: the answers of its sets decide.
use Rattle.std.specs.Prelude.{◌≡◌, ℕ, ◌<◌, ◌≤◌, true, false, List, [], length, Ok, Err, Result, slice_index}
use Rattle.index_sets.specs.declared.Refusal.{Refusal as SetRefusal}
use Rattle.index_sets.specs.Sets.{IndexTest, Took}
use Rattle.section.specs.declared.Refusal.{Refusal}
use Rattle.section.specs.declared.detector.Detector.{Detector}
use Rattle.section.specs.Refusals.{Refused}
use Rattle.section.specs.View.{View}
use Rattle.section.specs.Calls.{known}

-- a detector's view, by the meanings of its two sets: it holds no pair
abbrev pub sets : {M R F : Type 0} → (R → IndexTest) → (F → IndexTest) → Detector M R F → View
sets in-reads in-writes d = record { reads = in-reads d.reads; writes = in-writes d.writes; pairs = [] }

-- the read answers the word exactly if the set for R took the index
abbrev pub Decided : Result (Unit {0}) SetRefusal → ℕ → Result ℕ Refusal → Type 0
Decided (Ok _) w r = r ≡ Ok w
Decided (Err _) w r = Refused 21 r

-- read(i) of an index below the size
pub record DetectedRead (ws : List ℕ) (v : View) (i : ℕ) (r : Result ℕ Refusal) (v' : View) : Type 0 where
  pub again : i < length ws → known v i ≡ true → (r ≡ Ok (slice_index ws i)) × (v' ≡ v)
  pub first : i < length ws → known v i ≡ false →
      (a : Result (Unit {0}) SetRefusal) × Took v.reads i a v'.reads × Decided a (slice_index ws i) r

-- write(i, w, lanes) of an index below the size, with lanes from 1 to 15
pub record DetectedWrite (ws : List ℕ) (v : View) (i lanes : ℕ) (r : Result (Unit {0}) Refusal) (v' : View) : Type 0 where
  pub due : i < length ws → 0 < lanes → lanes ≤ 15 → v.reads i ≡ true → Refused 21 r
  pub whole : i < length ws → lanes ≡ 15 → v.reads i ≡ false →
      (r ≡ Ok tt) × ((a : Result (Unit {0}) SetRefusal) × Took v.writes i a v'.writes)
  pub part : i < length ws → 0 < lanes → lanes < 15 → v.reads i ≡ false → (r ≡ Ok tt) × (v'.writes ≡ v.writes)
