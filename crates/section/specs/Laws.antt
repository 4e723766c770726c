-- What follows from the meaning of the calls, for every section memory.
use Rattle.std.specs.Prelude.{◌≡◌, ℕ, ◌<◌, ◌≤◌, cond, List, length, Ok, Result, ◌==◌, slice_index}
use Rattle.memory.specs.Lanes.{merged}
use Rattle.memory.specs.Words.{Put}
use Rattle.section.specs.declared.Refusal.{Refusal}
use Rattle.section.specs.View.{View, Facts, fresh, seen}
use Rattle.section.specs.Calls.{Read, Write}

pub record SectionLaws : Type 0 where
  -- a section memory that has just forgotten refuses no read below its size, and no write of at least one byte
  pub first_read : (ws : List ℕ) (i : ℕ) (r : Result ℕ Refusal) (ws' : List ℕ) (v' : View) →
      i < length ws → Read ws fresh i r ws' v' → r ≡ Ok (slice_index ws i)
  pub first_write : (h : ℕ) (ws : List ℕ) (i w lanes : ℕ) (r : Result (Unit {0}) Refusal) (ws' : List ℕ) (v' : View) →
      i < length ws → 0 < lanes → lanes ≤ 15 → Write h ws fresh i w lanes r ws' v' → r ≡ Ok tt
  -- an accepted read answers the seen word; no read changes a seen word
  pub read_answers : (ws : List ℕ) (v : View) (i w : ℕ) (ws' : List ℕ) (v' : View) →
      Read ws v i (Ok w) ws' v' → w ≡ seen ws v i
  pub read_seen : (ws : List ℕ) (v : View) (i : ℕ) (r : Result ℕ Refusal) (ws' : List ℕ) (v' : View) →
      Read ws v i r ws' v' → (k : ℕ) → seen ws' v' k ≡ seen ws v k
  -- after an accepted write the new word is seen at its index, and elsewhere what was seen
  pub write_seen : (h : ℕ) (ws : List ℕ) (v : View) (i w lanes : ℕ) (ws' : List ℕ) (v' : View) →
      Facts h v → Write h ws v i w lanes (Ok tt) ws' v' →
      (k : ℕ) → seen ws' v' k ≡ cond (k == i) (merged (seen ws v i) w lanes) (seen ws v k)
  -- neither breaks a fact
  pub read_keeps : (h : ℕ) (ws : List ℕ) (v : View) (i : ℕ) (r : Result ℕ Refusal) (ws' : List ℕ) (v' : View) →
      i < 16384 → Facts h v → Read ws v i r ws' v' → Facts h v'
  pub write_keeps : (h : ℕ) (ws : List ℕ) (v : View) (i w lanes : ℕ) (r : Result (Unit {0}) Refusal) (ws' : List ℕ) (v' : View) →
      Facts h v → Write h ws v i w lanes r ws' v' → Facts h v'
  -- an accepted put changes one standing word
  pub put_word : (ws : List ℕ) (i w : ℕ) (ws' : List ℕ) →
      Put ws i w ws' (Ok tt) → (k : ℕ) → slice_index ws' k ≡ cond (k == i) w (slice_index ws k)
