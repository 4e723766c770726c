-- Whatever a section memory that keeps its meaning answers, it makes one of the turns of the definition, by some choice.
use Rattle.std.specs.Prelude.{◌≡◌, ℕ, ◌<◌, ◌≤◌, Bool, true, false, cond, List, length, Ok, Err, Result, ◌==◌}
use Rattle.memory.specs.Contents.{word}
use Rattle.section.specs.declared.Refusal.{Refusal}
use Rattle.section.specs.Refusals.{number}
use Rattle.section.specs.View.{View, Facts}
use Rattle.section.specs.Calls.{Read, Write}
use Rattle.hart.specs.State.{next}
use Rattle.hart.specs.declared.state.Hart.{Hart}
use Rattle.machine.specs.Processor.{load, store}
use Rattle.agreement.specs.Board.{Board}
use Rattle.agreement.specs.Turns.{Section, Choice, Deed, idle, write, torn, Turn, turn, run, later, sealing, perform}
use Rattle.agreement.specs.Charge.{Bank, reachable, apply}

-- the stop number of the seal that follows a refused access: none where a checkpoint is due
abbrev pub seal_stop : Refusal → ℕ
seal_stop e = cond (number e == 21) 0 8

-- a load whose read answered r and left the view v: the section goes on, or is sealed
abbrev pub load_turn : Section → (ℕ → Hart) → Result ℕ Refusal → View → Turn
load_turn s f (Ok w) v = turn idle (run (later s (next s.core (f w)) v))
load_turn s f (Err e) v = sealing s (seal_stop e)

-- an accepted write: held if its index is in R, in place otherwise
abbrev pub write_deed : Bool → ℕ → ℕ → ℕ → Deed
write_deed true i lanes w = idle
write_deed false i lanes w = write i lanes w

-- a store whose write answered r and left the view v
abbrev pub store_turn : Section → ℕ → ℕ → ℕ → Hart → Result (Unit {0}) Refusal → View → Turn
store_turn s i lanes w h (Ok _) v = turn (write_deed (s.view.reads i) i lanes w) (run (later s (next s.core h) v))
store_turn s i lanes w h (Err e) v = sealing s (seal_stop e)

-- of what stands in k, in the running section s
pub record TurnsMade (b : Board) (k : Bank) (s : Section) : Type 0 where
  pub loads : (i : ℕ) (f : ℕ → Hart) (r : Result ℕ Refusal) (ws : List ℕ) (v : View) → Read k.words s.view i r ws v →
      (ch : Choice) × (perform b ch (word k.words) s (reachable (length k.words) (load i f)) ≡ load_turn s f r v)
  pub stores : (i lanes w : ℕ) (h : Hart) (r : Result (Unit {0}) Refusal) (ws : List ℕ) (v : View) → 0 < lanes → lanes ≤ 15 →
      Write b.most k.words s.view i w lanes r ws v →
      (ch : Choice) × (perform b ch (word k.words) s (reachable (length k.words) (store i lanes w h)) ≡ store_turn s i lanes w h r v)
      × (ws ≡ (apply b (store_turn s i lanes w h r v).deed k).words)
  -- a torn write hands over t in place of w
  pub torn_stores : (i lanes w t : ℕ) (h : Hart) (r : Result (Unit {0}) Refusal) (ws : List ℕ) (v : View) → 0 < lanes → lanes ≤ 15 →
      Write b.most k.words s.view i t lanes r ws v →
      (ch : Choice)
      × ((perform b ch (word k.words) s (reachable (length k.words) (store i lanes w h))).deed ≡ (store_turn s i lanes w h r v).deed)
      × (ws ≡ (apply b (torn t (store_turn s i lanes w h r v).deed) k).words)

abbrev pub AnySectionMemory : Type 0
AnySectionMemory = (b : Board) (k : Bank) (s : Section) → Facts b.most s.view → TurnsMade b k s
