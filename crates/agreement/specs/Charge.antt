-- A charge: what stands after a cut, one tick, many ticks, and the cut.
use Rattle.std.specs.Prelude.{ℕ, zero, suc, ◌+◌, Bool, true, false, cond, ◌&&◌, List, length, nat_lt, slice_index, slice_set}
use Rattle.memory.specs.Contents.{word}
use Rattle.memory.specs.Lanes.{merged}
use Rattle.section.specs.View.{View, fresh}
use Rattle.machine.specs.Processor.{Effect, stop, quiet, load, store, emit}
use Rattle.agreement.specs.Board.{Board}
use Rattle.agreement.specs.Store.{commit_word, other, current_start, other_start, pair_at, current}
use Rattle.agreement.specs.Turns.{Phase, restart, settle, run, seal, finished, Input, Choice, Deed, idle, write, output, fill, commit, torn, Turn, sealed, upcoming, marks_after}

-- what stands after a cut: the section memory's words, the output log, the checkpoint store
pub record Bank : Type 0 where
  pub words : List ℕ
  pub log : List ℕ
  pub store : List ℕ

-- within a charge: what stands, the section memory's sets and pairs, the phase, the ticks used and the instructions run so far
pub record At : Type 0 where
  pub bank : Bank
  pub marks : View
  pub phase : Phase
  pub used : ℕ
  pub ran : ℕ

-- an access past the end of n words stops as one past the image's words does; a memory that load or attach accepted has no such end
abbrev pub reachable : ℕ → Effect → Effect
reachable n (stop z) = stop z
reachable n (quiet h) = quiet h
reachable n (load i f) = cond (nat_lt i n) (load i f) (stop 8)
reachable n (store i lanes w h) = cond (nat_lt i n) (store i lanes w h) (stop 8)
reachable n (emit w h) = emit w h

abbrev pub is_finished : Phase → Bool
is_finished restart = false
is_finished (settle k c) = false
is_finished (run s) = false
is_finished (seal k s) = false
is_finished finished = true

abbrev pub is_running : Phase → Bool
is_running restart = false
is_running (settle k c) = false
is_running (run s) = true
is_running (seal k s) = false
is_running finished = false

module _ (b : Board) where
  -- what a tick looks at
  abbrev pub input : Bank → Input
  input k =
      record {
        words = word k.words;
        act = λ c. reachable (length k.words) (b.act (word k.words) c);
        sealed = sealed (current b k.store);
        pair = pair_at (word k.store) (current_start b.most k.store);
      }

  abbrev pub apply : Deed → Bank → Bank
  apply idle k = k
  apply (write i lanes w) k = record { words = slice_set k.words i (merged (slice_index k.words i) w lanes); log = k.log; store = k.store }
  apply (output n w) k = record { words = k.words; log = slice_set k.log n w; store = k.store }
  apply (fill j w) k = record { words = k.words; log = k.log; store = slice_set k.store (other_start b.most k.store + j) w }
  apply (commit s) k = record { words = k.words; log = k.log; store = slice_set k.store 0 (other (commit_word k.store)) }

  abbrev pub ahead : Choice → At → Turn
  ahead ch a = upcoming b (b.due a.bank.store) ch (input a.bank) a.phase

  -- what a turn comes to: a tick is used unless the charge is finished, and an instruction ran if the section runs before and after
  abbrev pub done : Choice → Turn → At → At
  done ch t a =
      record {
        bank = apply t.deed a.bank;
        marks = marks_after ch a.phase t.phase a.marks;
        phase = t.phase;
        used = cond (is_finished a.phase) a.used (a.used + 1);
        ran = cond (is_running a.phase && is_running t.phase) (a.ran + 1) a.ran;
      }

  -- one tick
  abbrev pub tick : Choice → At → At
  tick ch a = done ch (ahead ch a) a

  -- a charge begins: the section memory forgets
  abbrev pub begin : Bank → At
  begin k = record { bank = k; marks = fresh; phase = restart; used = 0; ran = 0 }

  -- it spends units, a choice for each tick
  unfoldable pub spend : (ℕ → Choice) → ℕ → At → At
  spend ch zero a = a
  spend ch (suc n) a = spend (λ k. ch (suc k)) n (tick (ch zero) a)

  -- and ends: unless it finished, the next action is done with the torn word in place of its own, and the section memory forgets
  abbrev pub cut : Bool → Choice → ℕ → At → Bank
  cut true ch t a = a.bank
  cut false ch t a = apply (torn t (ahead ch a).deed) a.bank
