-- What an intermittent machine does next, tick by tick: restart, settling, the section's instructions, the seal.
use Rattle.std.specs.Prelude.{ℕ, zero, suc, ◌+◌, Bool, true, false, cond, not, ◌&&◌, ◌||◌, List, length, ◌==◌, nat_le, nat_lt, slice_index}
use Rattle.memory.specs.Contents.{Mem}
use Rattle.memory.specs.Lanes.{merged}
use Rattle.index_sets.specs.Sets.{IndexTest, joined}
use Rattle.section.specs.View.{View, fresh}
use Rattle.section.specs.Calls.{known, with_read}
use Rattle.hart.specs.State.{next, next_sent}
use Rattle.hart.specs.declared.state.Core.{Core}
use Rattle.machine.specs.Processor.{Effect, stop, quiet, load, store, emit}
use Rattle.agreement.specs.Pairs.{Pair, seen_over, is_held, hold, arranged, inhabited}
use Rattle.agreement.specs.Board.{Board}
use Rattle.agreement.specs.Store.{Slot, slot_words, slot_size}

-- ---- where a charge is

-- a sealed checkpoint that is being settled: its core, its stop number, its number of pairs
pub record Sealed : Type 0 where
  pub core : Core
  pub halt : ℕ
  pub count : ℕ

-- a running section: the core, the instructions run in it, its watchdog's period, the section memory's sets and pairs
pub record Section : Type 0 where
  pub core : Core
  pub ran : ℕ
  pub due : ℕ
  pub view : View

-- `settle k c` has put k of the pairs of the checkpoint c, `seal k s` k words of the slot s
pub data Phase : Type 0 where
  restart : Phase
  settle : ℕ → Sealed → Phase
  run : Section → Phase
  seal : ℕ → Slot → Phase
  finished : Phase

-- what a tick looks at of what stands after a cut: the section memory's words, what the processor does next over them, and of the
-- current slot the checkpoint's numbers and pair k
pub record Input : Type 0 where
  pub words : Mem
  pub act : Core → Effect
  pub sealed : Sealed
  pub pair : ℕ → Pair

-- what the meaning of a section memory leaves free at one action: whether it refuses where it may, whether a full write enters
-- the write-first set, how its pairs stand after a write, and what sets and pairs it has after a put
pub record Choice : Type 0 where
  pub refuse : Bool
  pub gain : Bool
  pub pairs : List Pair
  pub marks : View

-- ---- what a tick does

-- the one word that a tick puts, if any: of the section memory (index, lanes, word), of the log, of the other slot; or the commit
-- word, which makes the slot with this checkpoint the current one
pub data Deed : Type 0 where
  idle : Deed
  write : ℕ → ℕ → ℕ → Deed
  output : ℕ → ℕ → Deed
  fill : ℕ → ℕ → Deed
  commit : Slot → Deed

-- the same with another word in place of its own; a commit is not done
abbrev pub torn : ℕ → Deed → Deed
torn t idle = idle
torn t (write i lanes w) = write i lanes t
torn t (output n w) = output n t
torn t (fill k w) = fill k t
torn t (commit s) = idle

-- its deed, and where the charge is then
pub record Turn : Type 0 where
  pub deed : Deed
  pub phase : Phase

abbrev pub turn : Deed → Phase → Turn
turn x ph = record { deed = x; phase = ph }

-- ---- settling

abbrev pub opened : ℕ → Core → Section
opened due c = record { core = c; ran = 0; due = due; view = fresh }

-- all pairs are settled: the next section begins, or the runner is finished
abbrev pub begun : ℕ → ℕ → Core → Phase
begun due zero c = run (opened due c)
begun due (suc z) c = finished

abbrev pub settling_on : Bool → ℕ → ℕ → Sealed → Phase
settling_on true due k c = settle k c
settling_on false due k c = begun due c.halt c.core

-- what follows when k pairs are settled; a section that begins then has the period due
abbrev pub settling : ℕ → ℕ → Sealed → Phase
settling due k c = settling_on (nat_lt k c.count) due k c

-- ---- the seal

abbrev pub sealed : Slot → Sealed
sealed s = record { core = s.core; halt = s.halt; count = length s.pairs }

abbrev pub put_word : ℕ → Slot → Turn
put_word k s = turn (fill k (slice_index (slot_words s) k)) (seal (k + 1) s)

-- the next word of a seal, or its commit
abbrev pub filling : ℕ → Bool → ℕ → Slot → Turn
filling due true k s = put_word k s
filling due false k s = turn (commit s) (settling due 0 (sealed s))

-- the checkpoint is fixed as the seal begins
abbrev pub sealed_as : Section → ℕ → Slot
sealed_as s z = record { core = s.core; halt = z; pairs = s.view.pairs }

abbrev pub sealing : Section → ℕ → Turn
sealing s z = put_word 0 (sealed_as s z)

-- ---- one instruction

-- one instruction later, with this core and this view
abbrev pub later : Section → Core → View → Section
later s c v = record { core = c; ran = s.ran + 1; due = s.due; view = v }

abbrev pub with_write : View → Bool → ℕ → View
with_write v gains i = record { reads = v.reads; writes = cond gains (joined v.writes i) v.writes; pairs = v.pairs }

abbrev pub with_pairs : View → List Pair → View
with_pairs v ps = record { reads = v.reads; writes = v.writes; pairs = ps }

-- a read: of an index in R or F, refused, or the first of its index
abbrev pub loading : Bool → Bool → Section → ℕ → Core → Turn
loading true refused s i c = turn idle (run (later s c s.view))
loading false true s i c = sealing s 0
loading false false s i c = turn idle (run (later s c (with_read s.view i)))

-- a write: outside the read-first set, of a held index, refused, or newly held
abbrev pub storing : Bool → Bool → Bool → Bool → List Pair → Section → ℕ → ℕ → ℕ → Core → Turn
storing false held refused gains ps s i lanes w c = turn (write i lanes w) (run (later s c (with_write s.view gains i)))
storing true true refused gains ps s i lanes w c = turn idle (run (later s c (with_pairs s.view ps)))
storing true false true gains ps s i lanes w c = sealing s 0
storing true false false gains ps s i lanes w c = turn idle (run (later s c (with_pairs s.view ps)))

-- a read may be refused only if the read-first set is not empty
abbrev pub refuses : Bool → IndexTest → Bool
refuses true r = inhabited r
refuses false r = false

module _ (b : Board) where
  -- the pairs once the word v is held for i
  abbrev pub holding_on : Choice → Section → ℕ → ℕ → List Pair
  holding_on ch s i v = arranged b.most ch.pairs (hold i v s.view.pairs)

  abbrev pub perform : Choice → Mem → Section → Effect → Turn
  perform ch ws s (stop z) = sealing s z
  perform ch ws s (quiet h) = turn idle (run (later s (next s.core h) s.view))
  perform ch ws s (load i f) =
      loading (known s.view i) (refuses ch.refuse s.view.reads) s i
      (next s.core (f (seen_over ws s.view.pairs i)))
  perform ch ws s (store i lanes w h) =
      let ps = holding_on ch s i (merged (seen_over ws s.view.pairs i) w lanes) in
      storing (s.view.reads i) (is_held s.view.pairs i) (ch.refuse || not (nat_le (length ps) b.most)) (ch.gain && lanes == 15) ps
      s i lanes w (next s.core h)
  perform ch ws s (emit w h) = turn (output s.core.sent w) (run (later s (next_sent s.core h) s.view))

  -- the watchdog, or the next instruction
  abbrev pub working : Bool → Choice → Mem → Section → Effect → Turn
  working true ch ws s a = sealing s 0
  working false ch ws s a = perform ch ws s a

  -- ---- what the next tick does; a section that begins with it has the period due
  abbrev pub upcoming : ℕ → Choice → Input → Phase → Turn
  upcoming due ch v restart = turn idle (settling due 0 v.sealed)
  upcoming due ch v (settle k c) = turn (write (v.pair k).0 15 (v.pair k).1) (settling due (k + 1) c)
  upcoming due ch v (run s) = working (s.ran == s.due) ch v.words s (v.act s.core)
  upcoming due ch v (seal k s) = filling due (nat_lt k (slot_size s)) k s
  upcoming due ch v finished = turn idle finished

-- the section memory's sets and pairs after a tick that led from one phase to another: those of the running section, none at
-- the finish, after a put what it chooses, else what they were
abbrev pub marks_after : Choice → Phase → Phase → View → View
marks_after ch before (run s) m = s.view
marks_after ch before finished m = fresh
marks_after ch before restart m = m
marks_after ch before (seal k s) m = m
marks_after ch restart (settle k c) m = m
marks_after ch (settle j d) (settle k c) m = ch.marks
marks_after ch (run s) (settle k c) m = m
marks_after ch (seal j s) (settle k c) m = m
marks_after ch finished (settle k c) m = m
