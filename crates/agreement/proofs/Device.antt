-- What stands after a cut, as functions: the words, the log, and the current checkpoint.
use Rattle.std.proofs.Common.{ℕ, get_or}
use Rattle.memory.specs.Contents.{Mem, put}
use Rattle.memory.specs.Lanes.{merged}
use Rattle.agreement.specs.Board.{Board}
use Rattle.agreement.specs.Store.{Slot}
use Rattle.agreement.specs.Turns.{Input, Phase, Deed, idle, write, output, fill, commit, Turn, sealed}

pub record Device : Type 0 where
  pub words : Mem
  pub log : Mem
  pub slot : Slot

pub record At : Type 0 where
  pub device : Device
  pub phase : Phase

abbrev pub at : Device → Phase → At
at d ph = record { device = d; phase = ph }

-- what a tick looks at
abbrev pub look : Board → Device → Input
look b d = record { words = d.words; act = b.act d.words; sealed = sealed d.slot; pair = λ k. get_or d.slot.pairs k (0, 0) }

abbrev pub with_word : Device → ℕ → ℕ → Device
with_word d i w = record { words = put d.words i w; log = d.log; slot = d.slot }

abbrev pub with_output : Device → ℕ → ℕ → Device
with_output d n w = record { words = d.words; log = put d.log n w; slot = d.slot }

abbrev pub with_slot : Device → Slot → Device
with_slot d s = record { words = d.words; log = d.log; slot = s }

abbrev pub applied : Deed → Device → Device
applied idle d = d
applied (write i lanes w) d = with_word d i (merged (d.words i) w lanes)
applied (output n w) d = with_output d n w
applied (fill k w) d = d
applied (commit s) d = with_slot d s

abbrev pub did : Device → Turn → At
did d t = at (applied t.deed d) t.phase
