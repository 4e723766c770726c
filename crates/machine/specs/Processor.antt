-- The uninterrupted machine, over any processor.
use Rattle.std.specs.Prelude.{ℕ, zero, suc}
use Rattle.memory.specs.Contents.{Mem, put}
use Rattle.memory.specs.Lanes.{merged}
use Rattle.hart.specs.declared.state.Hart.{Hart}
use Rattle.hart.specs.declared.state.Core.{Core}
use Rattle.hart.specs.State.{next, next_sent}

-- what an instruction does: it stops the machine by a number; leaves a hart; loads a word of data and leaves a hart by it; writes
-- the bytes of a word that lanes name (index, lanes, word); or puts a word out
pub data Effect : Type 0 where
  stop : ℕ → Effect
  quiet : Hart → Effect
  load : ℕ → (ℕ → Hart) → Effect
  store : ℕ → ℕ → ℕ → Hart → Effect
  emit : ℕ → Hart → Effect

-- a processor: what its next instruction does, by the memory and the core
abbrev pub Processor : Type 0
Processor = Mem → Core → Effect

-- the number of a stop, 0 of what does not stop
abbrev pub stop_number : Effect → ℕ
stop_number (stop z) = z
stop_number (quiet h) = 0
stop_number (load i f) = 0
stop_number (store i lanes w h) = 0
stop_number (emit w h) = 0

-- a machine: its core, its memory, and the log that has output n as word n
pub record State : Type 0 where
  pub core : Core
  pub mem : Mem
  pub log : Mem

-- what an effect makes of a machine; a stop changes nothing
abbrev pub enact : State → Effect → State
enact s (stop z) = s
enact s (quiet h) = record { core = next s.core h; mem = s.mem; log = s.log }
enact s (load i f) = record { core = next s.core (f (s.mem i)); mem = s.mem; log = s.log }
enact s (store i lanes w h) =
    record { core = next s.core h; mem = put s.mem i (merged (s.mem i) w lanes); log = s.log }
enact s (emit w h) = record { core = next_sent s.core h; mem = s.mem; log = put s.log s.core.sent w }

module _ (p : Processor) where
  abbrev pub doing : State → Effect
  doing s = p s.mem s.core

  unfoldable pub step : State → State
  step s = enact s (doing s)

  -- the machine after n steps; from a stop on they change nothing
  unfoldable pub after : ℕ → State → State
  after zero s = s
  after (suc n) s = after n (step s)
