-- The uninterrupted run of an image: its start, its end, and what it leaves there.
use Rattle.std.specs.Prelude.{◌≡◌, ℕ, ◌<◌, ◌≤◌, List}
use Rattle.memory.specs.Contents.{word, words_from}
use Rattle.image.specs.Image.{header, given_words}
use Rattle.image.specs.declared.header.Header.{Header}
use Rattle.hart.specs.State.{started}
use Rattle.hart.specs.declared.action.Limits.{Limits}
use Rattle.machine.specs.Processor.{stop, stop_number, State, doing, after}
use Rattle.machine.specs.Rv32i.{rv32i}

-- the limits in an image's header
abbrev pub limits_of : Header → Limits
limits_of h = record { text = h.text; words = h.words; outputs = h.outputs; instructions = h.limit }

-- where a run from s ends: each step counts an instruction or changes nothing, so after as many steps as the limit it has stopped
abbrev pub ended : Limits → State → State
ended lim s = after (rv32i lim) lim.instructions s

module _ (bs : List ℕ) where
  abbrev pub limits : Limits
  limits = limits_of (header bs)

  -- the image's words, zeros after them; registers 0; pc at the entry
  abbrev pub run_start : State
  run_start = record { core = started (header bs).entry; mem = word (given_words bs); log = λ _. 0 }

  unfoldable pub run_end : State
  run_end = ended limits run_start

  -- the number of instructions, the stop, the outputs, and the memory's words at the end
  abbrev pub run_count : ℕ
  run_count = run_end.core.ran

  abbrev pub run_stop : ℕ
  run_stop = stop_number (doing (rv32i limits) run_end)

  abbrev pub run_outputs : List ℕ
  run_outputs = words_from run_end.log 0 run_end.core.sent

  abbrev pub run_words : List ℕ
  run_words = words_from run_end.mem 0 (header bs).words

-- every run ends: by one of the ten stops, and within the limit
pub record Ends (bs : List ℕ) : Type 0 where
  pub stops : doing (rv32i (limits bs)) (run_end bs) ≡ stop (run_stop bs)
  pub low : 0 < run_stop bs
  pub high : run_stop bs ≤ 10
  pub count : run_count bs ≤ (header bs).limit

abbrev pub RunsEnd : Type 0
RunsEnd = (bs : List ℕ) → Ends bs
