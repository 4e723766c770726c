-- What the machine's calls answer and leave, of the words of the memory and of the log.
use Rattle.std.specs.Prelude.{◌≡◌, ℕ, ◌+◌, ◌*◌, ◌<◌, ◌≤◌, cond, List, [], ◌++◌, length, drop, Some, None, Ok, Err, Option, Result, nat_lt}
use Rattle.memory.specs.Bytes.{word_at}
use Rattle.memory.specs.Contents.{Mem, word, words_from}
use Rattle.image.specs.Image.{header, given_words}
use Rattle.hart.specs.State.{started}
use Rattle.hart.specs.Stops.{number}
use Rattle.hart.specs.declared.action.Stop.{Stop}
use Rattle.hart.specs.declared.action.Limits.{Limits}
use Rattle.hart.specs.declared.state.Core.{Core}
use Rattle.machine.specs.declared.Refusal.{Refusal}
use Rattle.machine.specs.declared.Machine.{Machine}
use Rattle.machine.specs.declared.End.{End}
use Rattle.machine.specs.Refusals.{as_no, load_refusal}
use Rattle.machine.specs.Processor.{stop_number, State, doing, step}
use Rattle.machine.specs.Rv32i.{rv32i}
use Rattle.machine.specs.Run.{ended, limits, run_end, run_stop, run_outputs, run_words}

-- the machine that a core, a memory and a log are
abbrev pub state_of : Core → List ℕ → List ℕ → State
state_of c ws log = record { core = c; mem = word ws; log = word log }

-- the memory has the limits' words, and the log their outputs
abbrev pub Fits : Limits → List ℕ → List ℕ → Type 0
Fits lim ws log = (lim.words ≤ length ws) × (lim.outputs ≤ length log)

-- the number of a step's answer, 0 where the machine goes on
abbrev pub answer_number : Option Stop → ℕ
answer_number None = 0
answer_number (Some z) = number z

-- one step, from a core, a memory and a log to others
pub record Advanced (lim : Limits) (c : Core) (ws log : List ℕ) (c' : Core) (ws' log' : List ℕ) (r : Option Stop) : Type 0 where
  pub state : state_of c' ws' log' ≡ step (rv32i lim) (state_of c ws log)
  pub answer : answer_number r ≡ stop_number (doing (rv32i lim) (state_of c ws log))
  pub words_size : length ws' ≡ length ws
  pub log_size : length log' ≡ length log

-- the run to its end
pub record Finished (lim : Limits) (c : Core) (ws log : List ℕ) (c' : Core) (ws' log' : List ℕ) (z : Stop) : Type 0 where
  pub state : state_of c' ws' log' ≡ ended lim (state_of c ws log)
  pub answer : number z ≡ stop_number (doing (rv32i lim) (state_of c' ws' log'))
  pub words_size : length ws' ≡ length ws
  pub log_size : length log' ≡ length log

-- refused 7: the memories are too small, and nothing has changed
pub record Refused (m : Machine) (ws log : List ℕ) (m' : Machine) (ws' log' : List ℕ) (e : Refusal) : Type 0 where
  pub small : Fits m.limits ws log → ⊥
  pub refusal : as_no e ≡ (7, [])
  pub same_machine : m' ≡ m
  pub same_words : ws' ≡ ws
  pub same_log : log' ≡ log

abbrev pub Step : Machine → List ℕ → List ℕ → Machine → List ℕ → List ℕ → Result (Option Stop) Refusal → Type 0
Step m ws log m' ws' log' (Ok r) =
    Fits m.limits ws log × (m'.limits ≡ m.limits) × Advanced m.limits m.core ws log m'.core ws' log' r
Step m ws log m' ws' log' (Err e) = Refused m ws log m' ws' log' e

abbrev pub Run : Machine → List ℕ → List ℕ → Machine → List ℕ → List ℕ → Result Stop Refusal → Type 0
Run m ws log m' ws' log' (Ok z) =
    Fits m.limits ws log × (m'.limits ≡ m.limits) × Finished m.limits m.core ws log m'.core ws' log' z
Run m ws log m' ws' log' (Err e) = Refused m ws log m' ws' log' e

-- from the words ws to ws': the first n are those of f, the others as they were
pub record Filled (f : Mem) (n : ℕ) (ws ws' : List ℕ) : Type 0 where
  pub size : length ws' ≡ length ws
  pub front : (k : ℕ) → k < n → word ws' k ≡ f k
  pub back : (k : ℕ) → n ≤ k → word ws' k ≡ word ws k

-- the words of a row of bytes, 0 from the first on that is not whole
abbrev pub whole_words : List ℕ → Mem
whole_words bs k = cond (nat_lt (4 * k + 3) (length bs)) (word_at bs k) 0

-- a memory of the words ws with the image's words from word 0 on, zeros after them up to its size
abbrev pub with_image : List ℕ → List ℕ → List ℕ
with_image bs ws = words_from (word (given_words bs)) 0 (header bs).words ++ drop (header bs).words ws

-- an image is loaded over the words ws and a log of so many words, or refused, which changes nothing
abbrev pub Load : List ℕ → List ℕ → ℕ → List ℕ → Result Machine Refusal → Type 0
Load bs ws log ws' (Ok m) =
    (load_refusal bs (length ws) log ≡ None)
    × (m ≡ record { limits = limits bs; core = started (header bs).entry })
    × (ws' ≡ with_image bs ws)
Load bs ws log ws' (Err e) = (load_refusal bs (length ws) log ≡ Some (as_no e)) × (ws' ≡ ws)

-- an image is executed to its end: the memory then begins with the words that its run leaves, the log with its outputs
pub record Executed (bs ws log ws' log' : List ℕ) (e : End) : Type 0 where
  pub accepted : load_refusal bs (length ws) (length log) ≡ None
  pub core : e.core ≡ (run_end bs).core
  pub stop : number e.stop ≡ run_stop bs
  pub words : ws' ≡ run_words bs ++ drop (header bs).words ws
  pub outputs : log' ≡ run_outputs bs ++ drop (run_end bs).core.sent log

abbrev pub Execute : List ℕ → List ℕ → List ℕ → List ℕ → List ℕ → Result End Refusal → Type 0
Execute bs ws log ws' log' (Ok e) = Executed bs ws log ws' log' e
Execute bs ws log ws' log' (Err e) =
    (load_refusal bs (length ws) (length log) ≡ Some (as_no e)) × (ws' ≡ ws) × (log' ≡ log)
