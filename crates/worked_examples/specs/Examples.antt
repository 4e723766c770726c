-- Worked examples of the definitions, in one theorem.
use Rattle.std.specs.Prelude.{◌≡◌, ℕ, ◌+◌, ◌-◌, ◌*◌, ◌/◌, ◌<◌, ◌≤◌, List, [], ◌∷◌, length, None, Ok, Err, Result}
use Rattle.memory.specs.Bytes.{word_at}
use Rattle.memory.specs.Contents.{words_from}
use Rattle.rv32i.specs.Decode.{decode}
use Rattle.rv32i.specs.declared.instruction.LoadKind.TheVariants.{Lw}
use Rattle.rv32i.specs.declared.instruction.Instruction.TheVariants as instruction
use Rattle.rv32i.specs.declared.instruction.Refusal.TheVariants.{NoInstruction}
use Rattle.hart.specs.Registers.{reg}
use Rattle.hart.specs.Alu.{wrap}
use Rattle.hart.specs.State.{after}
use Rattle.hart.specs.Plan.{perform}
use Rattle.hart.specs.declared.state.Hart.{Hart}
use Rattle.hart.specs.declared.action.Action.TheVariants as action
use Rattle.hart.specs.declared.action.Stop.TheVariants as stops
use Rattle.hart.specs.declared.action.Limits.{Limits}
use Rattle.image.specs.Image.{refusal}
use Rattle.section.specs.declared.Refusal.{Refusal}
use Rattle.section.specs.Refusals.{Refused}
use Rattle.section.specs.View.{View, fresh}
use Rattle.section.specs.Calls.{Read, Write}
use Rattle.section.specs.Detecting.{DetectedRead, DetectedWrite}
use Rattle.machine.specs.Processor.{stop, State, doing, step}
use Rattle.machine.specs.Rv32i.{rv32i}
use Rattle.machine.specs.Run.{run_end, run_count, run_stop, run_outputs, run_words}

-- the machine s is about to execute the word w
pub record At (lim : Limits) (s : State) (w : ℕ) : Type 0 where
  pub more : s.core.ran < lim.instructions
  pub inside : s.core.hart.pc < 4 * lim.text
  pub here : s.mem (s.core.hart.pc / 4) ≡ w

-- the example image: it reads word 8, adds 1, stores it there, and puts it out
abbrev pub example : List ℕ
example =
    0x09 ∷ 0x00 ∷ 0x00 ∷ 0x00 ∷
    0x06 ∷ 0x00 ∷ 0x00 ∷ 0x00 ∷
    0x06 ∷ 0x00 ∷ 0x00 ∷ 0x00 ∷
    0x00 ∷ 0x00 ∷ 0x00 ∷ 0x00 ∷
    0x64 ∷ 0x00 ∷ 0x00 ∷ 0x00 ∷
    0x04 ∷ 0x00 ∷ 0x00 ∷ 0x00 ∷
    0x32 ∷ 0x00 ∷ 0x00 ∷ 0x00 ∷
    0x83 ∷ 0x21 ∷ 0x00 ∷ 0x02 ∷
    0x93 ∷ 0x81 ∷ 0x11 ∷ 0x00 ∷
    0x23 ∷ 0x20 ∷ 0x30 ∷ 0x02 ∷
    0x37 ∷ 0x01 ∷ 0x00 ∷ 0x80 ∷
    0x23 ∷ 0x20 ∷ 0x31 ∷ 0x00 ∷
    0x73 ∷ 0x00 ∷ 0x10 ∷ 0x00 ∷ []

-- a detector's read and write: the meaning of the call, and what its sets decide; it holds no pair
abbrev pub DetectorRead : List ℕ → View → ℕ → Result ℕ Refusal → List ℕ → View → Type 0
DetectorRead ws v i r ws' v' = Read ws v i r ws' v' × DetectedRead ws v i r v'

abbrev pub DetectorWrite : List ℕ → View → ℕ → ℕ → ℕ → Result (Unit {0}) Refusal → List ℕ → View → Type 0
DetectorWrite ws v i w lanes r ws' v' = Write 0 ws v i w lanes r ws' v' × DetectedWrite ws v i lanes r v'

pub record WorkedExamples : Type 0 where
  -- 0x02002183 is LW x3, 32(x0)
  pub lw : decode 0x02002183 ≡ Ok (instruction.Load Lw 3 0 32)
  -- 0x0000100F is no instruction, and a machine that comes to it stops by 3
  pub no_instruction : decode 0x0000100F ≡ Err NoInstruction
  pub stops_by_3 : (lim : Limits) (s : State) → At lim s 0x0000100F → doing (rv32i lim) s ≡ stop 3
  -- 0xFFF03093, which is SLTIU x1, x0, -1, puts 1 in x1
  pub sltiu : (lim : Limits) (s : State) → At lim s 0xFFF03093 → 0 < length s.core.hart.x → reg (step (rv32i lim) s).core.hart.x 1 ≡ 1
  -- JALR to 7 stops by 6, to 5 goes to 4
  pub jalr_to_7 : (lim : Limits) (h : Hart) (sent r a offset : ℕ) → wrap (reg h.x a + offset) ≡ 7
      → perform lim h sent (instruction.Jalr r a offset) ≡ action.Halt stops.TargetMisaligned
  pub jalr_to_5 : (lim : Limits) (h : Hart) (sent r a offset : ℕ) → wrap (reg h.x a + offset) ≡ 5
      → perform lim h sent (instruction.Jalr r a offset) ≡ action.Next 4 r (after h.pc)
  -- LW at 4 × W − 4 is read, at 4 × W it stops by 8
  pub lw_last : (lim : Limits) (h : Hart) (sent r a offset : ℕ) → 0 < r → 0 < lim.words → wrap (reg h.x a + offset) ≡ 4 * lim.words - 4
      → perform lim h sent (instruction.Load Lw r a offset) ≡ action.Load Lw r (lim.words - 1) 0
  pub lw_past : (lim : Limits) (h : Hart) (sent r a offset : ℕ) → 0 < r → wrap (reg h.x a + offset) ≡ 4 * lim.words
      → perform lim h sent (instruction.Load Lw r a offset) ≡ action.Halt stops.OutOfRange
  -- the example image: its words, that it is accepted, and its run
  pub image_words : words_from (word_at example) 0 13 ≡
      9 ∷ 6 ∷ 6 ∷ 0 ∷ 100 ∷ 4 ∷ 50 ∷ 0x02002183 ∷ 0x00118193 ∷ 0x02302023 ∷ 0x80000137 ∷ 0x00312023 ∷ 0x00100073 ∷ []
  pub image_accepted : refusal example ≡ None
  pub image_stop : run_stop example ≡ 4
  pub image_count : run_count example ≡ 5
  pub image_outputs : run_outputs example ≡ 1 ∷ []
  pub image_memory : run_words example ≡
      0x02002183 ∷ 0x00118193 ∷ 0x02302023 ∷ 0x80000137 ∷ 0x00312023 ∷ 0x00100073 ∷ 0 ∷ 0 ∷ 1 ∷ []
  pub image_pc : (run_end example).core.hart.pc ≡ 20
  pub image_x2 : reg (run_end example).core.hart.x 2 ≡ 0x80000000
  pub image_x3 : reg (run_end example).core.hart.x 3 ≡ 1
  -- a detector just made, over more than five words: read 5, then a write of 5 is refused 21
  pub read_write : (ws ws₁ ws₂ : List ℕ) (v₁ v₂ : View) (r₁ : Result ℕ Refusal) (w lanes : ℕ) (r₂ : Result (Unit {0}) Refusal)
      → 5 < length ws → 0 < lanes → lanes ≤ 15
      → DetectorRead ws fresh 5 r₁ ws₁ v₁ → DetectorWrite ws₁ v₁ 5 w lanes r₂ ws₂ v₂ → Refused 21 r₂
  -- a full write of 5, a read of 5, then a write of 5 is accepted
  pub write_read_write : (ws ws₁ ws₂ ws₃ : List ℕ) (v₁ v₂ v₃ : View) (w₁ w₃ lanes : ℕ)
      (r₁ : Result (Unit {0}) Refusal) (r₂ : Result ℕ Refusal) (r₃ : Result (Unit {0}) Refusal)
      → 5 < length ws → 0 < lanes → lanes ≤ 15
      → DetectorWrite ws fresh 5 w₁ 15 r₁ ws₁ v₁ → DetectorRead ws₁ v₁ 5 r₂ ws₂ v₂ → DetectorWrite ws₂ v₂ 5 w₃ lanes r₃ ws₃ v₃ → r₃ ≡ Ok tt
  -- a write of 5 with lanes 1, a read of 5, then a write of 5 is refused 21
  pub byte_read_write : (ws ws₁ ws₂ ws₃ : List ℕ) (v₁ v₂ v₃ : View) (w₁ w₃ lanes : ℕ)
      (r₁ : Result (Unit {0}) Refusal) (r₂ : Result ℕ Refusal) (r₃ : Result (Unit {0}) Refusal)
      → 5 < length ws → 0 < lanes → lanes ≤ 15
      → DetectorWrite ws fresh 5 w₁ 1 r₁ ws₁ v₁ → DetectorRead ws₁ v₁ 5 r₂ ws₂ v₂ → DetectorWrite ws₂ v₂ 5 w₃ lanes r₃ ws₃ v₃ → Refused 21 r₃
