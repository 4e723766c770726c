-- What the next instruction does, or why the machine stops: of the image's limits, the core and the word at pc.
use Rattle.std.specs.Prelude.{ℕ, ◌+◌, ◌*◌, ◌/◌, ◌%◌, Bool, not, ◌&&◌, Ok, Err, ◌==◌, nat_le, nat_lt, if◌then◌else◌}
use Rattle.rv32i.specs.Decode.{Decoded, decode}
use Rattle.rv32i.specs.declared.instruction.LoadKind.{LoadKind}
use Rattle.rv32i.specs.declared.instruction.StoreKind.{StoreKind}
use Rattle.rv32i.specs.declared.instruction.Instruction.{Instruction}
use Rattle.rv32i.specs.declared.instruction.Instruction.TheVariants.{Lui, Auipc, Jal, Jalr, Branch, Load, Store, Op, OpImm, Fence, Ecall, Ebreak}
use Rattle.hart.specs.Registers.{reg}
use Rattle.hart.specs.Alu.{wrap, alu, holds, load_width, store_width, stored, lanes}
use Rattle.hart.specs.State.{after}
use Rattle.hart.specs.declared.state.Hart.{Hart}
use Rattle.hart.specs.declared.state.Core.{Core}
use Rattle.hart.specs.declared.action.Stop.TheVariants as stop
use Rattle.hart.specs.declared.action.Action.{Action}
use Rattle.hart.specs.declared.action.Action.TheVariants as action
use Rattle.hart.specs.declared.action.Limits.{Limits}

-- to the target, with v in register r
abbrev pub jump : ℕ → ℕ → ℕ → Action
jump target r v = if target % 4 == 0 then action.Next target r v else action.Halt stop.TargetMisaligned

-- a load from address a into register r; into register 0 it makes no access
abbrev pub load : Limits → ℕ → LoadKind → ℕ → ℕ → Action
load lim pc k r a =
    if r == 0 then action.Next (after pc) 0 0 else
    if not (a % load_width k == 0) then action.Halt stop.DataMisaligned else
    if nat_le (4 * lim.words) a then action.Halt stop.OutOfRange else
    action.Load k r (a / 4) (a % 4)

-- where an SW is an output
abbrev pub port : ℕ
port = 0x80000000

abbrev pub output : Limits → ℕ → ℕ → Action
output lim sent v = if nat_le lim.outputs sent then action.Halt stop.OutputsFull else action.Output v

abbrev pub is_word : StoreKind → Bool
is_word k = store_width k == 4

-- a store of v to address a, after so many outputs
abbrev pub store : Limits → ℕ → StoreKind → ℕ → ℕ → Action
store lim sent k v a =
    if not (a % store_width k == 0) then action.Halt stop.DataMisaligned else
    if is_word k && a == port then output lim sent v else
    if nat_le (4 * lim.words) a then action.Halt stop.OutOfRange else
    if nat_lt a (4 * lim.text) then action.Halt stop.StoreToText else
    action.Store (a / 4) (stored v (a % 4)) (lanes k (a % 4))

-- an instruction
abbrev pub perform : Limits → Hart → ℕ → Instruction → Action
perform lim h sent (Lui r imm) = action.Next (after h.pc) r imm
perform lim h sent (Auipc r imm) = action.Next (after h.pc) r (wrap (h.pc + imm))
perform lim h sent (Jal r offset) = jump (wrap (h.pc + offset)) r (after h.pc)
perform lim h sent (Jalr r a offset) = jump (wrap (reg h.x a + offset) / 2 * 2) r (after h.pc)
perform lim h sent (Branch c a b offset) =
    if holds c (reg h.x a) (reg h.x b) then jump (wrap (h.pc + offset)) 0 0 else action.Next (after h.pc) 0 0
perform lim h sent (Load k r a offset) = load lim h.pc k r (wrap (reg h.x a + offset))
perform lim h sent (Store k a b offset) = store lim sent k (reg h.x b) (wrap (reg h.x a + offset))
perform lim h sent (Op o r a b) = action.Next (after h.pc) r (alu o (reg h.x a) (reg h.x b))
perform lim h sent (OpImm o r a imm) = action.Next (after h.pc) r (alu o (reg h.x a) imm)
perform lim h sent Fence = action.Next (after h.pc) 0 0
perform lim h sent Ecall = action.Halt stop.Ecall
perform lim h sent Ebreak = action.Halt stop.Ebreak

-- what was decoded
abbrev pub execute : Limits → Hart → ℕ → Decoded Instruction → Action
execute lim h sent (Err e) = action.Halt stop.NoInstruction
execute lim h sent (Ok i) = perform lim h sent i

-- the stops that are asked first, then the word at pc
abbrev pub plan : Limits → Core → ℕ → Action
plan lim c w =
    if nat_le lim.instructions c.ran then action.Halt stop.Limit else
    if nat_le (4 * lim.text) c.hart.pc then action.Halt stop.PastText else
    execute lim c.hart c.sent (decode w)
