-- Which words are instructions, and which. By opcode, funct3 and funct7, as in the tables of the RISC-V manual.
use Rattle.std.specs.Prelude.{ℕ, ◌&&◌, Ok, Err, Result, ◌==◌, if◌then◌else◌}
use Rattle.rv32i.specs.Fields.{opcode, rd, funct3, rs1, rs2, funct7, imm_i, imm_s, imm_b, imm_u, imm_j}
use Rattle.rv32i.specs.declared.instruction.Condition.{Condition}
use Rattle.rv32i.specs.declared.instruction.Condition.TheVariants.{Eq, Ne, Lt, Ge, Ltu, Geu}
use Rattle.rv32i.specs.declared.instruction.LoadKind.{LoadKind}
use Rattle.rv32i.specs.declared.instruction.LoadKind.TheVariants.{Lb, Lh, Lw, Lbu, Lhu}
use Rattle.rv32i.specs.declared.instruction.StoreKind.{StoreKind}
use Rattle.rv32i.specs.declared.instruction.StoreKind.TheVariants.{Sb, Sh, Sw}
use Rattle.rv32i.specs.declared.instruction.Operation.{Operation}
use Rattle.rv32i.specs.declared.instruction.Operation.TheVariants.{Add, Sub, Sll, Slt, Sltu, Xor, Srl, Sra, Or, And}
use Rattle.rv32i.specs.declared.instruction.Instruction.{Instruction}
use Rattle.rv32i.specs.declared.instruction.Instruction.TheVariants.{Lui, Auipc, Jal, Jalr, Branch, Load, Store, Op, OpImm, Fence, Ecall, Ebreak}
use Rattle.rv32i.specs.declared.instruction.Refusal.{Refusal}
use Rattle.rv32i.specs.declared.instruction.Refusal.TheVariants.{NoInstruction}

abbrev pub Decoded : Type 0 → Type 0
Decoded A = Result A Refusal

-- f of what was decoded, or the refusal
abbrev pub map_ok : {A B : Type 0} → (A → B) → Decoded A → Decoded B
map_ok f (Ok x) = Ok (f x)
map_ok f (Err e) = Err e

-- by funct3
abbrev pub condition : ℕ → Decoded Condition
condition f3 =
    if f3 == 0 then Ok Eq else
    if f3 == 1 then Ok Ne else
    if f3 == 4 then Ok Lt else
    if f3 == 5 then Ok Ge else
    if f3 == 6 then Ok Ltu else
    if f3 == 7 then Ok Geu else
    Err NoInstruction

abbrev pub load_kind : ℕ → Decoded LoadKind
load_kind f3 =
    if f3 == 0 then Ok Lb else
    if f3 == 1 then Ok Lh else
    if f3 == 2 then Ok Lw else
    if f3 == 4 then Ok Lbu else
    if f3 == 5 then Ok Lhu else
    Err NoInstruction

abbrev pub store_kind : ℕ → Decoded StoreKind
store_kind f3 =
    if f3 == 0 then Ok Sb else
    if f3 == 1 then Ok Sh else
    if f3 == 2 then Ok Sw else
    Err NoInstruction

-- by funct7 and funct3: of opcode 0x33
abbrev pub operation : ℕ → ℕ → Decoded Operation
operation f7 f3 =
    if f7 == 0 && f3 == 0 then Ok Add else
    if f7 == 0x20 && f3 == 0 then Ok Sub else
    if f7 == 0 && f3 == 1 then Ok Sll else
    if f7 == 0 && f3 == 2 then Ok Slt else
    if f7 == 0 && f3 == 3 then Ok Sltu else
    if f7 == 0 && f3 == 4 then Ok Xor else
    if f7 == 0 && f3 == 5 then Ok Srl else
    if f7 == 0x20 && f3 == 5 then Ok Sra else
    if f7 == 0 && f3 == 6 then Ok Or else
    if f7 == 0 && f3 == 7 then Ok And else
    Err NoInstruction

-- and of opcode 0x13, where only a shift has a funct7
abbrev pub operation_imm : ℕ → ℕ → Decoded Operation
operation_imm f7 f3 =
    if f3 == 0 then Ok Add else
    if f7 == 0 && f3 == 1 then Ok Sll else
    if f3 == 2 then Ok Slt else
    if f3 == 3 then Ok Sltu else
    if f3 == 4 then Ok Xor else
    if f7 == 0 && f3 == 5 then Ok Srl else
    if f7 == 0x20 && f3 == 5 then Ok Sra else
    if f3 == 6 then Ok Or else
    if f3 == 7 then Ok And else
    Err NoInstruction

abbrev pub decode_jalr : ℕ → Decoded Instruction
decode_jalr w = if funct3 w == 0 then Ok (Jalr (rd w) (rs1 w) (imm_i w)) else Err NoInstruction

abbrev pub decode_branch : ℕ → Decoded Instruction
decode_branch w = map_ok (λ c. Branch c (rs1 w) (rs2 w) (imm_b w)) (condition (funct3 w))

abbrev pub decode_load : ℕ → Decoded Instruction
decode_load w = map_ok (λ k. Load k (rd w) (rs1 w) (imm_i w)) (load_kind (funct3 w))

abbrev pub decode_store : ℕ → Decoded Instruction
decode_store w = map_ok (λ k. Store k (rs1 w) (rs2 w) (imm_s w)) (store_kind (funct3 w))

abbrev pub decode_op : ℕ → Decoded Instruction
decode_op w = map_ok (λ o. Op o (rd w) (rs1 w) (rs2 w)) (operation (funct7 w) (funct3 w))

abbrev pub decode_op_imm : ℕ → Decoded Instruction
decode_op_imm w = map_ok (λ o. OpImm o (rd w) (rs1 w) (imm_i w)) (operation_imm (funct7 w) (funct3 w))

abbrev pub decode_fence : ℕ → Decoded Instruction
decode_fence w = if funct3 w == 0 then Ok Fence else Err NoInstruction

abbrev pub decode_system : ℕ → Decoded Instruction
decode_system w = if w == 0x73 then Ok Ecall else if w == 0x100073 then Ok Ebreak else Err NoInstruction

abbrev pub decode : ℕ → Decoded Instruction
decode w =
    if opcode w == 0x37 then Ok (Lui (rd w) (imm_u w)) else
    if opcode w == 0x17 then Ok (Auipc (rd w) (imm_u w)) else
    if opcode w == 0x6f then Ok (Jal (rd w) (imm_j w)) else
    if opcode w == 0x67 then decode_jalr w else
    if opcode w == 0x63 then decode_branch w else
    if opcode w == 0x03 then decode_load w else
    if opcode w == 0x23 then decode_store w else
    if opcode w == 0x33 then decode_op w else
    if opcode w == 0x13 then decode_op_imm w else
    if opcode w == 0x0f then decode_fence w else
    if opcode w == 0x73 then decode_system w else
    Err NoInstruction
