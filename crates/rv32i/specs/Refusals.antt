-- The number of each refusal of decoding.
use Rattle.std.specs.Prelude.{ℕ}
use Rattle.rv32i.specs.declared.instruction.Refusal.{Refusal}
use Rattle.rv32i.specs.declared.instruction.Refusal.TheVariants.{NoInstruction}

abbrev pub number : Refusal → ℕ
number NoInstruction = 27
