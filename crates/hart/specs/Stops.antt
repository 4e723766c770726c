-- The number of a stop, and what it means.
use Rattle.std.specs.Prelude.{ℕ, List, codes}
use Rattle.hart.specs.declared.action.Stop.{Stop}
use Rattle.hart.specs.declared.action.Stop.TheVariants.{Limit, PastText, NoInstruction, Ebreak, Ecall, TargetMisaligned, DataMisaligned, OutOfRange, StoreToText, OutputsFull}

abbrev pub number : Stop → ℕ
number Limit = 1
number PastText = 2
number NoInstruction = 3
number Ebreak = 4
number Ecall = 5
number TargetMisaligned = 6
number DataMisaligned = 7
number OutOfRange = 8
number StoreToText = 9
number OutputsFull = 10

abbrev pub meaning : Stop → List ℕ
meaning Limit = codes "the count of instructions has reached the limit"
meaning PastText = codes "pc is at or above the end of the text"
meaning NoInstruction = codes "the word at pc is no instruction"
meaning Ebreak = codes "the next instruction is EBREAK"
meaning Ecall = codes "the next instruction is ECALL"
meaning TargetMisaligned = codes "the target of a jump or taken branch is not a multiple of 4"
meaning DataMisaligned = codes "a data address is not a multiple of the access's width"
meaning OutOfRange = codes "a data address is at or above the end of the memory"
meaning StoreToText = codes "a store goes into the text"
meaning OutputsFull = codes "an output comes when the most outputs are already sent"
