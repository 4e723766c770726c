-- What the operations of RV32I give, on words as numbers below 2 ^ 32.
use Rattle.std.specs.Prelude.{ℕ, ◌+◌, ◌-◌, ◌*◌, ◌/◌, ◌%◌, ◌^◌, Bool, not, ◌==◌, bit_and, bit_or, bit_xor, nat_lt, if◌then◌else◌}
use Rattle.rv32i.specs.Fields.{sign_extend}
use Rattle.rv32i.specs.declared.instruction.Condition.{Condition}
use Rattle.rv32i.specs.declared.instruction.Condition.TheVariants.{Eq, Ne, Lt, Ge, Ltu, Geu}
use Rattle.rv32i.specs.declared.instruction.LoadKind.{LoadKind}
use Rattle.rv32i.specs.declared.instruction.LoadKind.TheVariants.{Lb, Lh, Lw, Lbu, Lhu}
use Rattle.rv32i.specs.declared.instruction.StoreKind.{StoreKind}
use Rattle.rv32i.specs.declared.instruction.StoreKind.TheVariants.{Sb, Sh, Sw}
use Rattle.rv32i.specs.declared.instruction.Operation.{Operation}
use Rattle.rv32i.specs.declared.instruction.Operation.TheVariants.{Add, Sub, Sll, Slt, Sltu, Xor, Srl, Sra, Or, And}

abbrev pub wrap : ℕ → ℕ
wrap n = n % 2 ^ 32

-- a is less than b as signed words: the order of the words with the top bit turned
abbrev pub less_signed : ℕ → ℕ → Bool
less_signed a b = nat_lt (wrap (a + 2 ^ 31)) (wrap (b + 2 ^ 31))

-- a shifted right by s places, its top bit repeated: of a negative word, the complement of its complement shifted
abbrev pub shift_signed : ℕ → ℕ → ℕ
shift_signed a s = if nat_lt a (2 ^ 31) then a / 2 ^ s else 2 ^ 32 - 1 - (2 ^ 32 - 1 - a) / 2 ^ s

abbrev pub bit : Bool → ℕ
bit b = if b then 1 else 0

abbrev pub alu : Operation → ℕ → ℕ → ℕ
alu Add a b = wrap (a + b)
alu Sub a b = wrap (a + 2 ^ 32 - b)
alu Sll a b = wrap (a * 2 ^ (b % 32))
alu Slt a b = bit (less_signed a b)
alu Sltu a b = bit (nat_lt a b)
alu Xor a b = bit_xor a b
alu Srl a b = a / 2 ^ (b % 32)
alu Sra a b = shift_signed a (b % 32)
alu Or a b = bit_or a b
alu And a b = bit_and a b

abbrev pub holds : Condition → ℕ → ℕ → Bool
holds Eq a b = a == b
holds Ne a b = not (a == b)
holds Lt a b = less_signed a b
holds Ge a b = not (less_signed a b)
holds Ltu a b = nat_lt a b
holds Geu a b = not (nat_lt a b)

-- the bytes that an access takes
abbrev pub load_width : LoadKind → ℕ
load_width Lb = 1
load_width Lh = 2
load_width Lw = 4
load_width Lbu = 1
load_width Lhu = 2

abbrev pub store_width : StoreKind → ℕ
store_width Sb = 1
store_width Sh = 2
store_width Sw = 4

-- what a load from byte b of the word w gives
abbrev pub loaded : LoadKind → ℕ → ℕ → ℕ
loaded Lb w b = sign_extend 7 (w / 2 ^ (8 * (b % 4)) % 2 ^ 8)
loaded Lh w b = sign_extend 15 (w / 2 ^ (8 * (b % 4)) % 2 ^ 16)
loaded Lw w b = w
loaded Lbu w b = w / 2 ^ (8 * (b % 4)) % 2 ^ 8
loaded Lhu w b = w / 2 ^ (8 * (b % 4)) % 2 ^ 16

-- what a store of v to byte b of a word writes there, and the lanes of the word that it names
abbrev pub stored : ℕ → ℕ → ℕ
stored v b = wrap (v * 2 ^ (8 * (b % 4)))

abbrev pub lanes : StoreKind → ℕ → ℕ
lanes Sb b = 1 * 2 ^ (b % 4)
lanes Sh b = 3 * 2 ^ (b % 4)
lanes Sw b = 15
