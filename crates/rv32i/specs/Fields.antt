-- The fields of an instruction's word, and its immediates, sign-extended to 32 bits.
use Rattle.std.specs.Prelude.{ℕ, ◌+◌, ◌-◌, ◌*◌, ◌/◌, ◌%◌, ◌^◌, cond, nat_lt}

-- the n bits of w from bit low up
abbrev pub bits : ℕ → ℕ → ℕ → ℕ
bits w low n = w / 2 ^ low % 2 ^ n

abbrev pub opcode : ℕ → ℕ
opcode w = bits w 0 7

abbrev pub rd : ℕ → ℕ
rd w = bits w 7 5

abbrev pub funct3 : ℕ → ℕ
funct3 w = bits w 12 3

abbrev pub rs1 : ℕ → ℕ
rs1 w = bits w 15 5

abbrev pub rs2 : ℕ → ℕ
rs2 w = bits w 20 5

abbrev pub funct7 : ℕ → ℕ
funct7 w = bits w 25 7

-- x, whose bit top is its highest, as a word: that bit repeated above it
abbrev pub sign_extend : ℕ → ℕ → ℕ
sign_extend top x = cond (nat_lt x (2 ^ top)) x (x + 2 ^ 32 - 2 ^ (top + 1))

abbrev pub imm_i : ℕ → ℕ
imm_i w = sign_extend 11 (bits w 20 12)

abbrev pub imm_s : ℕ → ℕ
imm_s w = sign_extend 11 (bits w 25 7 * 2 ^ 5 + bits w 7 5)

abbrev pub imm_b : ℕ → ℕ
imm_b w = sign_extend 12 (bits w 31 1 * 2 ^ 12 + bits w 7 1 * 2 ^ 11 + bits w 25 6 * 2 ^ 5 + bits w 8 4 * 2)

abbrev pub imm_u : ℕ → ℕ
imm_u w = bits w 12 20 * 2 ^ 12

abbrev pub imm_j : ℕ → ℕ
imm_j w = sign_extend 20 (bits w 31 1 * 2 ^ 20 + bits w 12 8 * 2 ^ 12 + bits w 20 1 * 2 ^ 11 + bits w 21 10 * 2)
