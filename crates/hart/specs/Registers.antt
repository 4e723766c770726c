-- The registers x1 to x31 are a list; register 0 reads 0 and drops what is written to it.
use Rattle.std.specs.Prelude.{ℕ, ◌-◌, List, ◌==◌, slice_index, slice_set, if◌then◌else◌}

-- the value of register r
abbrev pub reg : List ℕ → ℕ → ℕ
reg xs r = if r == 0 then 0 else slice_index xs (r - 1)

-- the registers with v in register r
abbrev pub with_reg : List ℕ → ℕ → ℕ → List ℕ
with_reg xs r v = if r == 0 then xs else slice_set xs (r - 1) v
