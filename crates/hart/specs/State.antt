-- How a core moves on by one instruction.
use Rattle.std.specs.Prelude.{ℕ, ◌+◌, ◌-◌, ◌^◌, min, replicate}
use Rattle.rv32i.specs.declared.instruction.LoadKind.{LoadKind}
use Rattle.hart.specs.Registers.{with_reg}
use Rattle.hart.specs.Alu.{wrap, loaded}
use Rattle.hart.specs.declared.state.Hart.{Hart}
use Rattle.hart.specs.declared.state.Core.{Core}

-- the address after the instruction at pc
abbrev pub after : ℕ → ℕ
after pc = wrap (pc + 4)

-- the hart at pc, with v in register r
abbrev pub moved : Hart → ℕ → ℕ → ℕ → Hart
moved h pc r v = record { x = with_reg h.x r v; pc = pc }

-- the hart at the next instruction
abbrev pub onward : Hart → Hart
onward h = record { x = h.x; pc = after h.pc }

-- the start of a run at an entry
abbrev pub started : ℕ → Core
started entry = record { hart = record { x = replicate 31 0; pc = entry }; sent = 0; ran = 0 }

-- the core after one instruction more, which leaves the hart h; and after one output more
abbrev pub next : Core → Hart → Core
next c h = record { hart = h; sent = c.sent; ran = c.ran + 1 }

abbrev pub next_sent : Core → Hart → Core
next_sent c h = record { hart = h; sent = c.sent + 1; ran = c.ran + 1 }

-- one more, in a counter that stays at the largest word
abbrev pub counted : ℕ → ℕ
counted n = min (n + 1) (2 ^ 32 - 1)

-- what code does, with such counters: one instruction, one load, one output more
abbrev pub retired : Core → ℕ → ℕ → ℕ → Core
retired c pc r v = record { hart = moved c.hart pc r v; sent = c.sent; ran = counted c.ran }

abbrev pub retired_load : Core → LoadKind → ℕ → ℕ → ℕ → Core
retired_load c k r b w = retired c (after c.hart.pc) r (loaded k w b)

abbrev pub retired_output : Core → Core
retired_output c = record { hart = onward c.hart; sent = counted c.sent; ran = counted c.ran }
