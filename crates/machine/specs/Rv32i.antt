-- RV32I as a processor.
use Rattle.std.specs.Prelude.{ℕ, ◌/◌, Bool, true, false, nat_lt}
use Rattle.memory.specs.Contents.{Mem}
use Rattle.rv32i.specs.declared.instruction.LoadKind.{LoadKind}
use Rattle.hart.specs.Alu.{loaded}
use Rattle.hart.specs.State.{after, moved, onward}
use Rattle.hart.specs.Stops.{number}
use Rattle.hart.specs.Plan.{plan}
use Rattle.hart.specs.declared.state.Hart.{Hart}
use Rattle.hart.specs.declared.action.Action.{Action}
use Rattle.hart.specs.declared.action.Action.TheVariants.{Halt, Next, Load, Store, Output}
use Rattle.hart.specs.declared.action.Limits.{Limits}
use Rattle.machine.specs.Processor.{Effect, stop, quiet, load, store, emit, Processor}

-- the hart after a load that met the word w
abbrev pub loaded_into : Hart → LoadKind → ℕ → ℕ → ℕ → Hart
loaded_into h k r b w = moved h (after h.pc) r (loaded k w b)

-- a load below the text's end is no load of data: nothing writes there
abbrev pub loading : Bool → Mem → Hart → LoadKind → ℕ → ℕ → ℕ → Effect
loading true m h k r i b = quiet (loaded_into h k r b (m i))
loading false m h k r i b = load i (λ w. loaded_into h k r b w)

abbrev pub effect : Limits → Mem → Hart → Action → Effect
effect lim m h (Halt z) = stop (number z)
effect lim m h (Next to r v) = quiet (moved h to r v)
effect lim m h (Load k r i b) = loading (nat_lt i lim.text) m h k r i b
effect lim m h (Store i w lanes) = store i lanes w (onward h)
effect lim m h (Output w) = emit w (onward h)

-- what is planned for the word at pc
unfoldable pub rv32i : Limits → Processor
rv32i lim m c = effect lim m c.hart (plan lim c (m (c.hart.pc / 4)))
