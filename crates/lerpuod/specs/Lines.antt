-- The lines that scripts read.
use Rattle.std.specs.Prelude.{ℕ, List, ◌++◌, codes, decimal}
use Rattle.lerpuod.specs.declared.lines.Line.{Line}
use Rattle.lerpuod.specs.declared.lines.Line.TheVariants.{Output, Register, End, LoadRefused}
use Rattle.hart.specs.Stops.{number}
use Rattle.lerpuod.specs.Hex.{hex}
use Rattle.lerpuod.specs.Refused.{refused}

abbrev pub line : Line → List ℕ
line (Output n w) = codes "output " ++ (decimal n ++ (codes ": " ++ hex w))
line (Register n w) = codes "register " ++ (decimal n ++ (codes ": " ++ hex w))
line (End z ran sent) =
    codes "end: stop " ++ (decimal (number z) ++ (codes ", " ++ (decimal ran ++ (codes " instructions, " ++ (decimal sent ++ codes " outputs")))))
line (LoadRefused e) = codes "load: " ++ refused e
