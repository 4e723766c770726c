use Rattle.std.proofs.Common.{ℕ, List, subst, arith}
use Rattle.std.specs.Fmt.{HasWritten}
use Rattle.lerpuod.proofs.Digits.{padded_hex}
use Rattle.lerpuod.proofs.hex.HexDisplay.fmt.Goals as goal

pub returns-clause-writes : goal.returns-clause-writes
returns-clause-writes g c plain ok =
    let wrote = simp (c.in_radix.ensures, c.laid_out.ensures) at c.write.ensures.writes in
    subst (λ (bs : List ℕ). HasWritten g.W.Write.write_str_gives c.args.f.now bs c.write.new.self) (padded_hex c.args.self.now.0 (omega arith)) (wrote plain ok)
