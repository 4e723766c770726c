use Rattle.std.proofs.Common.{◌<◌, length, sym, arith}
use Rattle.section.proofs.Pairs.{apart_right}
use Rattle.write_back.specs.Layer.{most_over}
use Rattle.write_back.proofs.Layers.{read_own, read_below}
use Rattle.write_back.proofs.layer.WriteBackSection.read.Goals as goal

pub returns-in-Some-clause-read : goal.returns-in-Some-clause-read
returns-in-Some-clause-read g c m =
    let s = c.args.self.now in
    let v = g.S.Section.view s.lower in
    let ws = g.S.Memory.words s.lower in
    let low : c.args.index < length ws = omega (arith, c.size.ensures.size) in
    read_own (most_over g.S.Section.most) ws v s.own c.args.index c.in-Some.word m.facts
    (sym (c.in-Some.ensures (apart_right v.pairs s.own m.facts.apart))) low

pub returns-in-None-clause-read : goal.returns-in-None-clause-read
returns-in-None-clause-read g c m =
    let s = c.args.self.now in
    let v = g.S.Section.view s.lower in
    read_below (g.S.Memory.words s.lower) v s.own c.args.index
    (sym (c.in-None.ensures (apart_right v.pairs s.own m.facts.apart))) c.read.result
    (g.S.Memory.words c.read.new.self) (g.S.Section.view c.read.new.self) (c.read.ensures.read m.layer.0)
