use Rattle.std.proofs.Common.{◌<◌, ◌≤◌, length, arith, rules}
use Rattle.write_back.proofs.Layers.{own_promised, answer_promised, refusal_promised}
use Rattle.write_back.proofs.layer.WriteBackSection.write.Given.{Over}
use Rattle.write_back.proofs.layer.WriteBackSection.write.Goals.{After-change}
use Rattle.write_back.proofs.layer.WriteBackSection.write.Goals as goal

-- the index is inside the memory, and the lanes name bytes
low : (g : Over) (c : After-change g) → c.args.index < length (g.S.Memory.words c.args.self.now.lower)
low g c = omega (arith, c.size.ensures.size)

named : (g : Over) (c : After-change g) → (0 < c.args.lanes) × (c.args.lanes ≤ 15)
named g c = let lanes = c.if-not-contains.ensures.cases in (search rules, search rules)

pub returns-then-change : goal.returns-then-change
returns-then-change g c =
    let at = (goal.at-returns-then-change g c).After-change in
    own_promised g.S.Section.most g.S.Memory.words g.S.Section.view g.S.Section.facts g.S.Memory.fixed c.args.self.now _ _ _
    (low g at) (named g at) _ c.if-change.ensures

pub returns-in-Err-Due : goal.returns-in-Err-Due
returns-in-Err-Due g c =
    let at = (goal.at-returns-in-Err-Due g c).After-change in
    let e = c.in-Err-Due.ensures in
    refusal_promised g.S.Section.most g.S.Memory.words g.S.Section.view g.S.Section.facts g.S.Memory.fixed c.args.self.now _ _ _
    (low g at) (named g at) _ c.if-change.ensures c.write.new.self e.facts e.home c.in-Err-Due.field-0 e.write _ _ c.keep.ensures.lower c.keep.ensures.taken

pub returns-in_default : goal.returns-in_default
returns-in_default g c =
    let at = (goal.at-returns-in_default g c).After-change in
    let e = c.in_default.ensures in
    answer_promised g.S.Section.most g.S.Memory.words g.S.Section.view g.S.Section.facts g.S.Memory.fixed c.args.self.now _ _ _
    (low g at) (named g at) _ c.if-change.ensures c.write.new.self e.facts e.home _ e.write (λ q. search rules)

pub returns-in_default-2 : goal.returns-in_default-2
returns-in_default-2 g c =
    let at = (goal.at-returns-in_default-2 g c).After-change in
    let e = c.write.ensures in
    answer_promised g.S.Section.most g.S.Memory.words g.S.Section.view g.S.Section.facts g.S.Memory.fixed c.args.self.now _ _ _
    (low g at) (named g at) _ c.if-change.ensures c.write.new.self e.facts e.home _ e.write (λ q. search rules)
