use Rattle.std.proofs.Common.{refl, ap, ◌∙◌}
use Rattle.section.specs.View.{replaced}
use Rattle.write_back.proofs.Rows.{not_found, found_word, found_change}
use Rattle.write_back.proofs.own_pairs.OwnPairs.change.Goals as goal

pub returns-in_default : goal.returns-in_default
returns-in_default c a = (not_found c.args.self.now c.args.index c.in_default.ensures, refl)

pub returns : goal.returns
returns c a =
    let lent = c.deref_mut.ensures.value in
    let f = c.in-Some.ensures in (
      c.pair.inside.word,
      found_word _ _ (lent ∙ c.self.view_is) _ _ _ _ f c.pair.view_is a,
      found_change _ _ (lent ∙ c.self.view_is) _ _ _ _ f c.pair.view_is a _ _ lent
          ∙ ap (replaced c.args.self.now c.args.index) c.merge-pair-inside.ensures,
    )
