use Rattle.std.proofs.Common.{sym, ◌∙◌}
use Rattle.write_back.proofs.Rows.{not_found, found_word}
use Rattle.write_back.proofs.own_pairs.OwnPairs.word.Goals as goal

pub returns-in_err-k : goal.returns-in_err-k
returns-in_err-k c a =
    rw c.from_residual.ensures (sym (not_found c.args.self.now c.args.index c.in_err-k.ensures))

pub returns : goal.returns
returns c a =
    sym (found_word _ _ (c.deref.ensures.0 ∙ c.self.view_is) _ _ _ _ c.in_ok-k.ensures (c.pair.view_is ∙ c.index-deref-k.is) a)
