use Rattle.std.proofs.Common.{◌≡◌, Some, None, MatchOption, rules}
use Rattle.std.proofs.lemmas.Iterator.{YieldsList-from_slice, first_from_find}
use Rattle.image.specs.Questions.{first_no}
use Rattle.image.specs.Refusals.{position}
use Rattle.image.specs.Image.{bad, header_questions}
use Rattle.image.proofs.Rules.{Holds, Fails, first_asked}
use Rattle.image.proofs.header.Header.check.Goals.{After-find}
use Rattle.image.proofs.header.Header.check.Goals as goal

-- what the rule that is found says of the questions
judged : (c : After-find) →
    MatchOption c.find.result (first_no (header_questions c.args.self.now) ≡ None)
    (λ x. first_no (header_questions c.args.self.now) ≡ Some (bad (position x.now.1)))
judged c =
    rw (← c.rules.ensures)
    (first_asked _ _
    (first_from_find _ _ _ Fails Holds c.find.ensures.ran (YieldsList-from_slice c.rules.result c.iter.ensures.rest) (λ x q k. search rules)
    (λ x q k. search rules)))

pub returns-in-Some : goal.returns-in-Some
returns-in-Some c = let found = judged (goal.at-returns-in-Some c).After-find in rw c.position.ensures.place (rw c.in-Some.is at found)

pub returns-in-None : goal.returns-in-None
returns-in-None c = let found = judged (goal.at-returns-in-None c).After-find in rw c.in-None.is at found
