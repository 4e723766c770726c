use Rattle.image.specs.Image.{header_questions}
use Rattle.image.proofs.Rules.{between_ends}
use Rattle.image.proofs.header.Header.rules.Goals as goal

pub returns : goal.returns
unfolding header_questions
returns c =
    rw (
      between_ends _ _ _ _ _ c.new.ensures.start c.new.ensures.end c.new.ensures.exhausted c.contains.ensures.value,
      between_ends _ _ _ _ _ c.new-2.ensures.start c.new-2.ensures.end c.new-2.ensures.exhausted c.contains-2.ensures.value,
      between_ends _ _ _ _ _ c.new-3.ensures.start c.new-3.ensures.end c.new-3.ensures.exhausted c.contains-3.ensures.value,
      c.is_address.ensures,
      between_ends _ _ _ _ _ c.new-4.ensures.start c.new-4.ensures.end c.new-4.ensures.exhausted c.contains-4.ensures.value,
    )
