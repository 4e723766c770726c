-- An image that is not refused keeps every rule.
use Rattle.std.proofs.Common.{◌≡◌, ℕ, List, None}
use Rattle.std.proofs.lemmas.Bool.{and_parts, leb-true, ltb-true, eqb-true}
use Rattle.image.specs.Image.{between, addresses, header_questions, length_question, size_question, image_questions, refusal}
use Rattle.image.specs.Accepted.{Accepted}
use Rattle.image.proofs.Questions.{all_yes}

pub accepted : (bs : List ℕ) → refusal bs ≡ None → Accepted bs
unfolding refusal between addresses header_questions length_question size_question
accepted bs h =
    let size = all_yes (image_questions bs) h in
    let words = size.1 in
    let text = words.1 in
    let given = text.1 in
    let entry = given.1 in
    let period = entry.1 in
    let outputs = period.1 in
    let limit = outputs.1 in
    let exact = limit.1 in
    record {
      length_multiple = eqb-true _ _ (and_parts _ _ size.0).0;
      long_enough = leb-true _ _ (and_parts _ _ size.0).1;
      words_low = leb-true _ _ (and_parts _ _ words.0).0;
      words_high = leb-true _ _ (and_parts _ _ words.0).1;
      text_low = leb-true _ _ (and_parts _ _ text.0).0;
      text_high = leb-true _ _ (and_parts _ _ text.0).1;
      given_low = leb-true _ _ (and_parts _ _ given.0).0;
      given_high = leb-true _ _ (and_parts _ _ given.0).1;
      entry_aligned = eqb-true _ _ (and_parts _ _ entry.0).0;
      entry_below = ltb-true _ _ (and_parts _ _ entry.0).1;
      period_low = leb-true _ _ (and_parts _ _ period.0).0;
      period_high = leb-true _ _ (and_parts _ _ period.0).1;
      outputs_high = leb-true _ _ outputs.0;
      limit_low = leb-true _ _ limit.0;
      exact_length = eqb-true _ _ exact.0;
    }
