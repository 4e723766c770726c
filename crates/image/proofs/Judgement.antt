-- What the questions of an image come to.
use Rattle.std.proofs.Common.{◌≡◌, ℕ, ◌+◌, ◌*◌, ◌%◌, ◌<◌, ◌≤◌, true, false, ◌&&◌, eqb, leb, ◌⊎◌, List, [], ◌∷◌, ◌++◌, length, Some, None, ◌∙◌, arith}
use Rattle.std.proofs.lemmas.Bool.Decides.{nat_tests}
use Rattle.image.specs.Questions.{No, Question, first_no}
use Rattle.image.specs.Image.{header, header_questions, length_question, size_question, refusal}
use Rattle.image.proofs.Questions.{after_yes, at_no, append_yes, append_no}

module _ (bs : List ℕ) where
  -- the questions after the first
  abbrev later : List Question
  later = header_questions (header bs) ++ size_question bs ∷ []

  pub bad_length : (length bs % 4 ≡ 0 → ⊥) ⊎ (length bs < 28) → refusal bs ≡ Some (2, [])
  unfolding refusal length_question
  bad_length h =
      let no : (eqb (length bs % 4) 0 && leb 28 (length bs)) ≡ false = grind (arith, nat_tests) in
      at_no _ (2, []) later no

  module _ (whole : length bs % 4 ≡ 0) (long : 28 ≤ length bs) where
    length_yes : refusal bs ≡ first_no later
    unfolding refusal length_question
    length_yes =
        let yes : (eqb (length bs % 4) 0 && leb 28 (length bs)) ≡ true = grind (arith, nat_tests) in
        after_yes _ (2, []) later yes

    pub bad_header : (n : No) → first_no (header_questions (header bs)) ≡ Some n → refusal bs ≡ Some n
    bad_header n h = length_yes ∙ append_no (header_questions (header bs)) (size_question bs ∷ []) n h

    module _ (good : first_no (header_questions (header bs)) ≡ None) where
      header_yes : refusal bs ≡ first_no (size_question bs ∷ [])
      header_yes = length_yes ∙ append_yes (header_questions (header bs)) (size_question bs ∷ []) good

      pub bad_size : (length bs ≡ 28 + 4 * (header bs).given → ⊥) → refusal bs ≡ Some (6, [])
      unfolding size_question
      bad_size h =
          let no : eqb (length bs) (28 + 4 * (header bs).given) ≡ false = grind (arith, nat_tests) in
          header_yes ∙ at_no _ (6, []) [] no

      pub no_refusal : length bs ≡ 28 + 4 * (header bs).given → refusal bs ≡ None
      unfolding size_question
      no_refusal h =
          let yes : eqb (length bs) (28 + 4 * (header bs).given) ≡ true = grind (arith, nat_tests) in
          header_yes ∙ after_yes _ (6, []) [] yes
