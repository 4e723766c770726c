-- The questions of a load.
use Rattle.std.proofs.Common.{◌≡◌, ℕ, ◌≤◌, true, false, ◌&&◌, leb, List, [], ◌∷◌, Some, None, ◌∙◌, arith}
use Rattle.std.proofs.lemmas.Bool.{le-leb, leb-true, and_parts}
use Rattle.std.proofs.lemmas.Bool.Decides.{nat_tests}
use Rattle.image.specs.Questions.{No, first_no}
use Rattle.image.specs.Image.{header, image_questions, refusal}
use Rattle.image.proofs.Questions.{after_yes, at_no, all_yes, append_yes, append_no, append_parts}
use Rattle.machine.specs.Refusals.{memories_question, load_refusal}

module _ (bs : List ℕ) (words log : ℕ) where
  pub no_image : (n : No) → refusal bs ≡ Some n → load_refusal bs words log ≡ Some n
  unfolding refusal load_refusal
  no_image n h = append_no (image_questions bs) (memories_question bs words log ∷ []) n h

  module _ (ok : refusal bs ≡ None) where
    then_asks : load_refusal bs words log ≡ first_no (memories_question bs words log ∷ [])
    unfolding refusal load_refusal
    then_asks = append_yes (image_questions bs) (memories_question bs words log ∷ []) ok

    pub too_small : (((header bs).words ≤ words) × ((header bs).outputs ≤ log) → ⊥) → load_refusal bs words log ≡ Some (7, [])
    too_small small =
        let wrong : (leb (header bs).words words && leb (header bs).outputs log) ≡ false = grind (arith, nat_tests) in
        then_asks ∙ at_no _ (7, []) [] wrong

    pub large_enough : (header bs).words ≤ words → (header bs).outputs ≤ log → load_refusal bs words log ≡ None
    large_enough h k =
        let e : leb (header bs).words words ≡ true = le-leb _ _ h in
        let f : leb (header bs).outputs log ≡ true = le-leb _ _ k in
        then_asks ∙ after_yes _ (7, []) [] (rw (e, f))

-- a load that is not refused
pub load_accepted : (bs : List ℕ) (words log : ℕ) → load_refusal bs words log ≡ None
    → (refusal bs ≡ None) × ((header bs).words ≤ words) × ((header bs).outputs ≤ log)
unfolding refusal load_refusal
load_accepted bs words log h =
    let p = append_parts (image_questions bs) (memories_question bs words log ∷ []) h in
    let q = and_parts _ _ (all_yes (memories_question bs words log ∷ []) p.1).0 in
    (p.0, leb-true _ _ q.0, leb-true _ _ q.1)
