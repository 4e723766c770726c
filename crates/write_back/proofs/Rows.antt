-- What the search finds among pairs, and another word in the pair that it finds.
use Rattle.std.proofs.Common.{◌≡◌, ℕ, zero, suc, ◌<◌, List, [], ◌∷◌, map, length, get_or, set, Some, None, refl, sym, ap, ◌∙◌, arith}
use Rattle.std.proofs.lemmas.Grind.{common_steps}
use Rattle.std.proofs.lemmas.List.{get_or-map, get_or_default, length-map, length-set}
use Rattle.std.specs.List.{refill}
use Rattle.index_sets.specs.Finding.{Found}
use Rattle.section.specs.View.{held, replaced, Apart}
use Rattle.section.proofs.Pairs.{held_tail, held_at, replaced_at}

abbrev pub indexes : List (ℕ × ℕ) → List ℕ
indexes ps = map (λ p. p.0) ps

pub not_found : (ps : List (ℕ × ℕ)) (i : ℕ) → Found (indexes ps) i None → held ps i ≡ None
not_found [] i f = refl
not_found (p ∷ ps) i f =
    held_tail p ps i (λ e. f zero (omega arith) (sym e)) ∙ not_found ps i (λ j h e. f (suc j) (omega arith) e)

-- a list in place of one as long
refill_whole : (xs ws : List (ℕ × ℕ)) → length ws ≡ length xs → refill (length xs) xs ws ≡ ws
refill_whole xs ws e = grind (arith, common_steps)

-- the pair p at the place k that was found, where the pairs ps are lent as qs
module _ (ps qs : List (ℕ × ℕ)) (lent : qs ≡ ps) (i k : ℕ) (p d : ℕ × ℕ)
    (f : Found (indexes ps) i (Some k)) (at : p ≡ get_or qs k d) (a : Apart ps) where
  below : k < length ps
  below = simp length-map at f.0

  same : p ≡ get_or ps k (0, 0)
  same = at ∙ ap (λ (z : List (ℕ × ℕ)). get_or z k d) lent ∙ get_or_default ps k d (0, 0) below

  its_index : (get_or ps k (0, 0)).0 ≡ i
  its_index = sym (get_or-map (λ (z : ℕ × ℕ). z.0) ps k (0, 0) 0 below) ∙ f.1

  pub found_word : held ps i ≡ Some p.1
  found_word = held_at ps i k a below its_index ∙ ap (λ (z : ℕ × ℕ). Some z.1) (sym same)

  -- another word in it, once the loan has ended
  pub found_change : (os : List (ℕ × ℕ)) (w : ℕ) → qs ≡ os → refill (length os) os (set qs k (p.0, w)) ≡ replaced ps i w
  found_change os w e =
      refill_whole os (set qs k (p.0, w)) (length-set qs k (p.0, w) ∙ ap length e)
      ∙ ap (λ (z : List (ℕ × ℕ)). set z k (p.0, w)) lent
      ∙ ap (λ (z : ℕ). set ps k (z, w)) (ap (λ (z : ℕ × ℕ). z.0) same ∙ its_index)
      ∙ replaced_at i w ps k a below its_index
