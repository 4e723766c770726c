use Rattle.std.proofs.Common.{◌≡◌, ℕ, ◌<◌, ◌≢◌, List, [], ◌∷◌, map, length, Option, Some, None, MatchOption, sym, ◌∙◌, arith, rules}
use Rattle.std.specs.List.{AllWithin, HoldsAt}
use Rattle.std.proofs.lemmas.Iterator.{IsFirst-from_position, YieldsList-from_slice}
use Rattle.std.proofs.lemmas.List.{get_or-map, length-map}
use borrow.Author.Tests.{tests}
use Rattle.index_sets.specs.Finding.{Found}
use Rattle.index_sets.proofs.entries.find.Goals as goal

-- what holds of the entries, said of the indexes that they tell
told : {X : Type 0} (f : X → ℕ) (xs : List X) (i : ℕ) (r : Option ℕ) →
    MatchOption r (AllWithin (λ x. f x ≢ i) xs 0 (length xs))
    (λ k. (k < length xs) × HoldsAt (λ x. f x ≡ i) xs k × AllWithin (λ x. f x ≢ i) xs 0 k) →
    Found (map f xs) i r
told f [] i (Some k) p = absurd (omega (arith, p.0))
told f (x ∷ xs) i (Some k) p = (simp length-map p.0, get_or-map f (x ∷ xs) k x 0 p.0 ∙ p.1 x)
told f [] i None p = λ j l. absurd (omega (arith, l))
told f (x ∷ xs) i None p = λ j l e.
    let h : j < length (x ∷ xs) = simp length-map at l in
    p j x (omega arith) h (sym (get_or-map f (x ∷ xs) j x 0 h) ∙ e)

pub returns : goal.returns
returns g c =
    let key = g.E.Entry.key in
    let i = c.args.index in
    let found : Found (map key c.args.entries.now) i c.position.result =
    told key c.args.entries.now i c.position.result
    (IsFirst-from_position _ _ _ (λ e. key e ≡ i) (λ e. key e ≢ i) c.position.ensures.ran
    (YieldsList-from_slice c.args.entries.now cc) (λ x q k. search (rules, tests)) (λ x q k. search (rules, tests))) in
    search rules
