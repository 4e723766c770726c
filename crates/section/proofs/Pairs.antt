-- Lists of pairs: what they hold, one list after another, another word in a pair, one pair more.
use Rattle.std.proofs.Common.{◌≡◌, ℕ, zero, suc, ◌<◌, cond, eqb, ◌≢◌, ◌⊎◌, List, [], ◌∷◌, ◌++◌, length, get_or, set, Some, None, Option, sym, refl, ap, ◌∙◌, inl, inr, ⊎_elim, arith}
use Rattle.std.proofs.lemmas.Bool.{eqb-true, eqb-false, eq-eqb, ne_eqb, cond-true, cond-false, cond_both, cases_eq}
use Rattle.std.proofs.lemmas.Option.{none-some}
use Rattle.section.specs.View.{held, replaced, Apart}

-- a function that is n at i, and elsewhere another one
pub by_test : {A : Type 0} (f g : ℕ → A) (i : ℕ) (n : A) → f i ≡ n → ((k : ℕ) → k ≢ i → f k ≡ g k) → (k : ℕ) → f k ≡ cond (eqb k i) n (g k)
by_test f g i n at other k =
    cond_both (eqb k i) n (g k) (λ z. f k ≡ z) (λ e. ap f (eqb-true k i e) ∙ at) (λ e. other k (eqb-false k i e))

pub cases_option : (o : Option ℕ) → (o ≡ None) ⊎ ((w : ℕ) × (o ≡ Some w))
cases_option None = inl refl
cases_option (Some w) = inr (w, refl)

-- ---- the first pair, and the others
module _ (p : ℕ × ℕ) (ps : List (ℕ × ℕ)) (k : ℕ) where
  pub held_head : k ≡ p.0 → held (p ∷ ps) k ≡ Some p.1
  held_head e = cond-true (eqb k p.0) (Some p.1) (held ps k) (eq-eqb k p.0 e)

  pub held_tail : k ≢ p.0 → held (p ∷ ps) k ≡ held ps k
  held_tail ne = cond-false (eqb k p.0) (Some p.1) (held ps k) (ne_eqb k p.0 ne)

  pub none_head : held (p ∷ ps) k ≡ None → k ≢ p.0
  none_head e q = none-some p.1 (sym e ∙ held_head q)

  pub none_tail : held (p ∷ ps) k ≡ None → held ps k ≡ None
  none_tail e = sym (held_tail (none_head e)) ∙ e

-- ---- one list after another
pub none_append : (ps qs : List (ℕ × ℕ)) (k : ℕ) → held ps k ≡ None → held (ps ++ qs) k ≡ held qs k
none_append [] qs k e = refl
none_append (p ∷ ps) qs k e = held_tail p (ps ++ qs) k (none_head p ps k e) ∙ none_append ps qs k (none_tail p ps k e)

-- the later list matters only by what it holds
pub append_same : (ps qs qs' : List (ℕ × ℕ)) (k : ℕ) → held qs k ≡ held qs' k → held (ps ++ qs) k ≡ held (ps ++ qs') k
append_same [] qs qs' k e = e
append_same (p ∷ ps) qs qs' k e = ap (λ (o : Option ℕ). cond (eqb k p.0) (Some p.1) o) (append_same ps qs qs' k e)

append_nil : (ps : List (ℕ × ℕ)) (k : ℕ) → held (ps ++ []) k ≡ held ps k
append_nil [] k = refl
append_nil (p ∷ ps) k = ap (λ (o : Option ℕ). cond (eqb k p.0) (Some p.1) o) (append_nil ps k)

pub append_none : (ps qs : List (ℕ × ℕ)) (k : ℕ) → held qs k ≡ None → held (ps ++ qs) k ≡ held ps k
append_none ps qs k e = append_same ps qs [] k e ∙ append_nil ps k

pub append_some : (ps qs : List (ℕ × ℕ)) (k w : ℕ) → held ps k ≡ Some w → held (ps ++ qs) k ≡ Some w
append_some [] qs k w e = absurd (none-some w e)
append_some (p ∷ ps) qs k w e =
    ⊎_elim (λ (q : k ≡ p.0). held_head p (ps ++ qs) k q ∙ sym (held_head p ps k q) ∙ e)
    (λ (ne : k ≢ p.0). held_tail p (ps ++ qs) k ne ∙ append_some ps qs k w (sym (held_tail p ps k ne) ∙ e))
    (cases_eq k p.0)

pub same_append : (ps ps' qs : List (ℕ × ℕ)) (k : ℕ) → held ps' k ≡ held ps k → held (ps' ++ qs) k ≡ held (ps ++ qs) k
same_append ps ps' qs k e =
    ⊎_elim (λ n. none_append ps' qs k (e ∙ n) ∙ sym (none_append ps qs k n))
    (λ (s : (w : ℕ) × (held ps k ≡ Some w)). append_some ps' qs k s.0 (e ∙ s.1) ∙ sym (append_some ps qs k s.0 s.1))
    (cases_option (held ps k))

-- lists that are apart hold no index twice
pub apart_cross : (ps qs : List (ℕ × ℕ)) → Apart (ps ++ qs) → (k w : ℕ) → held qs k ≡ Some w → held ps k ≡ None
apart_cross [] qs a k w e = refl
apart_cross (p ∷ ps) qs a k w e =
    let h = apart_cross ps qs a.1 k w e in
    ⊎_elim
    (λ (q : k ≡ p.0). absurd (none-some w (sym a.0 ∙ ap (held (ps ++ qs)) (sym q) ∙ none_append ps qs k h ∙ e)))
    (λ ne. held_tail p ps k ne ∙ h)
    (cases_eq k p.0)

pub apart_right : (ps qs : List (ℕ × ℕ)) → Apart (ps ++ qs) → Apart qs
apart_right [] qs a = a
apart_right (p ∷ ps) qs a = apart_right ps qs a.1

pub apart_join : (ps qs : List (ℕ × ℕ)) → Apart ps → Apart qs → ((k w : ℕ) → held qs k ≡ Some w → held ps k ≡ None) → Apart (ps ++ qs)
apart_join [] qs a b cross = b
apart_join (p ∷ ps) qs a b cross = (
  none_append ps qs p.0 a.0
      ∙ ⊎_elim (λ e. e)
      (λ (s : (w : ℕ) × (held qs p.0 ≡ Some w)). absurd (none_head p ps p.0 (cross p.0 s.0 s.1) refl))
      (cases_option (held qs p.0)),
  apart_join ps qs a.1 b (λ k w e. none_tail p ps k (cross k w e)),
)

-- ---- n held for i, and for other indexes what was
abbrev pub Holds : List (ℕ × ℕ) → ℕ → ℕ → List (ℕ × ℕ) → Type 0
Holds ps i n ps' = (k : ℕ) → held ps' k ≡ cond (eqb k i) (Some n) (held ps k)

pub holds_by : (ps : List (ℕ × ℕ)) (i n : ℕ) (ps' : List (ℕ × ℕ)) → held ps' i ≡ Some n →
    ((k : ℕ) → k ≢ i → held ps' k ≡ held ps k) → Holds ps i n ps'
holds_by ps i n ps' = by_test (held ps') (held ps) i (Some n)

module _ (ps : List (ℕ × ℕ)) (i n : ℕ) (ps' : List (ℕ × ℕ)) (h : Holds ps i n ps') where
  pub holds_same : held ps' i ≡ Some n
  holds_same = h i ∙ cond-true (eqb i i) (Some n) (held ps i) (eq-eqb i i refl)

  pub holds_other : (k : ℕ) → k ≢ i → held ps' k ≡ held ps k
  holds_other k ne = h k ∙ cond-false (eqb k i) (Some n) (held ps k) (ne_eqb k i ne)

  pub holds_append : (qs : List (ℕ × ℕ)) → Holds (ps ++ qs) i n (ps' ++ qs)
  holds_append qs =
      holds_by (ps ++ qs) i n (ps' ++ qs) (append_some ps' qs i n holds_same) (λ k ne. same_append ps ps' qs k (holds_other k ne))

-- ---- one pair more at the end
module _ (i n : ℕ) where
  pub push_same : (ps : List (ℕ × ℕ)) → held ps i ≡ None → held (ps ++ (i, n) ∷ []) i ≡ Some n
  push_same ps e = none_append ps ((i, n) ∷ []) i e ∙ held_head (i, n) [] i refl

  pub push_other : (ps : List (ℕ × ℕ)) (k : ℕ) → k ≢ i → held (ps ++ (i, n) ∷ []) k ≡ held ps k
  push_other ps k ne = append_none ps ((i, n) ∷ []) k (held_tail (i, n) [] k ne)

  pub push_holds : (ps : List (ℕ × ℕ)) → held ps i ≡ None → Holds ps i n (ps ++ (i, n) ∷ [])
  push_holds ps e = holds_by ps i n (ps ++ (i, n) ∷ []) (push_same ps e) (push_other ps)

  pub push_apart : (ps : List (ℕ × ℕ)) → Apart ps → held ps i ≡ None → Apart (ps ++ (i, n) ∷ [])
  push_apart ps a e =
      apart_join ps ((i, n) ∷ []) a (refl, tt)
      (λ k w s.
      ⊎_elim (λ (q : k ≡ i). ap (held ps) q ∙ e)
      (λ (ne : k ≢ i). absurd (none-some w (sym (held_tail (i, n) [] k ne) ∙ s)))
      (cases_eq k i))

-- ---- the pair at a place
pub held_at : (ps : List (ℕ × ℕ)) (i k : ℕ) → Apart ps → k < length ps → (get_or ps k (0, 0)).0 ≡ i → held ps i ≡ Some (get_or ps k (0, 0)).1
held_at [] i k a h e = absurd (omega arith)
held_at (p ∷ ps) i zero a h e = held_head p ps i (sym e)
held_at (p ∷ ps) i (suc k) a h e =
    let rest = held_at ps i k a.1 (omega arith) e in
    held_tail p ps i (λ q. none-some _ (sym a.0 ∙ ap (held ps) (sym q) ∙ rest)) ∙ rest

-- ---- another word in the pair for i
module _ (i n : ℕ) where
  abbrev swap : ℕ × ℕ → ℕ × ℕ
  swap p = cond (eqb i p.0) (i, n) p

  swap_same : (p : ℕ × ℕ) → i ≡ p.0 → swap p ≡ (i, n)
  swap_same p e = cond-true (eqb i p.0) (i, n) p (eq-eqb i p.0 e)

  swap_other : (p : ℕ × ℕ) → i ≢ p.0 → swap p ≡ p
  swap_other p ne = cond-false (eqb i p.0) (i, n) p (ne_eqb i p.0 ne)

  swap_key : (p : ℕ × ℕ) → (swap p).0 ≡ p.0
  swap_key p =
      ⊎_elim (λ (e : i ≡ p.0). ap (λ (z : ℕ × ℕ). z.0) (swap_same p e) ∙ e)
      (λ (ne : i ≢ p.0). ap (λ (z : ℕ × ℕ). z.0) (swap_other p ne))
      (cases_eq i p.0)

  pub replaced_none : (ps : List (ℕ × ℕ)) → held ps i ≡ None → replaced ps i n ≡ ps
  replaced_none [] e = refl
  replaced_none (p ∷ ps) e =
      ap (λ (z : ℕ × ℕ). z ∷ replaced ps i n) (swap_other p (none_head p ps i e))
      ∙ ap (λ (z : List (ℕ × ℕ)). p ∷ z) (replaced_none ps (none_tail p ps i e))

  pub replaced_append : (ps qs : List (ℕ × ℕ)) → held ps i ≡ None → ps ++ replaced qs i n ≡ replaced (ps ++ qs) i n
  replaced_append [] qs e = refl
  replaced_append (p ∷ ps) qs e =
      ap (λ (z : List (ℕ × ℕ)). p ∷ z) (replaced_append ps qs (none_tail p ps i e))
      ∙ ap (λ (z : ℕ × ℕ). z ∷ replaced (ps ++ qs) i n) (sym (swap_other p (none_head p ps i e)))

  pub replaced_length : (ps : List (ℕ × ℕ)) → length (replaced ps i n) ≡ length ps
  replaced_length [] = refl
  replaced_length (p ∷ ps) = ap suc (replaced_length ps)

  replaced_same : (ps : List (ℕ × ℕ)) (old : ℕ) → held ps i ≡ Some old → held (replaced ps i n) i ≡ Some n
  replaced_same [] old e = absurd (none-some old e)
  replaced_same (p ∷ ps) old e =
      ⊎_elim
      (λ (q : i ≡ p.0).
      held_head (swap p) (replaced ps i n) i (q ∙ sym (swap_key p)) ∙ ap (λ (z : ℕ × ℕ). Some z.1) (swap_same p q))
      (λ (ne : i ≢ p.0).
      held_tail (swap p) (replaced ps i n) i (λ q. ne (q ∙ swap_key p)) ∙ replaced_same ps old (sym (held_tail p ps i ne) ∙ e))
      (cases_eq i p.0)

  replaced_other : (ps : List (ℕ × ℕ)) (k : ℕ) → k ≢ i → held (replaced ps i n) k ≡ held ps k
  replaced_other [] k ne = refl
  replaced_other (p ∷ ps) k ne =
      ⊎_elim
      (λ (q : k ≡ p.0).
      held_head (swap p) (replaced ps i n) k (q ∙ sym (swap_key p))
      ∙ ap (λ (z : ℕ × ℕ). Some z.1) (swap_other p (λ e. ne (q ∙ sym e)))
      ∙ sym (held_head p ps k q))
      (λ (d : k ≢ p.0).
      held_tail (swap p) (replaced ps i n) k (λ q. d (q ∙ swap_key p)) ∙ replaced_other ps k ne ∙ sym (held_tail p ps k d))
      (cases_eq k p.0)

  pub replaced_holds : (ps : List (ℕ × ℕ)) (old : ℕ) → held ps i ≡ Some old → Holds ps i n (replaced ps i n)
  replaced_holds ps old e = holds_by ps i n (replaced ps i n) (replaced_same ps old e) (replaced_other ps)

  replaced_missing : (ps : List (ℕ × ℕ)) (k : ℕ) → held ps k ≡ None → held (replaced ps i n) k ≡ None
  replaced_missing ps k e =
      ⊎_elim (λ (q : k ≡ i). ap (λ (z : List (ℕ × ℕ)). held z k) (replaced_none ps (ap (held ps) (sym q) ∙ e)) ∙ e)
      (λ (ne : k ≢ i). replaced_other ps k ne ∙ e)
      (cases_eq k i)

  pub replaced_apart : (ps : List (ℕ × ℕ)) → Apart ps → Apart (replaced ps i n)
  replaced_apart [] a = tt
  replaced_apart (p ∷ ps) a = (
    ap (held (replaced ps i n)) (swap_key p) ∙ replaced_missing ps p.0 a.0,
    replaced_apart ps a.1,
  )

  -- it is the pair at the place where i stands
  pub replaced_at : (ps : List (ℕ × ℕ)) (k : ℕ) → Apart ps → k < length ps → (get_or ps k (0, 0)).0 ≡ i → set ps k (i, n) ≡ replaced ps i n
  replaced_at [] k a h e = refl
  replaced_at (p ∷ ps) zero a h e =
      ap (λ (z : ℕ × ℕ). z ∷ ps) (sym (swap_same p (sym e)))
      ∙ ap (λ (z : List (ℕ × ℕ)). swap p ∷ z) (sym (replaced_none ps (ap (held ps) (sym e) ∙ a.0)))
  replaced_at (p ∷ ps) (suc k) a h e =
      let rest = held_at ps i k a.1 (omega arith) e in
      ap (λ (z : ℕ × ℕ). z ∷ set ps k (i, n)) (sym (swap_other p (λ q. none-some _ (sym a.0 ∙ ap (held ps) (sym q) ∙ rest))))
      ∙ ap (λ (z : List (ℕ × ℕ)). swap p ∷ z) (replaced_at ps k a.1 (omega arith) e)
