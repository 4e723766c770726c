-- Held pairs: the words seen through them, a word newly held, and any order that a section memory may give.
use Rattle.std.proofs.Common.{◌≡◌, ℕ, zero, suc, ◌<◌, ◌≤◌, Bool, true, false, cond, not, ◌&&◌, eqb, ltb, leb, ◌⊎◌, List, [], ◌∷◌, ◌++◌, length, drop, is_some, Some, None, Option, sym, refl, ap, ◌∙◌, subst, inl, inr, ⊎_elim, arith}
use Rattle.std.proofs.lemmas.Bool.{eqb-true, eqb-false, eq-eqb, ne_eqb, cases_eq, cases_Bool, cond-true, cond-false, or_cases, or_left, or_right, and_parts, and_from, not-true, false≢true, true≢false, leb-true, le-leb, lt-ltb}
use Rattle.memory.specs.Contents.{Mem, put}
use Rattle.memory.proofs.Contents.{put_same, put_other}
use Rattle.index_sets.specs.Sets.{IndexTest}
use Rattle.std.proofs.lemmas.Option.{none-some}
use Rattle.std.specs.Option.{unwrap_or}
use Rattle.section.specs.View.{held, replaced, Apart}
use Rattle.section.proofs.Pairs.{cases_option, held_head, held_tail, Holds, push_holds, push_apart, replaced_holds, replaced_apart, replaced_length}
use Rattle.agreement.specs.Pairs.{Pair, seen_over, is_held, apart, between, hold, is_word, all_held, arranged, some_below, inhabited}

-- ---- tests and what they say
pub some_held : (ps : List Pair) (i : ℕ) → is_held ps i ≡ true → (w : ℕ) × (held ps i ≡ Some w)
some_held ps i = go (held ps i)
  where
    go : (o : Option ℕ) → is_some o ≡ true → (w : ℕ) × (o ≡ Some w)
    go (Some w) h = (w, refl)
    go None h = absurd (false≢true h)

pub none_held : (ps : List Pair) (i : ℕ) → is_held ps i ≡ false → held ps i ≡ None
none_held ps i = go (held ps i)
  where
    go : (o : Option ℕ) → is_some o ≡ false → o ≡ None
    go (Some w) h = absurd (true≢false h)
    go None h = refl

word_held : (o : Option ℕ) (w : ℕ) → is_word o w ≡ true → o ≡ Some w
word_held (Some v) w h = ap Some (eqb-true v w h)
word_held None w h = absurd (false≢true h)

held_word : (o : Option ℕ) (w : ℕ) → o ≡ Some w → is_word o w ≡ true
held_word o w e = ap (λ (x : Option ℕ). is_word x w) e ∙ eq-eqb w w refl

pub apart_from : (ps : List Pair) → apart ps ≡ true → Apart ps
apart_from [] h = tt
apart_from (p ∷ ps) h =
    let k = and_parts (not (is_held ps p.0)) (apart ps) h in
    (none_held ps p.0 (not-true _ k.0), apart_from ps k.1)

pub apart_test : (ps : List Pair) → Apart ps → apart ps ≡ true
apart_test [] a = refl
apart_test (p ∷ ps) a =
    and_from (not (is_held ps p.0)) (apart ps) (ap (λ (o : Option ℕ). not (is_some o)) a.0) (apart_test ps a.1)

pub apart_drop : (k : ℕ) (ps : List Pair) → Apart ps → Apart (drop k ps)
apart_drop zero ps a = a
apart_drop (suc k) [] a = tt
apart_drop (suc k) (p ∷ ps) a = apart_drop k ps a.1

-- every held index is from T on and below W
abbrev pub Between : ℕ → ℕ → List Pair → Type 0
Between T W ps = (k w : ℕ) → held ps k ≡ Some w → (T ≤ k) × (k < W)

pub between_test : (T W : ℕ) (ps : List Pair) → Between T W ps → between T W ps ≡ true
between_test T W [] h = refl
between_test T W (p ∷ ps) h =
    and_from (leb T p.0 && ltb p.0 W) (between T W ps)
    (and_from (leb T p.0) (ltb p.0 W) (le-leb T p.0 first.0) (lt-ltb p.0 W first.1))
    (between_test T W ps λ k w e.
    ⊎_elim (λ (q : k ≡ p.0). h k p.1 (held_head p ps k q)) (λ ne. h k w (held_tail p ps k ne ∙ e)) (cases_eq k p.0))
  where
    first : (T ≤ p.0) × (p.0 < W)
    first = h p.0 p.1 (held_head p ps p.0 refl)

-- ---- the words that are seen
module _ (m : Mem) (i w : ℕ) (ps : List Pair) (j : ℕ) where
  -- what is put under a held index is not seen
  pub seen_put : is_held ps i ≡ true → seen_over (put m i w) ps j ≡ seen_over m ps j
  seen_put h = ⊎_elim free (λ s. ap (λ (o : Option ℕ). unwrap_or o (put m i w j)) s.1 ∙ sym (ap (λ (o : Option ℕ). unwrap_or o (m j)) s.1)) (cases_option (held ps j))
    where
      free : held ps j ≡ None → seen_over (put m i w) ps j ≡ seen_over m ps j
      free n =
          ap (unwrap_or (held ps j))
          (put_other m i w j (λ e. let s = some_held ps i h in none-some s.0 (sym n ∙ ap (held ps) e ∙ s.1)))

  pub seen_under : held ps i ≡ None → seen_over (put m i w) ps j ≡ put (seen_over m ps) i w j
  seen_under n =
      ⊎_elim
      (λ (e : j ≡ i).
      ap (λ (o : Option ℕ). unwrap_or o (put m i w j)) (ap (held ps) e ∙ n) ∙ ap (put m i w) e ∙ put_same m i w
      ∙ sym (ap (put (seen_over m ps) i w) e ∙ put_same (seen_over m ps) i w))
      (λ ne. ap (unwrap_or (held ps j)) (put_other m i w j ne) ∙ sym (put_other (seen_over m ps) i w j ne))
      (cases_eq j i)

  pub seen_held : (ps' : List Pair) → Holds ps i w ps' → seen_over m ps' j ≡ put (seen_over m ps) i w j
  seen_held ps' h =
      ⊎_elim
      (λ (e : j ≡ i).
      ap (λ (o : Option ℕ). unwrap_or o (m j)) (h j ∙ cond-true (eqb j i) _ _ (eq-eqb j i e))
      ∙ sym (ap (put (seen_over m ps) i w) e ∙ put_same (seen_over m ps) i w))
      (λ ne. ap (λ (o : Option ℕ). unwrap_or o (m j)) (h j ∙ cond-false (eqb j i) _ _ (ne_eqb j i ne)) ∙ sym (put_other (seen_over m ps) i w j ne))
      (cases_eq j i)

-- a pair that is put is seen as it was while it was held
pub seen_settled : (m : Mem) (p : Pair) (ps : List Pair) (j : ℕ) → held ps p.0 ≡ None →
    seen_over (put m p.0 p.1) ps j ≡ seen_over m (p ∷ ps) j
seen_settled m p ps j n =
    seen_under m p.0 p.1 ps j n
    ∙ ⊎_elim
    (λ (e : j ≡ p.0).
    ap (put (seen_over m ps) p.0 p.1) e ∙ put_same (seen_over m ps) p.0 p.1
    ∙ sym (ap (λ (o : Option ℕ). unwrap_or o (m j)) (held_head p ps j e)))
    (λ ne. put_other (seen_over m ps) p.0 p.1 j ne ∙ sym (ap (λ (o : Option ℕ). unwrap_or o (m j)) (held_tail p ps j ne)))
    (cases_eq j p.0)

-- ---- a word newly held
module _ (i w : ℕ) (ps : List Pair) where
  pub hold_holds : Holds ps i w (hold i w ps)
  unfolding hold
  hold_holds = go (is_held ps i) refl
    where
      go : (x : Bool) → is_held ps i ≡ x → Holds ps i w (cond x (replaced ps i w) (ps ++ (i, w) ∷ []))
      go true e = let s = some_held ps i e in replaced_holds i w ps s.0 s.1
      go false e = push_holds i w ps (none_held ps i e)

  pub hold_apart : Apart ps → Apart (hold i w ps)
  unfolding hold
  hold_apart a = go (is_held ps i) refl
    where
      go : (x : Bool) → is_held ps i ≡ x → Apart (cond x (replaced ps i w) (ps ++ (i, w) ∷ []))
      go true e = replaced_apart i w ps a
      go false e = push_apart i w ps a (none_held ps i e)

  pub hold_length : is_held ps i ≡ true → length (hold i w ps) ≡ length ps
  unfolding hold
  hold_length e = ap (λ x. length (cond x (replaced ps i w) (ps ++ (i, w) ∷ []))) e ∙ replaced_length i w ps

-- ---- any order that a section memory may give
all_from : (ps qs : List Pair) → all_held ps qs ≡ true → (k w : ℕ) → held ps k ≡ Some w → held qs k ≡ Some w
all_from [] qs h k w e = absurd (none-some w e)
all_from (p ∷ ps) qs h k w e =
    let x = and_parts (is_word (held qs p.0) p.1) (all_held ps qs) h in
    ⊎_elim
    (λ (q : k ≡ p.0). ap (held qs) q ∙ word_held (held qs p.0) p.1 x.0 ∙ sym (held_head p ps k q) ∙ e)
    (λ ne. all_from ps qs x.1 k w (sym (held_tail p ps k ne) ∙ e))
    (cases_eq k p.0)

-- a list that is apart holds each of its pairs
all_test : (ps qs : List Pair) → Apart ps → ((k w : ℕ) → held ps k ≡ Some w → held qs k ≡ Some w) → all_held ps qs ≡ true
all_test [] qs a h = refl
all_test (p ∷ ps) qs a h =
    and_from (is_word (held qs p.0) p.1) (all_held ps qs)
    (held_word (held qs p.0) p.1 (h p.0 p.1 (held_head p ps p.0 refl)))
    (all_test ps qs a.1 λ k w e.
    h k w (held_tail p ps k (λ (q : k ≡ p.0). none-some w (sym a.0 ∙ ap (held ps) (sym q) ∙ e)) ∙ e))

-- pairs that stand in for ps: they hold the same words, differ, and are few
pub record Legal (H : ℕ) (given ps : List Pair) : Type 0 where
  pub same : (k : ℕ) → held given k ≡ held ps k
  pub apart : Apart given
  pub few : length given ≤ H

abbrev legal : ℕ → List Pair → List Pair → Bool
legal H given ps = (apart given && leb (length given) H) && (all_held given ps && all_held ps given)

legal_from : (H : ℕ) (given ps : List Pair) → legal H given ps ≡ true → Legal H given ps
legal_from H given ps h =
    let k = and_parts (apart given && leb (length given) H) (all_held given ps && all_held ps given) h in
    let x = and_parts (apart given) (leb (length given) H) k.0 in
    let y = and_parts (all_held given ps) (all_held ps given) k.1 in
    record {
      same = λ i.
          ⊎_elim
          (λ n. n ∙ sym (⊎_elim (λ e. e)
          (λ (s : (w : ℕ) × (held ps i ≡ Some w)). absurd (none-some s.0 (sym n ∙ all_from ps given y.1 i s.0 s.1)))
          (cases_option (held ps i))))
          (λ (s : (w : ℕ) × (held given i ≡ Some w)). s.1 ∙ sym (all_from given ps y.0 i s.0 s.1))
          (cases_option (held given i));
      apart = apart_from given x.0;
      few = leb-true (length given) H x.1;
    }

module _ (H : ℕ) (given ps : List Pair) where
  pub arranged_same : (k : ℕ) → held (arranged H given ps) k ≡ held ps k
  unfolding arranged
  arranged_same k = go (legal H given ps) refl
    where
      go : (x : Bool) → legal H given ps ≡ x → held (cond x given ps) k ≡ held ps k
      go true e = (legal_from H given ps e).same k
      go false e = refl

  pub arranged_apart : Apart ps → Apart (arranged H given ps)
  unfolding arranged
  arranged_apart a = go (legal H given ps) refl
    where
      go : (x : Bool) → legal H given ps ≡ x → Apart (cond x given ps)
      go true e = (legal_from H given ps e).apart
      go false e = a

  pub arranged_few : length ps ≤ H → length (arranged H given ps) ≤ H
  unfolding arranged
  arranged_few f = go (legal H given ps) refl
    where
      go : (x : Bool) → legal H given ps ≡ x → length (cond x given ps) ≤ H
      go true e = (legal_from H given ps e).few
      go false e = f

  -- and every such list can be given
  pub arranged_as : Legal H given ps → Apart ps → arranged H given ps ≡ given
  unfolding arranged
  arranged_as l a =
      ap (λ x. cond x given ps)
      (and_from (apart given && leb (length given) H) (all_held given ps && all_held ps given)
      (and_from (apart given) (leb (length given) H) (apart_test given l.apart) (le-leb (length given) H l.few))
      (and_from (all_held given ps) (all_held ps given)
      (all_test given ps l.apart (λ k w e. sym (l.same k) ∙ e)) (all_test ps given a (λ k w e. l.same k ∙ e))))

-- ---- the pairs after a held write
module _ (H : ℕ) (given : List Pair) (i w : ℕ) (ps : List Pair) where
  abbrev pub kept : List Pair
  kept = arranged H given (hold i w ps)

  pub kept_holds : Holds ps i w kept
  kept_holds k = arranged_same H given (hold i w ps) k ∙ hold_holds i w ps k

  pub kept_apart : Apart ps → Apart kept
  kept_apart a = arranged_apart H given (hold i w ps) (hold_apart i w ps a)

  pub kept_few : is_held ps i ≡ true → length ps ≤ H → length kept ≤ H
  kept_few e f = arranged_few H given (hold i w ps) (rw (hold_length i w ps e) f)

  pub kept_as : Holds ps i w given → Apart given → length given ≤ H → Apart ps → kept ≡ given
  kept_as h a f a' =
      arranged_as H given (hold i w ps)
      (record { same = λ k. h k ∙ sym (hold_holds i w ps k); apart = a; few = f }) (hold_apart i w ps a')

  -- an index that is held then was held before, or is the new one
  pub kept_index : (k v : ℕ) → held kept k ≡ Some v → (k ≡ i) ⊎ (held ps k ≡ Some v)
  kept_index k v e =
      ⊎_elim inl (λ ne. inr (sym (kept_holds k ∙ cond-false (eqb k i) (Some w) (held ps k) (ne_eqb k i ne)) ∙ e)) (cases_eq k i)

-- ---- a set with an index in it
some_in : (n : ℕ) (r : IndexTest) → some_below n r ≡ true → (j : ℕ) × (r j ≡ true)
unfolding some_below
some_in zero r h = absurd (false≢true h)
some_in (suc n) r h = go (some_in n r) (or_cases (r n) (some_below n r) h)
  where
    go : (some_below n r ≡ true → (j : ℕ) × (r j ≡ true)) → (r n ≡ true) ⊎ (some_below n r ≡ true) → (j : ℕ) × (r j ≡ true)
    go ih (inl e) = (n, e)
    go ih (inr e) = ih e

in_some : (n : ℕ) (r : IndexTest) (j : ℕ) → j < n → r j ≡ true → some_below n r ≡ true
unfolding some_below
in_some zero r j l h = let x : ⊥ = omega arith in absurd x
in_some (suc n) r j l h = go (cases_Bool (eqb j n)) (in_some n r j)
  where
    go : (eqb j n ≡ true) ⊎ (eqb j n ≡ false) → (j < n → r j ≡ true → some_below n r ≡ true) → some_below (suc n) r ≡ true
    go (inl e) ih = or_left (r n) (some_below n r) (subst (λ x. r x ≡ true) (eqb-true j n e) h)
    go (inr e) ih = or_right (r n) (some_below n r) (let q = eqb-false j n e in ih (omega arith) h)

pub inhabited_in : (r : IndexTest) → inhabited r ≡ true → (j : ℕ) × (r j ≡ true)
unfolding inhabited
inhabited_in r h = some_in 16384 r h

pub in_inhabited : (r : IndexTest) (j : ℕ) → j < 16384 → r j ≡ true → inhabited r ≡ true
unfolding inhabited
in_inhabited r j l h = in_some 16384 r j l h
