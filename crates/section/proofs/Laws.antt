-- What follows from the meaning of the calls.
use Rattle.std.proofs.Common.{◌≡◌, ℕ, ◌<◌, ◌≤◌, Bool, true, false, cond, ◌||◌, eqb, ◌≢◌, ◌⊎◌, List, length, get_or, set, Some, None, Ok, Err, Option, Result, sym, refl, ap, ◌∙◌, subst, inl, inr, ⊎_elim, arith}
use Rattle.std.proofs.lemmas.Bool.{eqb-true, cases_eq, cases_lt, cases_Bool, false≢true, or_cases, or_parts}
use Rattle.std.proofs.lemmas.List.{get_or-set_same, get_or-set_other}
use Rattle.std.proofs.lemmas.Option.{none-some}
use Rattle.memory.specs.Lanes.{merged}
use Rattle.index_sets.specs.Sets.{joined}
use Rattle.section.specs.declared.Refusal.{Refusal}
use Rattle.section.specs.Refusals.{Refused}
use Rattle.std.specs.Option.{unwrap_or}
use Rattle.section.specs.View.{View, Facts, fresh, held, seen}
use Rattle.section.specs.Calls.{known, with_read, Entered, Read, Declined, Stored, HeldBack, Kept, Write}
use Rattle.section.specs.Laws.{SectionLaws}
use Rattle.section.proofs.Pairs.{by_test, cases_option, holds_same, holds_other}

pub refused_not_ok : {A : Type 0} (n : ℕ) (r : Result A Refusal) (x : A) → Refused n r → r ≡ Ok x → ⊥
refused_not_ok n (Ok y) x f e = f
refused_not_ok n (Err y) x f e = let z : ◌≡◌ {A = ℕ} 0 1 = cc in omega arith

-- one word set in a list, read as a test of the index
word_put : (ws : List ℕ) (i w : ℕ) → i < length ws → (k : ℕ) → get_or (set ws i w) k 0 ≡ cond (eqb k i) w (get_or ws k 0)
word_put ws i w low =
    by_test (λ k. get_or (set ws i w) k 0) (λ k. get_or ws k 0) i w (get_or-set_same ws i w 0 low) (λ k. get_or-set_other ws i k w 0)

-- ---- what a read comes to
pub data ReadOutcome (ws : List ℕ) (v : View) (i : ℕ) (r : Result ℕ Refusal) (v' : View) : Type 0 where
  refused : ((w : ℕ) → r ≡ Ok w → ⊥) → v' ≡ v → ReadOutcome ws v i r v'
  same : r ≡ Ok (seen ws v i) → v' ≡ v → ReadOutcome ws v i r v'
  enters : known v i ≡ false → r ≡ Ok (seen ws v i) → v' ≡ with_read v i → ReadOutcome ws v i r v'

entered : (ws : List ℕ) (v : View) (i : ℕ) (r : Result ℕ Refusal) (v' : View) →
    known v i ≡ false → Entered ws v i r v' → ReadOutcome ws v i r v'
entered ws v i (Ok w) v' new e = enters new (ap Ok e.0) e.1
entered ws v i (Err x) v' new e = refused (λ w q. refused_not_ok 21 (Err x) w e.0 q) e.2

pub read_outcome : (ws : List ℕ) (v : View) (i : ℕ) (r : Result ℕ Refusal) (ws' : List ℕ) (v' : View) →
    Read ws v i r ws' v' → ReadOutcome ws v i r v'
read_outcome ws v i r ws' v' st =
    ⊎_elim
    (λ low.
    ⊎_elim (λ t. let e = st.again low t in same e.0 e.1) (λ f. entered ws v i r v' f (st.first low f)) (cases_Bool (known v i)))
    (λ high. let e = st.range high in refused (λ w. refused_not_ok 20 r w e.0) e.1)
    (cases_lt i (length ws))

-- ---- what a write comes to
pub data WriteOutcome (h : ℕ) (ws : List ℕ) (v : View) (i new lanes : ℕ) (r : Result (Unit {0}) Refusal) (ws' : List ℕ) (v' : View) : Type 0 where
  refused : (r ≡ Ok tt → ⊥) → ws' ≡ ws → v' ≡ v → WriteOutcome h ws v i new lanes r ws' v'
  in_place : i < length ws → v.reads i ≡ false → Stored ws v i new lanes r ws' v' → WriteOutcome h ws v i new lanes r ws' v'
  held_back : v.reads i ≡ true → HeldBack h ws v i new ws' v' → WriteOutcome h ws v i new lanes r ws' v'

module _ (h : ℕ) (ws : List ℕ) (v : View) (i : ℕ) where
  declined : (n new lanes : ℕ) (r : Result (Unit {0}) Refusal) (ws' : List ℕ) (v' : View) →
      Declined n ws v r ws' v' → WriteOutcome h ws v i new lanes r ws' v'
  declined n new lanes r ws' v' d = refused (refused_not_ok n r tt d.0) d.1 d.2

  kept : (new lanes : ℕ) (r : Result (Unit {0}) Refusal) (ws' : List ℕ) (v' : View) →
      v.reads i ≡ true → Kept h ws v i new r ws' v' → WriteOutcome h ws v i new lanes r ws' v'
  kept new lanes (Ok _) ws' v' t k = held_back t k
  kept new lanes (Err e) ws' v' t k = declined 21 new lanes (Err e) ws' v' k.1

  pub write_outcome : (w lanes : ℕ) (r : Result (Unit {0}) Refusal) (ws' : List ℕ) (v' : View) →
      Write h ws v i w lanes r ws' v' → WriteOutcome h ws v i (merged (seen ws v i) w lanes) lanes r ws' v'
  write_outcome w lanes r ws' v' st =
      ⊎_elim
      (λ low.
      ⊎_elim
      (λ pos.
      ⊎_elim (λ high. declined 23 _ lanes r ws' v' (st.unnamed low (inr high)))
      (λ few.
      ⊎_elim (λ t. kept _ lanes r ws' v' t (st.inside low pos few t)) (λ f. in_place low f (st.outside low pos few f)) (cases_Bool (v.reads i)))
      (cases_lt 15 lanes))
      (λ zero. declined 23 _ lanes r ws' v' (st.unnamed low (inl (omega arith))))
      (cases_lt 0 lanes))
      (λ high. declined 20 _ lanes r ws' v' (st.range high))
      (cases_lt i (length ws))

-- ---- what is seen
seen_read : (ws : List ℕ) (v : View) (i : ℕ) (r : Result ℕ Refusal) (v' : View) → ReadOutcome ws v i r v' → (k : ℕ) → seen ws v' k ≡ seen ws v k
seen_read ws v i r v' (refused _ e) k = ap (λ (u : View). seen ws u k) e
seen_read ws v i r v' (same _ e) k = ap (λ (u : View). seen ws u k) e
seen_read ws v i r v' (enters _ _ e) k = ap (λ (u : View). seen ws u k) e

answered : (ws : List ℕ) (v : View) (i w : ℕ) (v' : View) → ReadOutcome ws v i (Ok w) v' → w ≡ seen ws v i
answered ws v i w v' (refused out _) = absurd (out w refl)
answered ws v i w v' (same e _) = cc
answered ws v i w v' (enters _ e _) = cc

-- an index outside R is not held
pub not_held : (h : ℕ) (v : View) (i : ℕ) → Facts h v → v.reads i ≡ false → held v.pairs i ≡ None
not_held h v i s f =
    ⊎_elim (λ e. e) (λ (p : (w : ℕ) × (held v.pairs i ≡ Some w)). absurd (false≢true (sym f ∙ s.inside i p.0 p.1)))
    (cases_option (held v.pairs i))

seen_written : (h : ℕ) (ws : List ℕ) (v : View) (i new lanes : ℕ) (ws' : List ℕ) (v' : View) → Facts h v →
    WriteOutcome h ws v i new lanes (Ok tt) ws' v' → (k : ℕ) → seen ws' v' k ≡ cond (eqb k i) new (seen ws v k)
seen_written h ws v i new lanes ws' v' s (refused out _ _) = absurd (out refl)
seen_written h ws v i new lanes ws' v' s (in_place low f st) =
    let words : (k : ℕ) → get_or ws' k 0 ≡ get_or (set ws i new) k 0 = λ k. ap (λ (z : List ℕ). get_or z k 0) st.words in
    let pairs : (k : ℕ) → held v'.pairs k ≡ held v.pairs k = λ k. ap (λ (z : List (ℕ × ℕ)). held z k) st.pairs in
    by_test (seen ws' v') (seen ws v) i new
    (ap (λ (o : Option ℕ). unwrap_or o (get_or ws' i 0)) (pairs i ∙ not_held h v i s f) ∙ words i ∙ get_or-set_same ws i new 0 low)
    (λ k ne.
    ap (λ (o : Option ℕ). unwrap_or o (get_or ws' k 0)) (pairs k)
    ∙ ap (unwrap_or (held v.pairs k)) (words k ∙ get_or-set_other ws i k new 0 ne))
seen_written h ws v i new lanes ws' v' s (held_back t st) =
    let words : (k : ℕ) → get_or ws' k 0 ≡ get_or ws k 0 = λ k. ap (λ (z : List ℕ). get_or z k 0) st.words in
    by_test (seen ws' v') (seen ws v) i new
    (ap (λ (o : Option ℕ). unwrap_or o (get_or ws' i 0)) (holds_same v.pairs i new v'.pairs st.holds))
    (λ k ne.
    ap (λ (o : Option ℕ). unwrap_or o (get_or ws' k 0)) (holds_other v.pairs i new v'.pairs st.holds k ne)
    ∙ ap (unwrap_or (held v.pairs k)) (words k))

-- ---- the facts
-- where nothing is marked and nothing held, all facts hold
pub fresh_facts : (h : ℕ) → h ≤ 64 → Facts h fresh
fresh_facts h l =
    record {
      below = λ k a. absurd (false≢true a);
      disjoint = λ k a b. false≢true a;
      apart = tt;
      inside = λ k w e. absurd (none-some w e);
      few = omega arith;
      cap = l;
    }

-- a member of a set with i in it is i or was in the set
joined_cases : (m : ℕ → Bool) (i k : ℕ) → joined m i k ≡ true → (k ≡ i) ⊎ (m k ≡ true)
joined_cases m i k e = ⊎_elim (λ q. inl (eqb-true k i q)) inr (or_cases (eqb k i) (m k) e)

joined_old : (m : ℕ → Bool) (i k : ℕ) → m k ≡ true → joined m i k ≡ true
joined_old m i k e = elim (eqb k i) as (λ b. (b || m k) ≡ true) [ true ↦ refl | false ↦ e ]

enters_keeps : (h : ℕ) (v : View) (i : ℕ) → i < 16384 → known v i ≡ false → Facts h v → Facts h (with_read v i)
enters_keeps h v i low new s =
    let out : v.writes i ≡ false = (or_parts (v.reads i) (v.writes i) new).1 in
    record {
      below = λ k a. ⊎_elim (λ (q : k ≡ i). omega arith) (s.below k) (joined_cases v.reads i k a);
      disjoint = λ k a b.
          ⊎_elim (λ (q : k ≡ i). false≢true (sym out ∙ ap v.writes (sym q) ∙ b)) (λ c. s.disjoint k c b)
          (joined_cases v.reads i k a);
      apart = s.apart;
      inside = λ k w e. joined_old v.reads i k (s.inside k w e);
      few = s.few;
      cap = s.cap;
    }

read_facts : (h : ℕ) (ws : List ℕ) (v : View) (i : ℕ) (r : Result ℕ Refusal) (v' : View) →
    i < 16384 → Facts h v → ReadOutcome ws v i r v' → Facts h v'
read_facts h ws v i r v' low s (refused _ e) = subst (Facts h) (sym e) s
read_facts h ws v i r v' low s (same _ e) = subst (Facts h) (sym e) s
read_facts h ws v i r v' low s (enters new _ e) = subst (Facts h) (sym e) (enters_keeps h v i low new s)

-- a write in place leaves F as it is or adds an index outside R
stored_disjoint : (h : ℕ) (v v' : View) (i lanes : ℕ) → Facts h v → v.reads i ≡ false →
    (v'.writes ≡ v.writes) ⊎ ((lanes ≡ 15) × (v'.writes ≡ joined v.writes i)) →
    (k : ℕ) → v.reads k ≡ true → v'.writes k ≡ true → ⊥
stored_disjoint h v v' i lanes s f (inl e) k a b = s.disjoint k a (ap (λ (m : ℕ → Bool). m k) (sym e) ∙ b)
stored_disjoint h v v' i lanes s f (inr e) k a b =
    ⊎_elim (λ (q : k ≡ i). false≢true (sym f ∙ ap v.reads (sym q) ∙ a)) (s.disjoint k a)
    (joined_cases v.writes i k (ap (λ (m : ℕ → Bool). m k) (sym e.1) ∙ b))

write_facts : (h : ℕ) (ws : List ℕ) (v : View) (i new lanes : ℕ) (r : Result (Unit {0}) Refusal) (ws' : List ℕ) (v' : View) →
    Facts h v → WriteOutcome h ws v i new lanes r ws' v' → Facts h v'
write_facts h ws v i new lanes r ws' v' s (refused _ _ e) = subst (Facts h) (sym e) s
write_facts h ws v i new lanes r ws' v' s (in_place low f st) =
    let was : (k : ℕ) → v'.reads k ≡ true → v.reads k ≡ true = λ k a. ap (λ (m : ℕ → Bool). m k) (sym st.reads) ∙ a in
    record {
      below = λ k a. s.below k (was k a);
      disjoint = λ k a b. stored_disjoint h v v' i lanes s f st.writes k (was k a) b;
      apart = rw st.pairs s.apart;
      inside = λ k w e. ap (λ (m : ℕ → Bool). m k) st.reads ∙ s.inside k w (ap (λ (z : List (ℕ × ℕ)). held z k) (sym st.pairs) ∙ e);
      few = rw st.pairs s.few;
      cap = s.cap;
    }
write_facts h ws v i new lanes r ws' v' s (held_back t st) =
    let was : (k : ℕ) → v'.reads k ≡ true → v.reads k ≡ true = λ k a. ap (λ (m : ℕ → Bool). m k) (sym st.reads) ∙ a in
    record {
      below = λ k a. s.below k (was k a);
      disjoint = λ k a b. s.disjoint k (was k a) (ap (λ (m : ℕ → Bool). m k) (sym st.writes) ∙ b);
      apart = st.apart;
      inside = λ k w e.
          ap (λ (m : ℕ → Bool). m k) st.reads
          ∙ ⊎_elim (λ (q : k ≡ i). ap v.reads q ∙ t)
          (λ (ne : k ≢ i). s.inside k w (sym (holds_other v.pairs i new v'.pairs st.holds k ne) ∙ e))
          (cases_eq k i);
      few = st.few;
      cap = s.cap;
    }

-- ---- the laws
pub section_laws : SectionLaws
section_laws =
    record {
      first_read = λ ws i r ws' v' low st. fresh_read ws i r v' (st.first low refl);
      first_write = λ h ws i w lanes r ws' v' low pos few st. (st.outside low pos few refl).accepted;
      read_answers = λ ws v i w ws' v' st. answered ws v i w v' (read_outcome ws v i (Ok w) ws' v' st);
      read_seen = λ ws v i r ws' v' st k.
          ap (λ (z : List ℕ). seen z v' k) st.words ∙ seen_read ws v i r v' (read_outcome ws v i r ws' v' st) k;
      write_seen = λ h ws v i w lanes ws' v' s st.
          seen_written h ws v i (merged (seen ws v i) w lanes) lanes ws' v' s (write_outcome h ws v i w lanes (Ok tt) ws' v' st);
      read_keeps = λ h ws v i r ws' v' low s st. read_facts h ws v i r v' low s (read_outcome ws v i r ws' v' st);
      write_keeps = λ h ws v i w lanes r ws' v' s st.
          write_facts h ws v i (merged (seen ws v i) w lanes) lanes r ws' v' s (write_outcome h ws v i w lanes r ws' v' st);
      put_word = λ ws i w ws' st k.
          ⊎_elim (λ low. ap (λ (z : List ℕ). get_or z k 0) (st.0 low).1 ∙ word_put ws i w low k) (λ high. absurd (st.1 high).0)
          (cases_lt i (length ws));
    }
  where
    fresh_read : (ws : List ℕ) (i : ℕ) (r : Result ℕ Refusal) (v' : View) → Entered ws fresh i r v' → r ≡ Ok (get_or ws i 0)
    fresh_read ws i (Ok w) v' e = ap Ok e.0
    fresh_read ws i (Err x) v' e = absurd (false≢true e.1.1)
