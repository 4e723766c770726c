-- The calls of a write-back layer, by those of the section memory below it.
use Rattle.std.proofs.Common.{◌≡◌, ℕ, ◌<◌, ◌≤◌, true, false, ◌⊎◌, List, [], ◌∷◌, ◌++◌, length, get_or, set, Some, None, Ok, Err, Option, Result, sym, refl, ap, ◌∙◌, subst, inl, inr, ⊎_elim, arith}
use Rattle.std.proofs.lemmas.Bool.{cases_Bool, false≢true, or_left}
use Rattle.std.proofs.lemmas.Option.{none-some}
use Rattle.std.proofs.lemmas.List.{append_assoc, length-append, length_push}
use Rattle.memory.specs.Lanes.{merged}
use Rattle.section.specs.declared.Refusal.{Refusal}
use Rattle.std.specs.Option.{unwrap_or}
use Rattle.section.specs.View.{View, Facts, Meant, held, seen, replaced, Apart}
use Rattle.section.specs.Calls.{known, Entered, Read, HeldBack, Kept, Write}
use Rattle.section.specs.declared.Refusal.TheVariants.{OutOfRange, Due, Lanes, NoPair}
use Rattle.section.specs.Refusals.{number, Refused}
use Rattle.write_back.specs.Own.{Changed}
use Rattle.write_back.specs.declared.layer.WriteBack.{WriteBack}
use Rattle.write_back.specs.Layer.{most_over, room_over, layered, over, AllFacts, Taken, InOrder}
use Rattle.section.proofs.Pairs.{Holds, none_append, append_none, apart_cross, apart_right, apart_join, holds_other, holds_append, push_holds, push_apart, replaced_append, replaced_holds, replaced_apart, replaced_length}
use Rattle.section.proofs.Laws.{section_laws}

due : (x : Refusal) → number x ≡ 21 → x ≡ Due
due OutOfRange e = absurd (omega arith)
due Due e = refl
due Lanes e = absurd (omega arith)
due NoPair e = absurd (omega arith)

no_lanes : (lanes : ℕ) → 0 < lanes → lanes ≤ 15 → (lanes ≡ 0) ⊎ (15 < lanes) → ⊥
no_lanes lanes a b (inl e) = omega arith
no_lanes lanes a b (inr e) = omega arith

-- the length of the layer's pairs fits
fits : (h : ℕ) (ps qs : List (ℕ × ℕ)) → h ≤ 64 → length ps ≤ h → length qs ≤ room_over h → length (ps ++ qs) ≤ most_over h
fits h ps qs cap a b = omega (arith, length-append ps qs)

fits_more : (h : ℕ) (ps qs : List (ℕ × ℕ)) → h ≤ 64 → length ps < h → length qs ≤ room_over h → length (ps ++ qs) < most_over h
fits_more h ps qs cap a b = omega (arith, length-append ps qs)

fits_room : (h : ℕ) (ps qs : List (ℕ × ℕ)) → h ≤ 64 → length ps ≤ h → length qs < room_over h → length (ps ++ qs) < most_over h
fits_room h ps qs cap a b = omega (arith, length-append ps qs)

-- ---- an index without an own pair
module _ (ws : List ℕ) (v : View) (ps : List (ℕ × ℕ)) (i : ℕ) (out : held ps i ≡ None) where
  pub seen_below : seen ws v i ≡ seen ws (layered v ps) i
  seen_below = ap (λ (o : Option ℕ). unwrap_or o (get_or ws i 0)) (sym (append_none v.pairs ps i out))

  entered_above : (r : Result ℕ Refusal) (v' : View) → Entered ws v i r v' → Entered ws (layered v ps) i r (layered v' ps)
  entered_above (Ok w) v' e = (e.0 ∙ seen_below, ap (λ (u : View). layered u ps) e.1)
  entered_above (Err x) v' e = (e.0, e.1, ap (λ (u : View). layered u ps) e.2)

  -- a read goes to the section memory below
  pub read_below : (r : Result ℕ Refusal) (ws' : List ℕ) (v' : View) → Read ws v i r ws' v' → Read ws (layered v ps) i r ws' (layered v' ps)
  read_below r ws' v' st =
      record {
        range = λ high. ((st.range high).0, ap (λ (u : View). layered u ps) (st.range high).1);
        again = λ low t. ((st.again low t).0 ∙ ap Ok seen_below, ap (λ (u : View). layered u ps) (st.again low t).1);
        first = λ low f. entered_above r v' (st.first low f);
        words = st.words;
      }

-- ---- an index with an own pair
module _ (h : ℕ) (ws : List ℕ) (v : View) (ps : List (ℕ × ℕ)) (i old : ℕ) (s : Facts h (layered v ps)) (e : held ps i ≡ Some old) where
  below_none : held v.pairs i ≡ None
  below_none = apart_cross v.pairs ps s.apart i old e

  above_some : held (v.pairs ++ ps) i ≡ Some old
  above_some = none_append v.pairs ps i below_none ∙ e

  read_in : v.reads i ≡ true
  read_in = s.inside i old above_some

  seen_own : old ≡ seen ws (layered v ps) i
  seen_own = sym (ap (λ (o : Option ℕ). unwrap_or o (get_or ws i 0)) above_some)

  pub read_own : i < length ws → Read ws (layered v ps) i (Ok old) ws (layered v ps)
  read_own low =
      let t : known v i ≡ true = or_left (v.reads i) (v.writes i) read_in in
      record {
        range = λ high. absurd (omega arith);
        again = λ _ _. (ap Ok seen_own, refl);
        first = λ _ f. absurd (false≢true (sym f ∙ t));
        words = refl;
      }

  module _ (new : ℕ) where
    row : v.pairs ++ replaced ps i new ≡ replaced (v.pairs ++ ps) i new
    row = replaced_append i new v.pairs ps below_none

    own_held : HeldBack h ws (layered v ps) i new ws (layered v (replaced ps i new))
    own_held =
        record {
          words = refl;
          reads = refl;
          writes = refl;
          holds = subst (Holds (v.pairs ++ ps) i new) (sym row) (replaced_holds i new (v.pairs ++ ps) old above_some);
          apart = subst Apart (sym row) (replaced_apart i new (v.pairs ++ ps) s.apart);
          few = omega (arith, ap length row, replaced_length i new (v.pairs ++ ps), s.few);
          room = λ n. absurd (none-some old (sym n ∙ above_some));
        }

  pub write_own : (w lanes : ℕ) → i < length ws → 0 < lanes → lanes ≤ 15 →
      Write h ws (layered v ps) i w lanes (Ok tt) ws (layered v (replaced ps i (merged old w lanes)))
  write_own w lanes low pos few =
      record {
        range = λ high. absurd (omega arith);
        unnamed = λ _ l. absurd (no_lanes lanes pos few l);
        outside = λ _ _ _ f. absurd (false≢true (sym f ∙ read_in));
        inside = λ _ _ _ _.
            subst (λ (z : ℕ). HeldBack h ws (layered v ps) i (merged z w lanes) ws (layered v (replaced ps i (merged old w lanes)))) seen_own
            (own_held (merged old w lanes));
      }

-- ---- all that a layer's write promises, over a section memory that holds at most h pairs
pub record LayerWrite (h : ℕ) (ws : List ℕ) (v : View) (ps : List (ℕ × ℕ)) (i w lanes : ℕ)
    (r : Result (Unit {0}) Refusal) (ws' : List ℕ) (v' : View) (ps' : List (ℕ × ℕ)) : Type 0 where
  pub write : Write (most_over h) ws (layered v ps) i w lanes r ws' (layered v' ps')
  pub facts : Facts (most_over h) (layered v' ps')
  pub room : length ps' ≤ room_over h
  pub order : InOrder ps i ps'
  pub full : Refused 21 r → room_over h ≤ length ps

module _ (h : ℕ) (ws : List ℕ) (v : View) (ps : List (ℕ × ℕ)) (i w lanes : ℕ)
    (low : i < length ws) (pos : 0 < lanes) (named : lanes ≤ 15)
    (s₀ : Facts h v) (s : Facts (most_over h) (layered v ps)) (room : length ps ≤ room_over h) where
  promised : (r : Result (Unit {0}) Refusal) (ws' : List ℕ) (v' : View) (ps' : List (ℕ × ℕ)) →
      Write (most_over h) ws (layered v ps) i w lanes r ws' (layered v' ps') → length ps' ≤ room_over h → InOrder ps i ps' →
      (Refused 21 r → room_over h ≤ length ps) → LayerWrite h ws v ps i w lanes r ws' v' ps'
  promised r ws' v' ps' st few order full =
      record {
        write = st;
        facts = section_laws.write_keeps (most_over h) ws (layered v ps) i w lanes r ws' (layered v' ps') s st;
        room = few;
        order = order;
        full = full;
      }

  -- an index with an own pair
  pub changed : (ps' : List (ℕ × ℕ)) → Changed ps i w lanes true ps' → LayerWrite h ws v ps i w lanes (Ok tt) ws v ps'
  changed ps' c =
      let new = merged c.0 w lanes in
      promised (Ok tt) ws v ps'
      (subst (λ (z : List (ℕ × ℕ)). Write (most_over h) ws (layered v ps) i w lanes (Ok tt) ws (layered v z)) (sym c.2)
      (write_own (most_over h) ws v ps i c.0 s c.1 w lanes low pos named))
      (omega (arith, ap length c.2, replaced_length i new ps))
      (inr (inl (new, c.2)))
      (λ f. absurd f)

  module _ (out : held ps i ≡ None) where
    -- what is held back below is held back here
    held_above : (new : ℕ) (ws' : List ℕ) (v' : View) →
        HeldBack h ws v i new ws' v' → HeldBack (most_over h) ws (layered v ps) i new ws' (layered v' ps)
    held_above new ws' v' st =
        record {
          words = st.words;
          reads = st.reads;
          writes = st.writes;
          holds = holds_append v.pairs i new v'.pairs st.holds ps;
          apart =
              apart_join v'.pairs ps st.apart (apart_right v.pairs ps s.apart)
              (λ k x e.
              holds_other v.pairs i new v'.pairs st.holds k (λ q. none-some x (sym out ∙ ap (held ps) (sym q) ∙ e))
              ∙ apart_cross v.pairs ps s.apart k x e);
          few = fits h v'.pairs ps s₀.cap st.few room;
          room = λ n. fits_more h v.pairs ps s₀.cap (st.room (sym (append_none v.pairs ps i out) ∙ n)) room;
        }

    write_above : (ws' : List ℕ) (v' : View) → Write h ws v i w lanes (Ok tt) ws' v' →
        Write (most_over h) ws (layered v ps) i w lanes (Ok tt) ws' (layered v' ps)
    write_above ws' v' st =
        let same : merged (seen ws v i) w lanes ≡ merged (seen ws (layered v ps) i) w lanes =
        ap (λ (z : ℕ). merged z w lanes) (seen_below ws v ps i out) in
        record {
          range = λ high. absurd (omega arith);
          unnamed = λ _ l. absurd (no_lanes lanes pos named l);
          outside = λ _ _ _ f.
              let e = st.outside low pos named f in
              record {
                accepted = refl;
                words = e.words ∙ ap (set ws i) same;
                reads = e.reads;
                writes = e.writes;
                pairs = ap (λ (z : List (ℕ × ℕ)). z ++ ps) e.pairs;
              };
          inside = λ _ _ _ t.
              subst (λ (z : ℕ). HeldBack (most_over h) ws (layered v ps) i z ws' (layered v' ps)) same
              (held_above (merged (seen ws v i) w lanes) ws' v' (st.inside low pos named t));
        }

    -- a write that is accepted below
    pub accepted_below : (ws' : List ℕ) (v' : View) (ps' : List (ℕ × ℕ)) → ps' ≡ ps → Write h ws v i w lanes (Ok tt) ws' v' →
        LayerWrite h ws v ps i w lanes (Ok tt) ws' v' ps'
    accepted_below ws' v' ps' e st =
        subst (LayerWrite h ws v ps i w lanes (Ok tt) ws' v') (sym e)
        (promised (Ok tt) ws' v' ps (write_above ws' v' st) room (inl refl) (λ f. absurd f))

    -- a write that is refused below is refused 21: i is in R and not held, and nothing has changed
    refusal_below : (x : Refusal) (ws' : List ℕ) (v' : View) → Write h ws v i w lanes (Err x) ws' v' →
        (v.reads i ≡ true) × (held v.pairs i ≡ None) × (ws' ≡ ws) × (v' ≡ v) × (x ≡ Due)
    refusal_below x ws' v' st =
        ⊎_elim (λ t. let e = st.inside low pos named t in (t, e.0, e.1.1, e.1.2, due x e.1.0))
        (λ f. let e = (st.outside low pos named f).accepted in let z : ◌≡◌ {A = ℕ} 0 1 = cc in absurd (omega arith))
        (cases_Bool (v.reads i))

    -- a write that is not refused 21 below
    answered_below : (r : Result (Unit {0}) Refusal) (ws' : List ℕ) (v' : View) (ps' : List (ℕ × ℕ)) →
        (r ≡ Err Due → ⊥) → ps' ≡ ps → Write h ws v i w lanes r ws' v' → LayerWrite h ws v ps i w lanes r ws' v' ps'
    answered_below (Ok _) ws' v' ps' other e st = accepted_below ws' v' ps' e st
    answered_below (Err x) ws' v' ps' other e st = absurd (other (ap Err (refusal_below x ws' v' st).4))

    -- it becomes a pair of the layer's own, or is refused here too
    module _ (t : v.reads i ≡ true) (none : held v.pairs i ≡ None) where
      above_none : held (v.pairs ++ ps) i ≡ None
      above_none = none_append v.pairs ps i none ∙ out

      seen_word : get_or ws i 0 ≡ seen ws (layered v ps) i
      seen_word = sym (ap (λ (o : Option ℕ). unwrap_or o (get_or ws i 0)) above_none)

      pushed : (new : ℕ) → length ps < room_over h →
          HeldBack (most_over h) ws (layered v ps) i new ws (layered v (ps ++ (i, new) ∷ []))
      pushed new more =
          let row : v.pairs ++ (ps ++ (i, new) ∷ []) ≡ (v.pairs ++ ps) ++ (i, new) ∷ [] = sym (append_assoc v.pairs ps ((i, new) ∷ [])) in
          let less : length (v.pairs ++ ps) < most_over h = fits_room h v.pairs ps s₀.cap s₀.few more in
          record {
            words = refl;
            reads = refl;
            writes = refl;
            holds = subst (Holds (v.pairs ++ ps) i new) (sym row) (push_holds i new (v.pairs ++ ps) above_none);
            apart = subst Apart (sym row) (push_apart i new (v.pairs ++ ps) s.apart above_none);
            few = omega (arith, ap length row, length_push (v.pairs ++ ps) (i, new));
            room = λ _. less;
          }

      write_kept : (r : Result (Unit {0}) Refusal) (ps' : List (ℕ × ℕ)) →
          Kept (most_over h) ws (layered v ps) i (merged (seen ws (layered v ps) i) w lanes) r ws (layered v ps') →
          Write (most_over h) ws (layered v ps) i w lanes r ws (layered v ps')
      write_kept r ps' k =
          record {
            range = λ high. absurd (omega arith);
            unnamed = λ _ l. absurd (no_lanes lanes pos named l);
            outside = λ _ _ _ f. absurd (false≢true (sym f ∙ t));
            inside = λ _ _ _ _. k;
          }

      taken : (r : Result (Unit {0}) Refusal) (ps' : List (ℕ × ℕ)) → Taken (room_over h) ps (i, merged (get_or ws i 0) w lanes) r ps' →
          LayerWrite h ws v ps i w lanes r ws v ps'
      taken (Ok _) ps' k =
          let new = merged (get_or ws i 0) w lanes in
          promised (Ok tt) ws v ps'
          (write_kept (Ok tt) ps'
          (subst (λ (z : ℕ). HeldBack (most_over h) ws (layered v ps) i (merged z w lanes) ws (layered v ps')) seen_word
          (subst (λ (z : List (ℕ × ℕ)). HeldBack (most_over h) ws (layered v ps) i new ws (layered v z)) (sym k.1) (pushed new k.0))))
          (omega (arith, k.0, ap length k.1, length_push ps (i, new)))
          (inr (inr (new, k.1)))
          (λ f. absurd f)
      taken (Err x) ps' k =
          promised (Err x) ws v ps' (write_kept (Err x) ps' (above_none, (k.0, refl, ap (layered v) k.2)))
          (omega (arith, ap length k.2)) (inl k.2) (λ _. k.1)

    -- a write that is refused below leaves ws₁ and v₁, which the layer leaves alone
    pub refused_below : (x : Refusal) (ws₁ : List ℕ) (v₁ : View) → Write h ws v i w lanes (Err x) ws₁ v₁ →
        (ps₁ : List (ℕ × ℕ)) → ps₁ ≡ ps → (r : Result (Unit {0}) Refusal) (ps' : List (ℕ × ℕ)) →
        (i < length ws₁ → Taken (room_over h) ps₁ (i, merged (get_or ws₁ i 0) w lanes) r ps') →
        LayerWrite h ws v ps i w lanes r ws₁ v₁ ps'
    refused_below x ws₁ v₁ st ps₁ same r ps' k =
        let e = refusal_below x ws₁ v₁ st in
        let at₁ : Taken (room_over h) ps₁ (i, merged (get_or ws₁ i 0) w lanes) r ps' = k (omega (arith, ap length e.2)) in
        let at : Taken (room_over h) ps (i, merged (get_or ws i 0) w lanes) r ps' =
        subst (λ (z : List (ℕ × ℕ)). Taken (room_over h) z (i, merged (get_or ws i 0) w lanes) r ps') same
        (subst (λ (z : List ℕ). Taken (room_over h) ps₁ (i, merged (get_or z i 0) w lanes) r ps') e.2 at₁) in
        subst (λ (z : List ℕ). LayerWrite h ws v ps i w lanes r z v₁ ps') (sym e.2)
        (subst (λ (u : View). LayerWrite h ws v ps i w lanes r ws u ps') (sym e.3) (taken e.0 e.1 r ps' at))

-- ---- the same of the layer's values, which go from s to s'
module _ {S : Type 0} (h : ℕ) (words : S → List ℕ) (view : S → View) (added : S → Type 0) (fixed : S → List ℕ)
    (s : WriteBack S) (i w lanes : ℕ) where
  abbrev Promised : Result (Unit {0}) Refusal → WriteBack S → Type 0
  Promised r s' = record {
    write : AllFacts h view added s → Write (most_over h) (words s.lower) (over view s) i w lanes r (words s'.lower) (over view s');
    facts : AllFacts h view added s → AllFacts h view added s';
    home : fixed s'.lower ≡ fixed s.lower;
    order : AllFacts h view added s → InOrder s.own i s'.own;
    full : AllFacts h view added s → Refused 21 r → room_over h ≤ length s.own;
  }

  abbrev Below : S → Type 0
  Below t = Meant h (view t) (added t)

  all_promised : (r : Result (Unit {0}) Refusal) (s' : WriteBack S) → (Below s.lower → Below s'.lower) → fixed s'.lower ≡ fixed s.lower →
      (AllFacts h view added s → LayerWrite h (words s.lower) (view s.lower) s.own i w lanes r (words s'.lower) (view s'.lower) s'.own) →
      Promised r s'
  all_promised r s' below home all =
      record {
        write = λ m. (all m).write;
        facts = λ m. record { facts = (all m).facts; layer = (below m.layer.0, (all m).room) };
        home = home;
        order = λ m. (all m).order;
        full = λ m. (all m).full;
      }

  module _ (low : i < length (words s.lower)) (named : (0 < lanes) × (lanes ≤ 15)) where
    pub own_promised : (ps' : List (ℕ × ℕ)) → (Apart s.own → Changed s.own i w lanes true ps') →
        Promised (Ok tt) (record { lower = s.lower; own = ps' })
    own_promised ps' c =
        all_promised (Ok tt) (record { lower = s.lower; own = ps' }) (λ b. b) refl λ m.
        changed h (words s.lower) (view s.lower) s.own i w lanes low named.0 named.1 m.layer.0.facts m.facts m.layer.1 ps'
        (c (apart_right (view s.lower).pairs s.own m.facts.apart))

    -- a write that goes on to the section memory below, which becomes t
    module _ (ps₁ : List (ℕ × ℕ)) (kept : Apart s.own → Changed s.own i w lanes false ps₁) (t : S)
        (below : Below s.lower → Below t) (home : fixed t ≡ fixed s.lower) where
      pub answer_promised : (r : Result (Unit {0}) Refusal) →
          (Below s.lower → Write h (words s.lower) (view s.lower) i w lanes r (words t) (view t)) → (r ≡ Err Due → ⊥) →
          Promised r (record { lower = t; own = ps₁ })
      answer_promised r st other =
          all_promised r (record { lower = t; own = ps₁ }) below home λ m.
          let k = kept (apart_right (view s.lower).pairs s.own m.facts.apart) in
          answered_below h (words s.lower) (view s.lower) s.own i w lanes low named.0 named.1 m.layer.0.facts m.facts m.layer.1 k.0
          r (words t) (view t) ps₁ other k.1 (st m.layer.0)

      pub refusal_promised : (x : Refusal) →
          (Below s.lower → Write h (words s.lower) (view s.lower) i w lanes (Err x) (words t) (view t)) →
          (r : Result (Unit {0}) Refusal) (s' : WriteBack S) → s'.lower ≡ t →
          (i < length (words t) → Taken (room_over h) ps₁ (i, merged (get_or (words t) i 0) w lanes) r s'.own) → Promised r s'
      refusal_promised x st r s' same taken =
          all_promised r s' (λ b. rw same (below b)) (ap fixed same ∙ home) λ m.
          let k = kept (apart_right (view s.lower).pairs s.own m.facts.apart) in
          rw same
          (refused_below h (words s.lower) (view s.lower) s.own i w lanes low named.0 named.1 m.layer.0.facts m.facts m.layer.1 k.0
          x (words t) (view t) (st m.layer.0) ps₁ k.1 r s'.own taken)
