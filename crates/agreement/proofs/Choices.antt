-- From what a section memory's contract says to a choice.
use Rattle.std.proofs.Common.{◌≡◌, ℕ, ◌<◌, ◌≤◌, Bool, true, false, cond, not, ◌&&◌, ◌||◌, eqb, ltb, leb, ◌⊎◌, List, [], length, get_or, set, is_some, Some, None, Ok, Err, Option, Result, sym, refl, ap, ◌∙◌, subst, inl, inr, ⊎_elim}
use Rattle.std.proofs.lemmas.Bool.{eq-eqb, le-leb, lt-ltb, le-ltb, cond-true, cond-false, cases_Bool, cases_lt}
use Rattle.memory.specs.Contents.{word}
use Rattle.memory.specs.Lanes.{merged}
use Rattle.index_sets.specs.Sets.{joined}
use Rattle.section.specs.declared.Refusal.{Refusal}
use Rattle.section.specs.Refusals.{number, Refused}
use Rattle.std.specs.Option.{unwrap_or}
use Rattle.section.specs.View.{View, Facts, fresh, held, seen, Apart}
use Rattle.section.specs.Calls.{known, with_read, Entered, Read, Stored, Kept, Write}
use Rattle.section.proofs.Laws.{not_held}
use Rattle.section.proofs.Pairs.{holds_same, Holds}
use Rattle.hart.specs.State.{next}
use Rattle.hart.specs.declared.state.Hart.{Hart}
use Rattle.hart.specs.declared.state.Core.{Core}
use Rattle.machine.specs.Processor.{Effect, load, store}
use Rattle.agreement.specs.Pairs.{Pair, is_held, hold}
use Rattle.agreement.specs.Board.{Board}
use Rattle.agreement.specs.Turns.{Section, Choice, idle, write, torn, Turn, turn, run, sealing, later, with_write, with_pairs, loading, storing, refuses, holding_on, perform}
use Rattle.agreement.specs.Charge.{Bank, reachable, apply}
use Rattle.agreement.specs.Choices.{seal_stop, load_turn, write_deed, store_turn, AnySectionMemory}
use Rattle.agreement.proofs.Pairs.{kept_as, hold_holds, hold_apart, hold_length, in_inhabited}

-- a view is known by its parts
same_view : (v v' : View) → v'.reads ≡ v.reads → v'.writes ≡ v.writes → v'.pairs ≡ v.pairs → v ≡ v'
same_view v v' r w p j = record { reads = sym r j; writes = sym w j; pairs = sym p j }

module _ (b : Board) (k : Bank) (s : Section) (facts : Facts b.most s.view) where
  abbrev ws : List ℕ
  ws = k.words

  abbrev v : View
  v = s.view

  abbrev choice : Bool → Bool → List Pair → Choice
  choice refuse gain pairs = record { refuse = refuse; gain = gain; pairs = pairs; marks = fresh }

  abbrev made : Choice → Effect → Turn
  made ch a = perform b ch (word ws) s (reachable (length ws) a)

  -- the seal after a refusal with this number
  stop_21 : (e : Refusal) → number e ≡ 21 → seal_stop e ≡ 0
  stop_21 e q = ap (λ n. cond (eqb n 21) 0 8) q

  stop_20 : (e : Refusal) → number e ≡ 20 → seal_stop e ≡ 8
  stop_20 e q = ap (λ n. cond (eqb n 21) 0 8) q

  -- ---- loads
  module _ (i : ℕ) (f : ℕ → Hart) where
    abbrev Loads : Result ℕ Refusal → View → Type 0
    Loads r v' = (ch : Choice) × (made ch (load i f) ≡ load_turn s f r v')

    abbrev loaded : Core
    loaded = next s.core (f (seen ws v i))

    inside : (ch : Choice) → i < length ws → made ch (load i f) ≡ loading (known v i) (refuses ch.refuse v.reads) s i loaded
    inside ch low = ap (perform b ch (word ws) s) (cond-true (ltb i (length ws)) _ _ (lt-ltb i (length ws) low))

    past : (r : Result ℕ Refusal) (v' : View) → length ws ≤ i → Refused 20 r → Loads r v'
    past (Err e) v' high q = (
      choice false false [],
      ap (perform b (choice false false []) (word ws) s) (cond-false (ltb i (length ws)) _ _ (le-ltb i (length ws) high)) ∙ ap (sealing s) (sym (stop_20 e q)),
    )
    past (Ok w) v' high q = absurd q

    again : (r : Result ℕ Refusal) (v' : View) → i < length ws → known v i ≡ true → r ≡ Ok (seen ws v i) → v' ≡ v → Loads r v'
    again r v' low t e same = (
      choice false false [],
      inside (choice false false []) low ∙ ap (λ x. loading x false s i loaded) t
          ∙ ap (λ x. load_turn s f x v) (sym e) ∙ ap (load_turn s f r) (sym same),
    )

    first : (r : Result ℕ Refusal) (v' : View) → i < length ws → known v i ≡ false → Entered ws v i r v' → Loads r v'
    first (Ok w) v' low n e = (
      choice false false [],
      inside (choice false false []) low ∙ ap (λ x. loading x false s i loaded) n
          ∙ ap (λ w. turn idle (run (later s (next s.core (f w)) (with_read v i)))) (sym e.0)
          ∙ ap (load_turn s f (Ok w)) (sym e.1),
    )
    first (Err x) v' low n e = (
      choice true false [],
      inside (choice true false []) low ∙ ap (λ y. loading y (refuses true v.reads) s i loaded) n
          ∙ ap (λ y. loading false y s i loaded) (in_inhabited v.reads e.1.0 (facts.below e.1.0 e.1.1) e.1.1)
          ∙ ap (sealing s) (sym (stop_21 x e.0)),
    )

    loads : (r : Result ℕ Refusal) (ws' : List ℕ) (v' : View) → Read ws v i r ws' v' → Loads r v'
    loads r ws' v' st =
        ⊎_elim
        (λ low.
        ⊎_elim (λ t. let e = st.again low t in again r v' low t e.0 e.1) (λ n. first r v' low n (st.first low n)) (cases_Bool (known v i)))
        (λ high. past r v' high (st.range high).0)
        (cases_lt i (length ws))

  -- ---- stores
  module _ (i lanes w : ℕ) (h : Hart) where
    abbrev stored : Core
    stored = next s.core h

    abbrev new : ℕ
    new = merged (seen ws v i) w lanes

    abbrev pairs : Choice → List Pair
    pairs ch = holding_on b ch s i new

    abbrev full : Choice → Bool
    full ch = ch.refuse || not (leb (length (pairs ch)) b.most)

    writes_in : (ch : Choice) → i < length ws →
        made ch (store i lanes w h) ≡ storing (v.reads i) (is_held v.pairs i) (full ch) (ch.gain && eqb lanes 15) (pairs ch) s i lanes w stored
    writes_in ch low = ap (perform b ch (word ws) s) (cond-true (ltb i (length ws)) _ _ (lt-ltb i (length ws) low))

    writes_past : length ws ≤ i → made (choice false false []) (store i lanes w h) ≡ sealing s 8
    writes_past high = ap (perform b (choice false false []) (word ws) s) (cond-false (ltb i (length ws)) _ _ (le-ltb i (length ws) high))

    -- in place, and whether the index enters F
    in_place : (g : Bool) → i < length ws → v.reads i ≡ false →
        made (choice false g []) (store i lanes w h) ≡ turn (write i lanes w) (run (later s stored (with_write v (g && eqb lanes 15) i)))
    in_place g low out =
        let ch = choice false g [] in
        writes_in ch low ∙ ap (λ x. storing x (is_held v.pairs i) (full ch) (g && eqb lanes 15) (pairs ch) s i lanes w stored) out

    refused : i < length ws → v.reads i ≡ true → held v.pairs i ≡ None → made (choice true false []) (store i lanes w h) ≡ sealing s 0
    refused low inside free =
        let ch = choice true false [] in
        writes_in ch low
        ∙ ap (λ x. storing x (is_held v.pairs i) true false (pairs ch) s i lanes w stored) inside
        ∙ ap (λ (o : Option ℕ). storing true (is_some o) true false (pairs ch) s i lanes w stored) free

    -- any pairs that hold the right words
    held_as : (given : List Pair) → i < length ws → v.reads i ≡ true → Holds v.pairs i new given → Apart given → length given ≤ b.most →
        made (choice false false given) (store i lanes w h) ≡ turn idle (run (later s stored (with_pairs v given)))
    held_as given low inside e apart few =
        writes_in ch low
        ∙ ap (λ x. storing x (is_held v.pairs i) (full ch) false (pairs ch) s i lanes w stored) inside
        ∙ go (is_held v.pairs i)
      where
        ch : Choice
        ch = choice false false given

        chosen : pairs ch ≡ given
        chosen = kept_as b.most given i new v.pairs e apart few facts.apart

        room : full ch ≡ false
        room = ap not (le-leb (length (pairs ch)) b.most (subst (λ l. length l ≤ b.most) (sym chosen) few))

        go : (x : Bool) → storing true x (full ch) false (pairs ch) s i lanes w stored ≡ turn idle (run (later s stored (with_pairs v given)))
        go true = ap (λ l. turn idle (run (later s stored (with_pairs v l)))) chosen
        go false =
            ap (λ x. storing true false x false (pairs ch) s i lanes w stored) room
            ∙ ap (λ l. turn idle (run (later s stored (with_pairs v l)))) chosen

    -- the turn of an accepted write, by the deed and the view that it leaves
    accepted : (x : Bool) (v' v'' : View) → v.reads i ≡ x → v' ≡ v'' →
        turn (write_deed x i lanes w) (run (later s stored v')) ≡ store_turn s i lanes w h (Ok tt) v''
    accepted x v' v'' e q =
        ap (λ y. turn (write_deed y i lanes w) (run (later s stored v'))) (sym e)
        ∙ ap (λ y. turn (write_deed (v.reads i) i lanes w) (run (later s stored y))) q

    stored_as : (v' : View) → i < length ws → v.reads i ≡ false →
        (v'.writes ≡ v.writes) ⊎ ((lanes ≡ 15) × (v'.writes ≡ joined v.writes i)) → v'.reads ≡ v.reads → v'.pairs ≡ v.pairs →
        (ch : Choice) × (made ch (store i lanes w h) ≡ store_turn s i lanes w h (Ok tt) v')
    stored_as v' low out (inl e) r p = (
      choice false false [],
      in_place false low out ∙ accepted false v v' out (same_view v v' r e p),
    )
    stored_as v' low out (inr e) r p = (
      choice false true [],
      in_place true low out
          ∙ accepted false (with_write v (eqb lanes 15) i) v' out
          (ap (λ x. with_write v x i) (eq-eqb lanes 15 e.0) ∙ same_view (with_write v true i) v' r e.1 p),
    )

  -- outside R nothing is held, and a write in place leaves the words that its deed makes
  in_words : (i lanes t : ℕ) → v.reads i ≡ false → (ws' : List ℕ) → ws' ≡ set ws i (merged (seen ws v i) t lanes) →
      ws' ≡ set ws i (merged (get_or ws i 0) t lanes)
  in_words i lanes t out ws' e =
      e ∙ ap (λ (o : Option ℕ). set ws i (merged (unwrap_or o (get_or ws i 0)) t lanes)) (not_held b.most v i facts out)

  module _ (i lanes w : ℕ) (h : Hart) where
    abbrev Stores : Result (Unit {0}) Refusal → List ℕ → View → Type 0
    Stores r ws' v' =
        (ch : Choice) × (made ch (store i lanes w h) ≡ store_turn s i lanes w h r v') × (ws' ≡ (apply b (store_turn s i lanes w h r v').deed k).words)

    past_stores : (r : Result (Unit {0}) Refusal) (ws' : List ℕ) (v' : View) → length ws ≤ i → Refused 20 r → ws' ≡ ws → Stores r ws' v'
    past_stores (Err e) ws' v' high q same = (choice false false [], writes_past i lanes w h high ∙ ap (sealing s) (sym (stop_20 e q)), same)
    past_stores (Ok _) ws' v' high q same = absurd q

    outside : (r : Result (Unit {0}) Refusal) (ws' : List ℕ) (v' : View) → i < length ws → v.reads i ≡ false →
        Stored ws v i (merged (seen ws v i) w lanes) lanes r ws' v' → Stores r ws' v'
    outside r ws' v' low out st =
        let x = stored_as i lanes w h v' low out st.writes st.reads st.pairs in
        subst (λ y. Stores y ws' v') (sym st.accepted) (
          x.0,
          x.1,
          in_words i lanes w out ws' st.words ∙ ap (λ y. (apply b (write_deed y i lanes w) k).words) (sym out),
        )

    inside_R : (r : Result (Unit {0}) Refusal) (ws' : List ℕ) (v' : View) → i < length ws → v.reads i ≡ true →
        Kept b.most ws v i (merged (seen ws v i) w lanes) r ws' v' → Stores r ws' v'
    inside_R (Ok _) ws' v' low t st = (
      choice false false v'.pairs,
      held_as i lanes w h v'.pairs low t st.holds st.apart st.few
          ∙ accepted i lanes w h true (with_pairs v v'.pairs) v' t (same_view (with_pairs v v'.pairs) v' st.reads st.writes refl),
      st.words ∙ ap (λ x. (apply b (write_deed x i lanes w) k).words) (sym t),
    )
    inside_R (Err e) ws' v' low t st =
        (choice true false [], refused i lanes w h low t st.0 ∙ ap (sealing s) (sym (stop_21 e st.1.0)), st.1.1)

    stores : (r : Result (Unit {0}) Refusal) (ws' : List ℕ) (v' : View) → 0 < lanes → lanes ≤ 15 →
        Write b.most ws v i w lanes r ws' v' → Stores r ws' v'
    stores r ws' v' pos few st =
        ⊎_elim
        (λ low.
        ⊎_elim (λ t. inside_R r ws' v' low t (st.inside low pos few t)) (λ f. outside r ws' v' low f (st.outside low pos few f)) (cases_Bool (v.reads i)))
        (λ high. let d = st.range high in past_stores r ws' v' high d.0 d.1)
        (cases_lt i (length ws))

  -- ---- torn stores
  module _ (i lanes w t : ℕ) (h : Hart) where
    abbrev Torn : Result (Unit {0}) Refusal → List ℕ → View → Type 0
    Torn r ws' v' =
        (ch : Choice) × ((made ch (store i lanes w h)).deed ≡ (store_turn s i lanes w h r v').deed)
        × (ws' ≡ (apply b (torn t (store_turn s i lanes w h r v').deed) k).words)

    torn_past : (r : Result (Unit {0}) Refusal) (ws' : List ℕ) (v' : View) → length ws ≤ i → Refused 20 r → ws' ≡ ws → Torn r ws' v'
    torn_past (Err e) ws' v' high q same =
        (choice false false [], ap (λ x. x.deed) (writes_past i lanes w h high ∙ ap (sealing s) (sym (stop_20 e q))), same)
    torn_past (Ok _) ws' v' high q same = absurd q

    torn_outside : (r : Result (Unit {0}) Refusal) (ws' : List ℕ) (v' : View) → i < length ws → v.reads i ≡ false →
        Stored ws v i (merged (seen ws v i) t lanes) lanes r ws' v' → Torn r ws' v'
    torn_outside r ws' v' low out st =
        subst (λ y. Torn y ws' v') (sym st.accepted) (
          choice false false [],
          ap (λ x. x.deed) (in_place i lanes w h false low out) ∙ ap (λ x. write_deed x i lanes w) (sym out),
          in_words i lanes t out ws' st.words ∙ ap (λ y. (apply b (torn t (write_deed y i lanes w)) k).words) (sym out),
        )

    -- the store's own word is held where the section memory holds the torn one
    torn_inside : (r : Result (Unit {0}) Refusal) (ws' : List ℕ) (v' : View) → i < length ws → v.reads i ≡ true →
        Kept b.most ws v i (merged (seen ws v i) t lanes) r ws' v' → Torn r ws' v'
    torn_inside (Ok _) ws' v' low inn st = (
      choice false false given,
      ap (λ x. x.deed) (held_as i lanes w h given low inn holds (hold_apart i n v'.pairs st.apart) few)
          ∙ ap (λ x. write_deed x i lanes w) (sym inn),
      st.words ∙ ap (λ x. (apply b (torn t (write_deed x i lanes w)) k).words) (sym inn),
    )
      where
        n : ℕ
        n = merged (seen ws v i) w lanes

        given : List Pair
        given = hold i n v'.pairs

        few : length given ≤ b.most
        few = rw (hold_length i n v'.pairs (ap is_some (holds_same v.pairs i _ v'.pairs st.holds))) st.few

        holds : Holds v.pairs i n given
        holds j = hold_holds i n v'.pairs j ∙ same (eqb j i) refl
          where
            same : (x : Bool) → eqb j i ≡ x → cond x (Some n) (held v'.pairs j) ≡ cond x (Some n) (held v.pairs j)
            same true e = refl
            same false e = st.holds j ∙ cond-false (eqb j i) _ _ e
    torn_inside (Err e) ws' v' low inn st =
        (choice true false [], ap (λ x. x.deed) (refused i lanes w h low inn st.0 ∙ ap (sealing s) (sym (stop_21 e st.1.0))), st.1.1)

    torn_stores : (r : Result (Unit {0}) Refusal) (ws' : List ℕ) (v' : View) → 0 < lanes → lanes ≤ 15 →
        Write b.most ws v i t lanes r ws' v' → Torn r ws' v'
    torn_stores r ws' v' pos few st =
        ⊎_elim
        (λ low.
        ⊎_elim (λ x. torn_inside r ws' v' low x (st.inside low pos few x)) (λ f. torn_outside r ws' v' low f (st.outside low pos few f)) (cases_Bool (v.reads i)))
        (λ high. let d = st.range high in torn_past r ws' v' high d.0 d.1)
        (cases_lt i (length ws))

pub any_section_memory : AnySectionMemory
any_section_memory b k s facts =
    record {
      loads = λ i f r ws v st. loads b k s facts i f r ws v st;
      stores = λ i lanes w h r ws v pos few st. stores b k s facts i lanes w h r ws v pos few st;
      torn_stores = λ i lanes w t h r ws v pos few st. torn_stores b k s facts i lanes w t h r ws v pos few st;
    }
