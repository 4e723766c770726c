-- The memories as lists do what the device as functions does, and the store stays in order.
use Rattle.std.proofs.Common.{◌≡◌, ℕ, zero, suc, ◌+◌, ◌*◌, ◌<◌, ◌≤◌, Bool, true, false, cond, not, ◌&&◌, ◌||◌, eqb, ltb, leb, ◌⊎◌, List, length, get_or, set, sym, refl, ap, ◌∙◌, subst, inl, inr, ⊎_elim, zero-le, arith, length-set}
use mathlib.Core.Path.{fun_ext}
use Rattle.std.proofs.lemmas.Bool.{cases_eq, cond-true, lt-ltb, ltb-true, ltb-false, or_parts, not-false, and_from, le-leb, leb-true}
use Rattle.std.proofs.lemmas.List.{get_or-set_same, get_or-set_other}
use Rattle.memory.specs.Contents.{Mem, put, word}
use Rattle.memory.specs.Lanes.{merged}
use Rattle.memory.proofs.Contents.{put_same, put_other, word_set}
use Rattle.std.specs.Option.{unwrap_or}
use Rattle.section.specs.View.{held, Apart}
use Rattle.section.specs.Calls.{known}
use Rattle.std.proofs.lemmas.Option.{none-some}
use Rattle.section.proofs.Pairs.{held_at}
use Rattle.hart.specs.State.{next}
use Rattle.hart.specs.declared.state.Core.{Core}
use Rattle.machine.specs.Processor.{Effect, stop, quiet, load, store, emit}
use Rattle.agreement.specs.Pairs.{Pair, seen_over, is_held, apart, between}
use Rattle.agreement.specs.Board.{Lawful, Keeps, Board, Laws}
use Rattle.agreement.specs.Store.{Slot, slot_words, slot_size, slot_start, commit_word, other, current_start, other_start, slot_at, current, slot_in_order, in_order}
use Rattle.agreement.specs.Turns.{Section, Phase, restart, settle, run, seal, finished, Choice, Deed, idle, write, output, fill, commit, torn, Turn, turn, sealed, begun, settling_on, settling, filling, sealed_as, sealing, later, with_pairs, loading, storing, refuses, holding_on, perform, working, upcoming}
use Rattle.agreement.specs.Charge.{Bank, reachable, input, apply}
use Rattle.agreement.proofs.Pairs.{Between, between_test, apart_test, kept_index, kept_few}
use Rattle.agreement.proofs.Store.{start_positive, start_apart, start_fits, slot_pair, slot_pairs, slot_same, slot_back}
use Rattle.agreement.proofs.Device.{Device, look, applied}

-- ---- the image's words as a function

-- the words below the size; zeros above, as the uninterrupted machine has them
unfoldable pub inner : ℕ → List ℕ → Mem
inner size ws i = cond (ltb i size) (get_or ws i 0) 0

pub inner_at : (size : ℕ) (l : List ℕ) (i : ℕ) → i < size → inner size l i ≡ get_or l i 0
unfolding inner
inner_at size l i h = cond-true (ltb i size) (get_or l i 0) 0 (lt-ltb i size h)

inner_set : (size : ℕ) (l : List ℕ) (n w : ℕ) → n < size → size ≤ length l → inner size (set l n w) ≡ put (inner size l) n w
unfolding inner
inner_set size l n w h k = fun_ext (λ j. go j (cases_eq j n))
  where
    go : (j : ℕ) → (j ≡ n) ⊎ (j ≡ n → ⊥) → inner size (set l n w) j ≡ put (inner size l) n w j
    go j (inl e) =
        subst (λ x. inner size (set l n w) x ≡ put (inner size l) n w x) (sym e)
        (inner_at size (set l n w) n h ∙ get_or-set_same l n w 0 (omega arith) ∙ sym (put_same (inner size l) n w))
    go j (inr e) = ap (λ x. cond (ltb j size) x 0) (get_or-set_other l n j w 0 e) ∙ sym (put_other (inner size l) n w j e)

-- ---- a store in order

-- what a charge and a take ask of the current slot
pub record Valid (b : Board) (s : Slot) : Type 0 where
  pub sane : b.sane s.core ≡ true
  pub sent : s.core.sent ≤ b.room
  pub halt : s.halt ≤ 10
  pub few : length s.pairs ≤ b.most
  pub between : Between b.text b.size s.pairs

valid_test : (b : Board) (s : Slot) → Valid b s → Apart s.pairs → slot_in_order b s ≡ true
unfolding slot_in_order
valid_test b s v a =
    and_from (b.sane s.core && (leb s.core.sent b.room && leb s.halt 10))
    (leb (length s.pairs) b.most && (apart s.pairs && between b.text b.size s.pairs))
    (and_from (b.sane s.core) (leb s.core.sent b.room && leb s.halt 10) v.sane
    (and_from (leb s.core.sent b.room) (leb s.halt 10) (le-leb s.core.sent b.room v.sent) (le-leb s.halt 10 v.halt)))
    (and_from (leb (length s.pairs) b.most) (apart s.pairs && between b.text b.size s.pairs) (le-leb (length s.pairs) b.most v.few)
    (and_from (apart s.pairs) (between b.text b.size s.pairs) (apart_test s.pairs a) (between_test b.text b.size s.pairs v.between)))

-- the memories are long enough
pub record Long (b : Board) (k : Bank) : Type 0 where
  pub words : b.size ≤ length k.words
  pub log : b.room ≤ length k.log
  pub store : 73 + 4 * b.most ≤ length k.store

module _ (b : Board) where
  abbrev pub dev : Bank → Device
  dev k = record { words = inner b.size k.words; log = word k.log; slot = current b k.store }

  pub record Standing (k : Bank) : Type 0 where
    pub long : Long b k
    pub commits : commit_word k.store ≤ 1
    pub valid : Valid b (current b k.store)

  pub stands_test : (k : Bank) → Standing k → Apart (current b k.store).pairs → in_order b k.store ≡ true
  stands_test k s a =
      and_from (leb (commit_word k.store) 1) (slot_in_order b (current b k.store)) (le-leb _ 1 s.commits)
      (valid_test b (current b k.store) s.valid a)

  -- a section that can be sealed
  pub record Fit (s : Section) : Type 0 where
    pub sane : b.sane s.core ≡ true
    pub sent : s.core.sent ≤ b.room
    pub few : length s.view.pairs ≤ b.most
    pub between : Between b.text b.size s.view.pairs

  -- the first n words of the slot s are in
  abbrev pub Filled : Bank → ℕ → Slot → Type 0
  Filled k n s = (j : ℕ) → j < n → get_or k.store (other_start b.most k.store + j) 0 ≡ get_or (slot_words s) j 0

  abbrev pub Ready : Bank → Phase → Type 0
  Ready k restart = Unit {0}
  Ready k (settle j c) = (c ≡ sealed (current b k.store)) × (j < length (current b k.store).pairs)
  Ready k (run s) = Fit s
  Ready k (seal n s) = Valid b s × Filled k n s
  Ready k finished = Unit {0}

  -- what a deed must give
  pub record Done (k : Bank) (x : Deed) : Type 0 where
    pub stands : Standing (apply b x k)
    pub same : dev (apply b x k) ≡ applied x (dev k)

  idle_done : (k : Bank) → Standing k → Done k idle
  idle_done k s = record { stands = s; same = refl }

  write_done : (k : Bank) (i lanes w : ℕ) → Standing k → i < b.size → Done k (write i lanes w)
  write_done k i lanes w s h =
      let e : inner b.size (set k.words i (merged (get_or k.words i 0) w lanes))
      ≡ put (inner b.size k.words) i (merged (inner b.size k.words i) w lanes) =
      inner_set b.size k.words i (merged (get_or k.words i 0) w lanes) h s.long.words
      ∙ ap (λ x. put (inner b.size k.words) i (merged x w lanes)) (sym (inner_at b.size k.words i h)) in
      record {
        stands = record {
          long = record {
            words = rw (length-set k.words i (merged (get_or k.words i 0) w lanes)) s.long.words;
            log = s.long.log;
            store = s.long.store;
          };
          commits = s.commits;
          valid = s.valid;
        };
        same = λ j. record { words = e j; log = word k.log; slot = current b k.store };
      }

  output_done : (k : Bank) (n w : ℕ) → Standing k → n < b.room → Done k (output n w)
  output_done k n w s h =
      let l = s.long.log in
      let e = word_set k.log n w (omega arith) in
      record {
        stands = record {
          long = record {
            words = s.long.words;
            log = rw (length-set k.log n w) s.long.log;
            store = s.long.store;
          };
          commits = s.commits;
          valid = s.valid;
        };
        same = λ j. record { words = inner b.size k.words; log = e j; slot = current b k.store };
      }

  module _ (k : Bank) (s : Standing k) where
    c : ℕ
    c = commit_word k.store

    spot : ℕ → ℕ
    spot j = slot_start b.most (other c) + j

    -- the commit word after a commit
    new : get_or (set k.store 0 (other c)) 0 0 ≡ other c
    unfolding c
    new = let l = s.long.store in get_or-set_same k.store 0 (other c) 0 (omega arith)

    -- and after a fill
    kept : (j w : ℕ) → get_or (set k.store (spot j) w) 0 0 ≡ c
    unfolding spot c
    kept j w =
        let p = start_positive b.most (other c) in
        get_or-set_other k.store (spot j) 0 w 0 (λ e. omega arith)

    same_slot : (j w : ℕ) → j < 36 + 2 * b.most → current b (apply b (fill j w) k).store ≡ current b k.store
    unfolding spot c slot_at
    same_slot j w h =
        ap (λ x. slot_at (word (set k.store (spot j) w)) (slot_start b.most x)) (kept j w)
        ∙ sym (slot_same (word k.store) (word (set k.store (spot j) w)) (slot_start b.most c)
        (λ x p q.
        let f : word k.store (slot_start b.most c + 35) ≤ b.most =
        subst (λ n. n ≤ b.most) (slot_pairs (word k.store) (slot_start b.most c)) s.valid.few in
        sym (get_or-set_other k.store (spot j) x w 0
        (λ e. start_apart b.most c x j s.commits p (omega arith) h e))))

    pub fill_done : (j w : ℕ) → j < 36 + 2 * b.most → Done k (fill j w)
    unfolding spot c
    fill_done j w h =
        let e = same_slot j w h in
        record {
          stands = record {
            long = record {
              words = s.long.words;
              log = s.long.log;
              store = rw (length-set k.store (spot j) w) s.long.store;
            };
            commits = subst (λ x. x ≤ 1) (sym (kept j w)) s.commits;
            valid = subst (Valid b) (sym e) s.valid;
          };
          same = λ i. record { words = inner b.size k.words; log = word k.log; slot = e i };
        }

    pub fill_fills : (j : ℕ) (t : Slot) → j < 36 + 2 * b.most → Filled k j t → Filled (apply b (fill j (get_or (slot_words t) j 0)) k) (j + 1) t
    unfolding spot c
    fill_fills j t h f i q =
        subst (λ x. get_or (set k.store (spot j) (get_or (slot_words t) j 0)) (slot_start b.most (other x) + i) 0 ≡ get_or (slot_words t) i 0)
        (sym (kept j (get_or (slot_words t) j 0))) (go (cases_eq i j))
      where
        go : (i ≡ j) ⊎ (i ≡ j → ⊥) → get_or (set k.store (spot j) (get_or (slot_words t) j 0)) (spot i) 0 ≡ get_or (slot_words t) i 0
        go (inl e) =
            let l = s.long.store in
            let m = start_fits b.most c j s.commits h in
            subst (λ x. get_or (set k.store (spot j) (get_or (slot_words t) j 0)) (spot x) 0 ≡ get_or (slot_words t) x 0) (sym e)
            (get_or-set_same k.store (spot j) (get_or (slot_words t) j 0) 0 (omega arith))
        go (inr e) =
            get_or-set_other k.store (spot j) (spot i) (get_or (slot_words t) j 0) 0 (λ q'. e (omega arith)) ∙ f i (omega arith)

    pub commit_current : Laws b → (t : Slot) → Valid b t → Filled k (slot_size t) t → current b (apply b (commit t) k).store ≡ t
    unfolding spot c
    commit_current w t v f =
        ap (λ x. slot_at (word (set k.store 0 (other c))) (slot_start b.most x)) new
        ∙ slot_back (word (set k.store 0 (other c))) (slot_start b.most (other c)) t (w.shape t.core v.sane)
        (λ j q.
        let p = start_positive b.most (other c) in
        get_or-set_other k.store 0 (spot j) (other c) 0 (λ z. omega arith) ∙ f j q)

    pub commit_done : Laws b → (t : Slot) → Valid b t → Filled k (slot_size t) t → Done k (commit t)
    unfolding c
    commit_done w t v f =
        let e = commit_current w t v f in
        record {
          stands = record {
            long = record {
              words = s.long.words;
              log = s.long.log;
              store = rw (length-set k.store 0 (other c)) s.long.store;
            };
            commits = subst (λ x. x ≤ 1) (sym new) (omega arith);
            valid = subst (Valid b) (sym e) v;
          };
          same = λ i. record { words = inner b.size k.words; log = word k.log; slot = e i };
        }

  -- what a turn must give
  pub record Clean (k : Bank) (t : Turn) : Type 0 where
    pub done : Done k t.deed
    pub ready : Ready (apply b t.deed k) t.phase
    pub tears : (w : ℕ) → Done k (torn w t.deed)

  settling_ready : (due j : ℕ) (k : Bank) → Valid b (current b k.store) → Ready k (settling due j (sealed (current b k.store)))
  settling_ready due j k v = go (ltb j (length (current b k.store).pairs)) refl
    where
      begins : (h : ℕ) → Ready k (begun due h (current b k.store).core)
      begins zero = record { sane = v.sane; sent = v.sent; few = zero-le; between = λ i w e. absurd (none-some w e) }
      begins (suc z) = tt

      go : (x : Bool) → ltb j (length (current b k.store).pairs) ≡ x → Ready k (settling_on x due j (sealed (current b k.store)))
      go true e = (refl, ltb-true j _ e)
      go false e = begins (current b k.store).halt

  module _ (k : Bank) (st : Standing k) where
    calm : (s : Section) → Fit s → Clean k (turn idle (run s))
    calm s f = record { done = idle_done k st; ready = f; tears = λ _. idle_done k st }

    seals : (s : Section) (z : ℕ) → Fit s → z ≤ 10 → Clean k (sealing s z)
    seals s z f h =
        let t = sealed_as s z in
        record {
          done = fill_done k st 0 (get_or (slot_words t) 0 0) (omega arith);
          ready = (
            record { sane = f.sane; sent = f.sent; halt = h; few = f.few; between = f.between },
            fill_fills k st 0 t (omega arith) (λ j q. let x : ⊥ = omega arith in absurd x),
          );
          tears = λ w. fill_done k st 0 w (omega arith);
        }

    performs : (ch : Choice) (ws : Mem) (s : Section) → Fit s → (a : Effect) → Lawful b.text b.size b.room s.core a →
        Keeps b.sane s.core a → Clean k (perform b ch ws s a)
    performs ch ws s f (stop z) g n = seals s z f g.1
    performs ch ws s f (quiet h) g n = calm _ (record { sane = n; sent = f.sent; few = f.few; between = f.between })
    performs ch ws s f (load i f') g n = go (known s.view i) (refuses ch.refuse s.view.reads)
      where
        go : (x y : Bool) → Clean k (loading x y s i (next s.core (f' (seen_over ws s.view.pairs i))))
        go true y = calm _ (record { sane = n _; sent = f.sent; few = f.few; between = f.between })
        go false true = seals s 0 f zero-le
        go false false = calm _ (record { sane = n _; sent = f.sent; few = f.few; between = f.between })
    performs ch ws s f (store i lanes w h) g n =
        go (s.view.reads i) (is_held s.view.pairs i) refl (ch.refuse || not (leb (length ps) b.most)) refl
      where
        v : ℕ
        v = merged (seen_over ws s.view.pairs i) w lanes

        ps : List Pair
        ps = holding_on b ch s i v

        keeps : length ps ≤ b.most → Clean k (turn idle (run (later s (next s.core h) (with_pairs s.view ps))))
        keeps few =
            calm _ (record {
              sane = n;
              sent = f.sent;
              few = few;
              between = λ j u e.
                  ⊎_elim (λ (q : j ≡ i). rw q g) (λ q. f.between j u q) (kept_index b.most ch.pairs i v s.view.pairs j u e);
            })

        go : (x y : Bool) → is_held s.view.pairs i ≡ y → (r : Bool) → (ch.refuse || not (leb (length ps) b.most)) ≡ r →
            Clean k (storing x y r (ch.gain && eqb lanes 15) ps s i lanes w (next s.core h))
        go false y e r o =
            record {
              done = write_done k i lanes w st g.1;
              ready = record { sane = n; sent = f.sent; few = f.few; between = f.between };
              tears = λ t. write_done k i lanes t st g.1;
            }
        go true true e r o = keeps (kept_few b.most ch.pairs i v s.view.pairs e f.few)
        go true false e true o = seals s 0 f zero-le
        go true false e false o =
            keeps (leb-true (length ps) b.most (not-false _ (or_parts ch.refuse (not (leb (length ps) b.most)) o).1))
    performs ch ws s f (emit w h) g n =
        record {
          done = output_done k s.core.sent w st g;
          ready = record { sane = n; sent = omega (arith, g); few = f.few; between = f.between };
          tears = λ t. output_done k s.core.sent t st g;
        }

    pub clean : Laws b → (due : ℕ) (ch : Choice) (ph : Phase) → Apart (current b k.store).pairs → Ready k ph →
        Clean k (upcoming b due ch (look b (dev k)) ph)
    clean w due ch restart a r =
        record { done = idle_done k st; ready = settling_ready due 0 k st.valid; tears = λ _. idle_done k st }
    clean w due ch (settle j c) a r =
        let p = get_or (current b k.store).pairs j (0, 0) in
        let low = (st.valid.between p.0 p.1 (held_at (current b k.store).pairs p.0 j a r.1 refl)).1 in
        record {
          done = write_done k p.0 15 p.1 st low;
          ready = subst (λ x. Ready (apply b (write p.0 15 p.1) k) (settling due (j + 1) x)) (sym r.0)
              (settling_ready due (j + 1) (apply b (write p.0 15 p.1) k) st.valid);
          tears = λ t. write_done k p.0 15 t st low;
        }
    clean w due ch (run s) a r = go (eqb s.ran s.due)
      where
        ws : Mem
        ws = inner b.size k.words

        go : (x : Bool) → Clean k (working b x ch ws s (b.act ws s.core))
        go true = seals s 0 r zero-le
        go false = performs ch ws s r (b.act ws s.core) (w.lawful ws s.core) (w.keeps ws s.core r.sane)
    clean w due ch (seal n s) a r = go (ltb n (slot_size s)) refl
      where
        fits : n < slot_size s → n < 36 + 2 * b.most
        fits h = let f = r.0.few in omega arith

        go : (x : Bool) → ltb n (slot_size s) ≡ x → Clean k (filling due x n s)
        go true e =
            let h = fits (ltb-true n (slot_size s) e) in
            record {
              done = fill_done k st n (get_or (slot_words s) n 0) h;
              ready = (r.0, fill_fills k st n s h r.1);
              tears = λ t. fill_done k st n t h;
            }
        go false e =
            let h = ltb-false n (slot_size s) e in
            let all : Filled k (slot_size s) s = λ j q. r.1 j (omega arith) in
            let now = commit_current k st w s r.0 all in
            record {
              done = commit_done k st w s r.0 all;
              ready = subst (λ x. Ready (apply b (commit s) k) (settling due 0 (sealed x))) now
                  (settling_ready due 0 (apply b (commit s) k) (subst (Valid b) (sym now) r.0));
              tears = λ _. idle_done k st;
            }
    clean w due ch finished a r = record { done = idle_done k st; ready = tt; tears = λ _. idle_done k st }

    -- ---- what is done next over the lists is what is done next over the functions
    reaches : (n : ℕ) (c : Core) (a : Effect) → Lawful b.text b.size b.room c a → b.size ≤ n → reachable n a ≡ a
    reaches n c (stop z) g l = refl
    reaches n c (quiet h) g l = refl
    reaches n c (load i f) g l = cond-true (ltb i n) _ _ (lt-ltb i n (omega (arith, g.1)))
    reaches n c (store i lanes w h) g l = cond-true (ltb i n) _ _ (lt-ltb i n (omega (arith, g.1)))
    reaches n c (emit w h) g l = refl

    same_words : (ch : Choice) (m m' : Mem) (s : Section) (a : Effect) → Lawful b.text b.size b.room s.core a →
        ((i : ℕ) → i < b.size → m i ≡ m' i) → perform b ch m s a ≡ perform b ch m' s a
    same_words ch m m' s (stop z) g h = refl
    same_words ch m m' s (quiet x) g h = refl
    same_words ch m m' s (load i f) g h =
        ap (λ w. loading (known s.view i) (refuses ch.refuse s.view.reads) s i (next s.core (f (unwrap_or (held s.view.pairs i) w))))
        (h i g.1)
    same_words ch m m' s (store i lanes w x) g h =
        ap (λ u.
        let ps = holding_on b ch s i (merged (unwrap_or (held s.view.pairs i) u) w lanes) in
        storing (s.view.reads i) (is_held s.view.pairs i) (ch.refuse || not (leb (length ps) b.most)) (ch.gain && eqb lanes 15) ps
        s i lanes w (next s.core x))
        (h i g.1)
    same_words ch m m' s (emit w x) g h = refl

    same_run : Laws b → (ch : Choice) (s : Section) (x : Bool) →
        working b x ch (word k.words) s (reachable (length k.words) (b.act (word k.words) s.core))
        ≡ working b x ch (inner b.size k.words) s (b.act (inner b.size k.words) s.core)
    same_run w ch s true = refl
    same_run w ch s false =
        let m = word k.words in
        let m' = inner b.size k.words in
        let low = w.lawful m s.core in
        ap (perform b ch m s) (reaches (length k.words) s.core (b.act m s.core) low st.long.words)
        ∙ same_words ch m m' s (b.act m s.core) low (λ i l. sym (inner_at b.size k.words i l))
        ∙ ap (perform b ch m' s)
        (w.fetches m m' s.core (λ i l. let q = w.inside in sym (inner_at b.size k.words i (omega arith))))

    pub same_turn : Laws b → (due : ℕ) (ch : Choice) (ph : Phase) → Ready k ph →
        upcoming b due ch (input b k) ph ≡ upcoming b due ch (look b (dev k)) ph
    same_turn w due ch restart r = refl
    same_turn w due ch (settle j c) r =
        ap (λ p. turn (write p.0 15 p.1) (settling due (j + 1) c))
        (slot_pair (word k.store) (current_start b.most k.store) j r.1)
    same_turn w due ch (run s) r = same_run w ch s (eqb s.ran s.due)
    same_turn w due ch (seal n s) r = refl
    same_turn w due ch finished r = refl
