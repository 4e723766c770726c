-- What an accepted load leaves.
use Rattle.std.proofs.Common.{◌≡◌, ℕ, suc, ◌+◌, ◌%◌, ◌<◌, ◌≤◌, Bool, true, false, cond, ◌&&◌, eqb, ltb, leb, ◌⊎◌, List, [], ◌∷◌, ◌++◌, length, get_or, drop, None, sym, refl, ap, ◌∙◌, subst, inl, inr, zero-le, arith, length-append, length-drop}
use mathlib.Core.Path.{fun_ext}
use Rattle.std.proofs.lemmas.Bool.{eq-eqb, leb-true, le-leb, and_parts, and_from, cases_lt, cond-false, le-ltb}
use Rattle.std.proofs.lemmas.List.{get_or_append_left, get_or_past}
use Rattle.memory.specs.Contents.{Mem}
use Rattle.memory.specs.Contents as contents
use Rattle.memory.specs.Lanes.{byte}
use Rattle.std.proofs.lemmas.List.FromFn.{length-map-range_with_len, get_or-map-range_with_len}
use Rattle.section.specs.View.{View, Apart}
use Rattle.std.proofs.lemmas.Option.{none-some}
use Rattle.image.specs.Questions.{Question, first_no, AllYes}
use Rattle.image.specs.Image.{header, given_words, image_questions, refusal}
use Rattle.image.specs.Accepted.{Accepted}
use Rattle.image.specs.declared.header.Header.{Header}
use Rattle.image.proofs.Questions.{after_yes, all_yes, append_parts}
use Rattle.image.proofs.Accepted.{accepted as image_accepted}
use Rattle.image.proofs.GivenWords.{given_length}
use Rattle.hart.specs.State.{started}
use Rattle.machine.specs.Run.{run_start}
use Rattle.agreement.specs.Pairs.{seen_over}
use Rattle.agreement.specs.Board.{Board}
use Rattle.agreement.specs.Store.{Slot, slot_words, slot_start, store_size, current}
use Rattle.agreement.specs.Charge.{Bank}
use Rattle.agreement.specs.Calls.{Kind, board, ready, Runner, refused, accepted, Outcome, asking, load_questions, fronted, first_words, first_store, load}
use Rattle.agreement.proofs.Dead.{Stands}
use Rattle.agreement.proofs.Invariant.{Cut}
use Rattle.agreement.proofs.Store.{slot_back}
use Rattle.agreement.proofs.Standing.{inner, inner_at, dev, Valid, Standing}

refused≢accepted : (n : ℕ) (v : List ℕ) → refused n v ≡ accepted → ⊥
refused≢accepted n v e = let z : ◌≡◌ {A = ℕ} 0 1 = cc in omega arith

-- a call that is accepted got no no
passed : (qs : List Question) (r : Runner) (o : Outcome) → (asking qs r o).0 ≡ accepted → first_no qs ≡ None
passed [] r o h = refl
passed (q ∷ qs) r o h = go (passed qs r o) q.0 refl h
  where
    go : ((asking qs r o).0 ≡ accepted → first_no qs ≡ None) → (x : Bool) → q.0 ≡ x → (cond x (asking qs r o) (refused q.1.0 q.1.1, r)).0 ≡ accepted → first_no (q ∷ qs) ≡ None
    go ih true e k = after_yes q.0 q.1 qs e ∙ ih k
    go ih false e k = absurd (refused≢accepted q.1.0 q.1.1 k)

pub asked : (qs : List Question) (r : Runner) (o : Outcome) → AllYes qs → asking qs r o ≡ o
asked [] r o p = refl
asked (q ∷ qs) r o p = ap (λ x. cond x (asking qs r o) (refused q.1.0 q.1.1, r)) p.0 ∙ asked qs r o p.1

length_fronted : (new old : List ℕ) → length new ≤ length old → length (fronted new old) ≡ length old
length_fronted new old h = length-append new (drop (length new) old) ∙ (let e = length-drop (length new) old in omega arith)

-- what the questions of a load come to
pub record Fit (kind : Kind) (bs : List ℕ) (k : Bank) : Type 0 where
  pub image : Accepted bs
  pub words : (header bs).words ≤ length k.words
  pub store : store_size kind.most ≤ length k.store
  pub log : (header bs).outputs ≤ length k.log

module _ (kind : Kind) (marks : View) (bs : List ℕ) (r : Runner) (ok : (load kind marks bs r).0 ≡ accepted) where
  abbrev h : Header
  h = header bs

  abbrev filled : Runner
  filled =
      record {
        bank = record { words = fronted (first_words bs) r.bank.words; log = r.bank.log; store = fronted (first_store h) r.bank.store };
        marks = marks;
        status = ready h;
        taken = 0;
        done = false;
      }

  none : first_no (load_questions kind bs r) ≡ None
  none = passed (load_questions kind bs r) r (accepted, filled) ok

  pub load_is : (load kind marks bs r).1 ≡ filled
  load_is = ap (λ o. o.1) (asked (load_questions kind bs r) r (accepted, filled) (all_yes (load_questions kind bs r) none))

  pub fit : Fit kind bs r.bank
  unfolding refusal
  fit =
      let p = append_parts (image_questions bs) (_ ∷ []) (append_parts (_ ∷ []) (image_questions bs ++ _ ∷ []) none).1 in
      let m = (all_yes (_ ∷ []) p.1).0 in
      let m' = and_parts (leb h.words (length r.bank.words)) (leb (store_size kind.most) (length r.bank.store) && leb h.outputs (length r.bank.log)) m in
      let m'' = and_parts (leb (store_size kind.most) (length r.bank.store)) (leb h.outputs (length r.bank.log)) m'.1 in
      record {
        image = image_accepted bs p.0;
        words = leb-true _ _ m'.0;
        store = leb-true _ _ m''.0;
        log = leb-true _ _ m''.1;
      }

-- what it leaves stands, and is the run's start
module _ (kind : Kind) (bs : List ℕ) (k : Bank) (f : Fit kind bs k) where
  abbrev hd : Header
  hd = header bs

  abbrev b : Board
  b = board kind hd

  abbrev pub left : Bank
  left = record { words = fronted (first_words bs) k.words; log = k.log; store = fronted (first_store hd) k.store }

  abbrev first_slot : Slot
  first_slot = record { core = started hd.entry; halt = 0; pairs = [] }

  size_first : length (first_words bs) ≡ hd.words
  size_first = length-map-range_with_len (contents.word (given_words bs)) 0 hd.words

  pub slot_left : current b left.store ≡ first_slot
  unfolding slot_start
  slot_left =
      slot_back (contents.word left.store) 1 first_slot refl
      (λ j q.
      let e : 1 + j ≡ suc j = omega arith in
      ap (λ n. get_or left.store n 0) e ∙ get_or_append_left (slot_words first_slot) (drop 37 k.store) 0 j (omega arith))

  pub words_left : inner hd.words left.words ≡ (run_start bs).mem
  unfolding inner
  words_left = fun_ext (λ i. go i (cases_lt i hd.words))
    where
      go : (i : ℕ) → (i < hd.words) ⊎ (hd.words ≤ i) → inner hd.words left.words i ≡ get_or (given_words bs) i 0
      go i (inl l) =
          inner_at hd.words left.words i l
          ∙ get_or_append_left (first_words bs) (drop (length (first_words bs)) k.words) 0 i (rw size_first l)
          ∙ get_or-map-range_with_len (contents.word (given_words bs)) 0 hd.words i i 0 l (omega arith)
      go i (inr l) =
          cond-false (ltb i hd.words) (get_or left.words i 0) 0 (le-ltb i hd.words l)
          ∙ sym (get_or_past (given_words bs) i 0 (let g = f.image.given_high in let e = given_length bs in omega arith))

  pub stands_left : Standing b left
  stands_left =
      record {
        long = record {
          words = rw (length_fronted (first_words bs) k.words (rw size_first f.words)) f.words;
          log = f.log;
          store = rw (length_fronted (first_store hd) k.store (let s = f.store in omega arith)) f.store;
        };
        commits = zero-le;
        valid = subst (Valid b) (sym slot_left)
            (record {
              sane = and_from true _ refl (and_from (eqb (hd.entry % 4) 0) (leb 0 hd.limit) (eq-eqb _ _ f.image.entry_aligned) (le-leb 0 hd.limit zero-le));
              sent = zero-le;
              halt = zero-le;
              few = zero-le;
              between = λ i w e. absurd (none-some w e);
            });
      }

  pub cut_left : Cut b (run_start bs) (dev b left)
  cut_left =
      record {
        core = ap (λ s. s.core) slot_left;
        halt = inl (ap (λ s. s.halt) slot_left);
        stands = subst (λ s. Stands b (run_start bs) (seen_over (inner hd.words left.words) s.pairs)) (sym slot_left)
            (λ i l. inl (ap (λ (m : Mem). byte (m i) l) words_left));
        apart = subst (λ s. Apart s.pairs) (sym slot_left) tt;
        log = λ n q. let x : ⊥ = omega arith in absurd x;
      }
