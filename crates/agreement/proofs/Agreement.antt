-- The law whole: call by call.
use Rattle.std.proofs.Common.{◌≡◌, ℕ, zero, suc, ◌+◌, ◌<◌, ◌≤◌, Bool, true, false, cond, ◌||◌, ltb, leb, ◌⊎◌, List, [], ◌∷◌, length, get_or, sym, refl, ap, ◌∙◌, subst, inl, inr, zero-le, arith}
use mathlib.Core.Bool.{or-false, or_assoc}
use Rattle.std.proofs.lemmas.Bool.{ltb-true, leb-true, or_left, cond-true, cond-false, false≢true}
use Rattle.std.proofs.lemmas.List.Prefix.{front_from_reads}
use Rattle.std.proofs.lemmas.List.FromFn.{length-map-range_with_len, get_or-map-range_with_len}
use Rattle.section.specs.View.{View, fresh}
use Rattle.image.specs.Image.{header}
use Rattle.image.specs.Accepted.{Accepted}
use Rattle.image.specs.declared.header.Header.{Header}
use Rattle.machine.specs.Processor.{stop, State, doing, after}
use Rattle.machine.specs.Rv32i.{rv32i}
use Rattle.machine.specs.Run.{limits_of, run_start, run_end, run_count, run_stop, run_outputs, run_words}
use Rattle.machine.proofs.Ends.{runs_end}
use Rattle.agreement.specs.Board.{Board, Laws}
use Rattle.agreement.specs.Store.{current}
use Rattle.agreement.specs.Turns.{Choice}
use Rattle.agreement.specs.Charge.{Bank, At, is_finished, begin, spend, cut}
use Rattle.agreement.specs.Calls.{Kind, board, ready, Runner, Reply, refused, gave, Outcome, store_question, report, charging, register_of, register_at, word_of, Call, charge, take, register, word, call, History, play}
use Rattle.agreement.specs.Agreement.{got, taken, finishes, finished, ample_charge, ample, sufficient, Final, Right, AllRight, Agrees, Agreement}
use Rattle.agreement.proofs.Charges.{sealed, Sound, Finished, Onward, is_charged, sound_order, sealed_output, sealed_most}
use Rattle.agreement.proofs.Board.{laws}
use Rattle.agreement.proofs.Loaded.{asked, Fit, load_is, fit, left, slot_left, stands_left, cut_left}

-- the run's end comes after as many steps as its limit
ran_all : (bs : List ℕ) → after (rv32i (limits_of (header bs))) (header bs).limit (run_start bs) ≡ run_end bs
unfolding run_end
ran_all bs = refl

module _ (kind : Kind) (bs : List ℕ) (image : Accepted bs) where
  abbrev h : Header
  h = header bs

  abbrev b : Board
  b = board kind h

  abbrev end : State
  end = run_end bs

  stops : doing b.act end ≡ stop (run_stop bs)
  stops = (runs_end bs).stops

  v : Laws b
  v = laws h kind image.text_high image.period_low

  abbrev Holds : Bank → Type 0
  Holds k = Sound b end (run_stop bs) stops v k

  abbrev Ended : Bank → Type 0
  Ended k = Finished b end (run_stop bs) stops v k

  abbrev seals : Bank → ℕ
  seals k = sealed b end (run_stop bs) stops v k

  record Fine (r : Runner) : Type 0 where
    holds : r.status ≡ ready h
    sound : Holds r.bank
    ends : r.done ≡ true → Ended r.bank
    few : r.taken ≤ end.core.sent

  -- what a call hands out, and the mark after it
  abbrev Took : ℕ → Call → Reply → ℕ → Type 0
  Took t c a t' =
      (((ws : List ℕ) → got c a ws ≡ ws) × (t' ≡ t))
      ⊎ ((w : ℕ) × ((ws : List ℕ) → got c a ws ≡ w ∷ ws) × (t' ≡ t + 1) × (w ≡ end.log t))

  record Step (c : Call) (r : Runner) (o : Outcome) : Type 0 where
    fine : Fine o.1
    right : Right kind bs r.done c o.0
    done : o.1.done ≡ (r.done || finishes o.0)
    took : Took r.taken c o.0 o.1.taken
    onward : (o.1.done ≡ true) ⊎ (seals r.bank + ample_charge (sufficient kind bs) c o.0 ≤ seals o.1.bank)

  -- an answer that leaves the runner as it was
  stays : (c : Call) (r : Runner) (a : Reply) → Fine r → Right kind bs r.done c a → finishes a ≡ false →
      ((ws : List ℕ) → got c a ws ≡ ws) → ample_charge (sufficient kind bs) c a ≡ 0 → Step c r (a, r)
  stays c r a f g n t z =
      record { fine = f; right = g; done = sym (ap (λ x. r.done || x) n ∙ or-false r.done); took = inl (t, refl); onward = inr (omega arith) }

  abbrev a_runner : Bank → View → ℕ → Bool → Runner
  a_runner k m t d = record { bank = k; marks = m; status = ready h; taken = t; done = d }

  in_store : (k : Bank) (m : View) (t : ℕ) (d : Bool) → Holds k → (store_question kind h (a_runner k m t d)).0 ≡ true
  in_store k m t d s = sound_order b end (run_stop bs) stops v k s

  -- the report of a finished charge
  final : (k : Bank) (m : View) (t used ran : ℕ) (d fin : Bool) → fin ≡ true → Ended k → Final kind bs (report kind h fin used ran (a_runner k m t d))
  final k m t used ran d fin e f =
      record {
        sealed = ap (λ c. c.ran) f.core;
        outputs = ap (λ c. c.sent) f.core ∙ sym (length-map-range_with_len end.log 0 end.core.sent);
        stop = cond-true fin (current b k.store).halt 0 e ∙ f.number;
      }

  charges : (units torn : ℕ) (ch : ℕ → Choice) (k : Bank) (m : View) (t : ℕ) (d : Bool) → Fine (a_runner k m t d) →
      Step (charge units torn) (a_runner k m t d) (charging kind h d ch units torn (a_runner k m t d))
  charges units torn ch k m t true f =
      record {
        fine = f;
        right = (report kind h true 0 0 r, refl, refl, refl, refl, final k m t 0 0 true true refl (f.ends refl));
        done = refl;
        took = inl ((λ ws. refl), refl);
        onward = inl refl;
      }
    where
      r : Runner
      r = a_runner k m t true
  charges units torn ch k m t false f =
      record {
        fine = record { holds = refl; sound = x.sound; ends = x.ends; few = f.few };
        right = (report kind h fin a.used a.ran r', refl, λ e. final k' fresh t a.used a.ran fin fin e (x.ends e));
        done = refl;
        took = inl ((λ ws. refl), refl);
        onward = go (leb (sufficient kind bs) units) refl;
      }
    where
      a : At
      a = spend b ch units (begin b k)

      fin : Bool
      fin = is_finished a.phase

      k' : Bank
      k' = cut b fin (ch units) torn a

      r' : Runner
      r' = record { bank = k'; marks = fresh; status = ready h; taken = t; done = fin }

      x : Onward b end (run_stop bs) stops v (seals k) units k' fin
      x = is_charged b end (run_stop bs) stops v units torn ch k f.sound

      more : (fin ≡ true) ⊎ (seals k < seals k') → (fin ≡ true) ⊎ (seals k + 1 ≤ seals k')
      more (inl e) = inl e
      more (inr e) = inr (omega arith)

      go : (y : Bool) → leb (sufficient kind bs) units ≡ y → (fin ≡ true) ⊎ (seals k + cond y 1 0 ≤ seals k')
      go true e = more (x.more (leb-true (sufficient kind bs) units e))
      go false e = let l = x.least in inr (omega arith)

  right_take : (d : Bool) (a : Reply) → (a ≡ refused 12 []) ⊎ ((w : ℕ) × (a ≡ gave w)) → Right kind bs d take a
  right_take true a e = e
  right_take false a e = e

  takes : (k : Bank) (m : View) (t : ℕ) (d : Bool) → Fine (a_runner k m t d) → (x : Bool) → ltb t (current b k.store).core.sent ≡ x →
      Step take (a_runner k m t d) (cond x (gave (get_or k.log t 0), a_runner k m (t + 1) d) (refused 12 [], a_runner k m t d))
  takes k m t d f true e =
      let g = sealed_output b end (run_stop bs) stops v k f.sound t (ltb-true t (current b k.store).core.sent e) in
      record {
        fine = record { holds = refl; sound = f.sound; ends = f.ends; few = let l : t < end.core.sent = g.0 in omega arith };
        right = right_take d _ (inr (_, refl));
        done = sym (or-false d);
        took = inr (get_or k.log t 0, (λ ws. refl), refl, g.1);
        onward = inr (omega arith);
      }
  takes k m t d f false e = stays take (a_runner k m t d) (refused 12 []) f (right_take d _ (inl refl)) refl (λ ws. refl) refl

  looks : (c : Call) (k : Bank) (m : View) (t : ℕ) → Fine (a_runner k m t true) → (x : Bool) (w w' : ℕ) → w ≡ w' →
      ((a : Reply) → a ≡ cond x (gave w') (refused 11 []) → Right kind bs true c a) → ((a : Reply) (ws : List ℕ) → got c a ws ≡ ws) →
      ((a : Reply) → ample_charge (sufficient kind bs) c a ≡ 0) →
      Step c (a_runner k m t true) (cond x (gave w, a_runner k m t true) (refused 11 [], a_runner k m t true))
  looks c k m t f true w w' e g o z = stays c (a_runner k m t true) (gave w) f (g _ (ap gave e)) refl (o _) (z _)
  looks c k m t f false w w' e g o z = stays c (a_runner k m t true) (refused 11 []) f (g _ refl) refl (o _) (z _)

  registers : (n : ℕ) (k : Bank) (m : View) (t : ℕ) (d : Bool) → Fine (a_runner k m t d) →
      Step (register n) (a_runner k m t d) (register_at kind (ready h) n (a_runner k m t d))
  registers n k m t false f = stays (register n) (a_runner k m t false) (refused 10 []) f refl refl (λ ws. refl) refl
  registers n k m t true f =
      looks (register n) k m t f (leb n 32) _ (register_of end.core.hart n) (ap (λ c. register_of c.hart n) (f.ends refl).core) (λ a e. e) (λ a ws. refl) (λ a. refl)

  words_of : (i : ℕ) (k : Bank) (m : View) (t : ℕ) (d : Bool) → Fine (a_runner k m t d) →
      Step (word i) (a_runner k m t d) (word_of kind (ready h) i (a_runner k m t d))
  words_of i k m t false f = stays (word i) (a_runner k m t false) (refused 10 []) f refl refl (λ ws. refl) refl
  words_of i k m t true f = go (ltb i h.words) refl
    where
      r : Runner
      r = a_runner k m t true

      go : (x : Bool) → ltb i h.words ≡ x → Step (word i) r (cond x (gave (get_or k.words i 0), r) (refused 11 [], r))
      go true e = stays (word i) r _ f (ap gave ((f.ends refl).words i (ltb-true i h.words e)) ∙ sym (cond-true (ltb i h.words) _ _ e)) refl (λ ws. refl) refl
      go false e = stays (word i) r _ f (sym (cond-false (ltb i h.words) _ _ e)) refl (λ ws. refl) refl

  step : (ch : ℕ → Choice) (c : Call) (k : Bank) (m : View) (t : ℕ) (d : Bool) → Fine (a_runner k m t d) →
      Step c (a_runner k m t d) (call kind ch c (a_runner k m t d))
  step ch (charge units torn) k m t d f =
      let r = a_runner k m t d in
      subst (Step (charge units torn) r) (sym (asked (store_question kind h r ∷ []) r (charging kind h d ch units torn r) (in_store k m t d f.sound, tt)))
      (charges units torn ch k m t d f)
  step ch take k m t d f =
      let r = a_runner k m t d in
      subst (Step take r) (sym (ap (λ x. cond x (cond (ltb t (current b k.store).core.sent) (gave (get_or k.log t 0), a_runner k m (t + 1) d) (refused 12 [], r)) (refused 9 [], r)) (in_store k m t d f.sound)))
      (takes k m t d f (ltb t (current b k.store).core.sent) refl)
  step ch (register n) k m t d f = registers n k m t d f
  step ch (word i) k m t d f = words_of i k m t d f

  steps : (ch : ℕ → Choice) (c : Call) (r : Runner) → Fine r → Step c r (call kind ch c r)
  steps ch c r f =
      let same : r ≡ a_runner r.bank r.marks r.taken r.done =
      λ i. record { bank = r.bank; marks = r.marks; status = f.holds i; taken = r.taken; done = r.done } in
      subst (λ x. Step c x (call kind ch c x)) (sym same)
      (step ch c r.bank r.marks r.taken r.done (record { holds = refl; sound = f.sound; ends = f.ends; few = f.few }))

  record Played (r : Runner) (p : History × Runner) : Type 0 where
    fine : Fine p.1
    right : AllRight kind bs r.done p.0
    done : p.1.done ≡ (r.done || finished p.0)
    count : r.taken + length (taken p.0) ≡ p.1.taken
    words : (j : ℕ) → j < length (taken p.0) → get_or (taken p.0) j 0 ≡ end.log (r.taken + j)
    onward : (p.1.done ≡ true) ⊎ (seals r.bank + ample (sufficient kind bs) p.0 ≤ seals p.1.bank)

  -- one call before others
  module _ (c : Call) (r : Runner) (o : Outcome) (s : Step c r o) (p : History × Runner) (w : Played o.1 p) where
    count_first : Took r.taken c o.0 o.1.taken → r.taken + length (got c o.0 (taken p.0)) ≡ p.1.taken
    count_first (inl t) =
        let n = w.count in let e : o.1.taken ≡ r.taken = t.1 in
        ap (λ l. r.taken + length l) (t.0 (taken p.0)) ∙ omega arith
    count_first (inr t) =
        let n = w.count in let e : o.1.taken ≡ r.taken + 1 = t.2 in
        ap (λ l. r.taken + length l) (t.1 (taken p.0)) ∙ omega arith

    words_first : Took r.taken c o.0 o.1.taken → (j : ℕ) → j < length (got c o.0 (taken p.0)) →
        get_or (got c o.0 (taken p.0)) j 0 ≡ end.log (r.taken + j)
    words_first (inl t) j q =
        ap (λ l. get_or l j 0) (t.0 (taken p.0))
        ∙ w.words j (subst (λ l. j < length l) (t.0 (taken p.0)) q) ∙ ap (λ n. end.log (n + j)) t.1
    words_first (inr t) j q =
        ap (λ l. get_or l j 0) (t.1 (taken p.0)) ∙ go j (subst (λ l. j < length l) (t.1 (taken p.0)) q)
      where
        go : (j : ℕ) → j < suc (length (taken p.0)) → get_or (t.0 ∷ taken p.0) j 0 ≡ end.log (r.taken + j)
        go zero q = let e : r.taken ≡ r.taken + 0 = omega arith in t.3 ∙ ap end.log e
        go (suc j) q =
            let e' : o.1.taken ≡ r.taken + 1 = t.2 in
            let e : o.1.taken + j ≡ r.taken + suc j = omega arith in
            w.words j (omega arith) ∙ ap end.log e

    onward_first : (o.1.done ≡ true) ⊎ (seals r.bank + ample_charge (sufficient kind bs) c o.0 ≤ seals o.1.bank) →
        (p.1.done ≡ true) ⊎ (seals o.1.bank + ample (sufficient kind bs) p.0 ≤ seals p.1.bank) →
        (p.1.done ≡ true) ⊎ (seals r.bank + (ample_charge (sufficient kind bs) c o.0 + ample (sufficient kind bs) p.0) ≤ seals p.1.bank)
    onward_first (inl d) y = inl (w.done ∙ or_left o.1.done (finished p.0) d)
    onward_first (inr l) (inl d) = inl d
    onward_first (inr l) (inr l') = inr (omega arith)

    first_played : Played r ((c, o.0) ∷ p.0, p.1)
    first_played =
        record {
          fine = w.fine;
          right = (s.right, subst (λ d. AllRight kind bs d p.0) s.done w.right);
          done = w.done ∙ ap (λ d. d || finished p.0) s.done ∙ or_assoc r.done (finishes o.0) (finished p.0);
          count = count_first s.took;
          words = words_first s.took;
          onward = onward_first s.onward w.onward;
        }

  plays : (cs : List Call) (ch : ℕ → ℕ → Choice) (r : Runner) → Fine r → Played r (play kind ch cs r)
  unfolding play
  plays [] ch r f =
      record {
        fine = f;
        right = tt;
        done = sym (or-false r.done);
        count = omega arith;
        words = λ j q. let x : ⊥ = omega arith in absurd x;
        onward = inr (omega arith);
      }
  plays (c ∷ cs) ch r f =
      let o = call kind (ch zero) c r in
      let s = steps (ch zero) c r f in
      first_played c r o s (play kind (λ n. ch (suc n)) cs o.1) (plays cs (λ n. ch (suc n)) o.1 s.fine)

  -- from a runner that has taken and sealed nothing
  agrees : (r : Runner) → Fine r → r.done ≡ false → r.taken ≡ 0 → seals r.bank ≡ 0 → (p : History × Runner) → Played r p → Agrees kind bs p.0 p.1.bank
  agrees r f opened none start p w =
      record {
        in_order = (
          _,
          front_from_reads 0 (run_outputs bs) (taken p.0) (rw outs (let n = w.count in let l = w.fine.few in omega arith))
              (λ j q. let n = w.count in let l = w.fine.few in
              get_or-map-range_with_len end.log 0 end.core.sent j j 0 (omega arith) (omega arith) ∙ ap end.log (let e : j ≡ r.taken + j = omega (arith, none) in e) ∙ sym (w.words j q)),
        );
        answers = subst (λ d. AllRight kind bs d p.0) opened w.right;
        words = λ e. let g = w.fine.ends (done e) in let l = w.fine.sound.stands.long.words in (
          _,
          front_from_reads 0 p.1.bank.words (run_words bs) (rw size l)
              (λ j q. let q' : j < h.words = subst (λ n. j < n) size q in
              g.words j q' ∙ sym (get_or-map-range_with_len end.mem 0 h.words j j 0 q' (omega arith))),
        );
        log = λ e. let g = w.fine.ends (done e) in let l = w.fine.sound.stands.long.log in (
          _,
          front_from_reads 0 p.1.bank.log (run_outputs bs) (rw outs (sent g))
              (λ j q. let q' : j < end.core.sent = subst (λ n. j < n) outs q in
              g.outputs j q' ∙ sym (get_or-map-range_with_len end.log 0 end.core.sent j j 0 q' (omega arith))),
        );
        suffices = λ n. sym done_is ∙ enough n w.onward;
      }
    where
      outs : length (run_outputs bs) ≡ end.core.sent
      outs = length-map-range_with_len end.log 0 end.core.sent

      size : length (run_words bs) ≡ h.words
      size = length-map-range_with_len end.mem 0 h.words

      done_is : p.1.done ≡ finished p.0
      done_is = w.done ∙ ap (λ d. d || finished p.0) opened

      done : finished p.0 ≡ true → p.1.done ≡ true
      done e = done_is ∙ e

      -- the outputs fit the log
      sent : Ended p.1.bank → end.core.sent ≤ length p.1.bank.log
      sent g =
          let s = w.fine.sound.stands in
          let a : (current b p.1.bank.store).core.sent ≤ h.outputs = s.valid.sent in
          let c : (current b p.1.bank.store).core.sent ≡ end.core.sent = ap (λ c. c.sent) g.core in
          let l : h.outputs ≤ length p.1.bank.log = s.long.log in
          omega arith

      enough : run_count bs < ample (sufficient kind bs) p.0 →
          (p.1.done ≡ true) ⊎ (seals r.bank + ample (sufficient kind bs) p.0 ≤ seals p.1.bank) → p.1.done ≡ true
      enough n (inl d) = d
      enough n (inr l) =
          let m = sealed_most b end (run_stop bs) stops v p.1.bank w.fine.sound in
          let x : ⊥ = omega arith in absurd x

pub agreement : Agreement
agreement kind bs r marks ok = (
  runs_end bs,
  λ cs ch.
      subst (λ x. Agrees kind bs (play kind ch cs x).0 (play kind ch cs x).1.bank) (sym (load_is kind marks bs r ok))
      (agrees kind bs f.image r₁ fine refl refl (ap (λ s. s.core.ran) (slot_left kind bs r.bank f)) (play kind ch cs r₁)
      (plays kind bs f.image cs ch r₁ fine)),
)
  where
    f : Fit kind bs r.bank
    f = fit kind marks bs r ok

    r₁ : Runner
    r₁ = record { bank = left kind bs r.bank f; marks = marks; status = ready (header bs); taken = 0; done = false }

    fine : Fine kind bs f.image r₁
    fine =
        record {
          holds = refl;
          sound = record {
            stands = stands_left kind bs r.bank f;
            cut = (run_start bs, ((header bs).limit, ran_all bs), cut_left kind bs r.bank f);
          };
          ends = λ e. absurd (false≢true e);
          few = zero-le;
        }
