-- A running section: what holds in it, and that each instruction keeps it.
use Rattle.std.proofs.Common.{◌≡◌, ℕ, ◌+◌, ◌<◌, ◌≤◌, Bool, true, false, cond, eqb, ◌⊎◌, List, Some, None, Option, sym, refl, ap, ◌∙◌, subst, inl, inr, ⊎_elim, le_trans, arith}
use Rattle.std.proofs.lemmas.Bool.{eqb-true, eqb-false, cases_eq, cases_Bool, both_ways, or_cases, or_parts, or_right, ne_eqb, cond-false}
use Rattle.memory.specs.Lanes.{Lane, byte, names, merged}
use Rattle.memory.specs.Contents.{put}
use Rattle.memory.proofs.Contents.{put_same, put_other}
use Rattle.index_sets.specs.Sets.{joined}
use Rattle.std.specs.Option.{unwrap_or}
use Rattle.section.specs.View.{held, Apart}
use Rattle.section.specs.Calls.{known, with_read}
use Rattle.section.proofs.Pairs.{cases_option, Holds}
use Rattle.hart.specs.State.{next, next_sent}
use Rattle.hart.specs.declared.state.Hart.{Hart}
use Rattle.machine.specs.Processor.{Effect, quiet, load, store, emit, State, enact, doing, step}
use Rattle.agreement.specs.Pairs.{Pair, seen_over}
use Rattle.agreement.specs.Board.{Lawful, Board, Laws}
use Rattle.agreement.specs.Turns.{Section, later, with_write, with_pairs}
use Rattle.agreement.proofs.Words.{merge_out, full}
use Rattle.agreement.proofs.Pairs.{seen_under, seen_held}
use Rattle.agreement.proofs.Dead.{Loads, Covers, Dead, hit, miss, step_is, dead_loads, dead_above, Ok, Stands, ok_same, stands_put, stands_over, effect, stands_step}
use Rattle.agreement.proofs.Leads.{step_sent}
use Rattle.agreement.proofs.Device.{Device, with_word, with_output}

-- what holds in a section from m₀ that has come to m
pub record Running (b : Board) (m₀ m : State) (d : Device) (s : Section) : Type 0 where
  pub core : s.core ≡ m.core
  pub sees : Stands b m (seen_over d.words s.view.pairs)
  pub stood : Stands b m₀ d.words
  pub back : (i : ℕ) (k : Lane) → s.view.reads i ≡ false → Dead b i k m → Dead b i k m₀
  pub wrote : (i : ℕ) (k : Lane) → s.view.writes i ≡ true → Dead b i k m₀
  pub held : (i w : ℕ) → held s.view.pairs i ≡ Some w → s.view.reads i ≡ true
  pub apart : Apart s.view.pairs
  pub above : (i : ℕ) → s.view.reads i ≡ true → b.text ≤ i
  pub log : (n : ℕ) → n < m.core.sent → d.log n ≡ m.log n
  pub sent : m₀.core.sent ≤ m.core.sent

module _ (b : Board) (m₀ m : State) (d : Device) (s : Section) (r : Running b m₀ m d s) where
  -- an index outside the read-first set is not held, and is seen as it stands
  pub free : (i : ℕ) → s.view.reads i ≡ false → held s.view.pairs i ≡ None
  free i out =
      ⊎_elim (λ e. e) (λ (h : (w : ℕ) × (held s.view.pairs i ≡ Some w)). absurd (both_ways (s.view.reads i) out (r.held i h.0 h.1)))
      (cases_option (held s.view.pairs i))

  plain : (i : ℕ) → s.view.reads i ≡ false → seen_over d.words s.view.pairs i ≡ d.words i
  plain i out = ap (λ (o : Option ℕ). unwrap_or o (d.words i)) (free i out)

  text_unread : (i : ℕ) → i < b.text → s.view.reads i ≡ false
  text_unread i l =
      ⊎_elim (λ e. let k : b.text ≤ i = r.above i e in let z : ⊥ = omega arith in absurd z) (λ e. e) (cases_Bool (s.view.reads i))

  -- the text is seen as it is, so the device fetches what the machine fetches
  pub fetched : Laws b → b.act d.words s.core ≡ doing b.act m
  fetched g =
      ap (b.act d.words) r.core ∙
      g.fetches d.words m.mem m.core
      (λ i h. sym (plain i (text_unread i h)) ∙ ok_same b (r.sees i) (λ k dd. let q : b.text ≤ i = dead_above b g dd in omega arith))

  -- a load sees what the machine has
  pub loaded_same : (i : ℕ) (f : ℕ → Hart) → doing b.act m ≡ load i f → seen_over d.words s.view.pairs i ≡ m.mem i
  loaded_same i f e = ok_same b (r.sees i) (λ k dd. dead_loads b dd (subst (Loads i) (sym e) refl))

  -- whatever a write outside the read-first set leaves in its lanes is dead at the section's start
  pub written : (i lanes w : ℕ) (h : Hart) (t : ℕ) → doing b.act m ≡ store i lanes w h → s.view.reads i ≡ false →
      Ok b m₀ i (merged (d.words i) t lanes)
  written i lanes w h t e out k = go (cases_Bool (names lanes k))
    where
      v : ℕ
      v = d.words i

      go : (names lanes k ≡ true) ⊎ (names lanes k ≡ false) → (byte (merged v t lanes) k ≡ byte (m₀.mem i) k) ⊎ Dead b i k m₀
      go (inl n) = inr (r.back i k out (hit (subst (Covers i k) (sym e) (refl, n))))
      go (inr n) =
          subst (λ x. (x ≡ byte (m₀.mem i) k) ⊎ Dead b i k m₀)
          (sym (merge_out lanes v t k n))
          (r.stood i k)

module _ (b : Board) where
  -- a state that is not a load of i: what is dead after its step was dead before
  back_step : {m₀ m : State} {d : Device} {s : Section} → Running b m₀ m d s → (a : Effect) → doing b.act m ≡ a →
      (i : ℕ) (k : Lane) → (Loads i a → ⊥) → s.view.reads i ≡ false → Dead b i k (step b.act m) → Dead b i k m₀
  back_step r a e i k n h x = r.back i k h (miss (subst (λ a'. Loads i a' → ⊥) (sym e) n) x)

  -- an action that writes nothing and reads nothing new
  module _ (m₀ m : State) (d : Device) (s : Section) (r : Running b m₀ m d s) where
    sees_step : (a : Effect) → doing b.act m ≡ a → Stands b (step b.act m) (effect b (seen_over d.words s.view.pairs) a)
    sees_step a e = stands_step b m (seen_over d.words s.view.pairs) a e r.sees

    log_step : (a : Effect) → doing b.act m ≡ a → (enact m a).core.sent ≡ m.core.sent → (enact m a).log ≡ m.log →
        (n : ℕ) → n < (step b.act m).core.sent → d.log n ≡ (step b.act m).log n
    log_step a e q l n h =
        let s' = step_is b m a e in
        r.log n (subst (λ x. n < x) (ap (λ x. x.core.sent) s' ∙ q) h) ∙ ap (λ f. f n) (sym l) ∙ ap (λ x. x.log n) (sym s')

    pub quiet_runs : (h : Hart) → doing b.act m ≡ quiet h → Running b m₀ (step b.act m) d (later s (next s.core h) s.view)
    quiet_runs h e =
        let s' = step_is b m (quiet h) e in
        record {
          core = ap (λ c. next c h) r.core ∙ ap (λ x. x.core) (sym s');
          sees = sees_step (quiet h) e;
          stood = r.stood;
          back = λ i k out x. back_step r (quiet h) e i k (λ l. l) out x;
          wrote = r.wrote;
          held = r.held;
          apart = r.apart;
          above = r.above;
          log = log_step (quiet h) e refl refl;
          sent = le_trans r.sent (step_sent b m);
        }

    load_core : (i : ℕ) (f : ℕ → Hart) → doing b.act m ≡ load i f →
        next s.core (f (seen_over d.words s.view.pairs i)) ≡ (step b.act m).core
    load_core i f e =
        ap (λ c. next c (f (seen_over d.words s.view.pairs i))) r.core
        ∙ ap (λ w. next m.core (f w)) (loaded_same b m₀ m d s r i f e)
        ∙ ap (λ x. x.core) (sym (step_is b m (load i f) e))

    pub load_runs : (i : ℕ) (f : ℕ → Hart) → doing b.act m ≡ load i f → known s.view i ≡ true →
        Running b m₀ (step b.act m) d (later s (next s.core (f (seen_over d.words s.view.pairs i))) s.view)
    load_runs i f e known =
        record {
          core = load_core i f e;
          sees = sees_step (load i f) e;
          stood = r.stood;
          back = λ j k out x. go j k out x (cases_eq j i);
          wrote = r.wrote;
          held = r.held;
          apart = r.apart;
          above = r.above;
          log = log_step (load i f) e refl refl;
          sent = le_trans r.sent (step_sent b m);
        }
      where
        marked : (j : ℕ) (k : Lane) → s.view.reads j ≡ false → (s.view.reads j ≡ true) ⊎ (s.view.writes j ≡ true) → Dead b j k m₀
        marked j k out (inl q) = absurd (both_ways (s.view.reads j) out q)
        marked j k out (inr q) = r.wrote j k q

        go : (j : ℕ) (k : Lane) → s.view.reads j ≡ false → Dead b j k (step b.act m) → (j ≡ i) ⊎ (j ≡ i → ⊥) → Dead b j k m₀
        go j k out x (inl q) = marked j k out (or_cases (s.view.reads j) (s.view.writes j) (rw q known))
        go j k out x (inr q) = back_step r (load i f) e j k q out x

    pub load_enters : Laws b → (i : ℕ) (f : ℕ → Hart) → doing b.act m ≡ load i f →
        Running b m₀ (step b.act m) d (later s (next s.core (f (seen_over d.words s.view.pairs i))) (with_read s.view i))
    load_enters g i f e =
        record {
          core = load_core i f e;
          sees = sees_step (load i f) e;
          stood = r.stood;
          back = λ j k out x.
              let q = or_parts (eqb j i) (s.view.reads j) out in
              back_step r (load i f) e j k (eqb-false j i q.0) q.1 x;
          wrote = r.wrote;
          held = λ j w h. or_right (eqb j i) (s.view.reads j) (r.held j w h);
          apart = r.apart;
          above = λ j h. go j (or_cases (eqb j i) (s.view.reads j) h);
          log = log_step (load i f) e refl refl;
          sent = le_trans r.sent (step_sent b m);
        }
      where
        go : (j : ℕ) → (eqb j i ≡ true) ⊎ (s.view.reads j ≡ true) → b.text ≤ j
        go j (inl q) = rw (eqb-true j i q) (subst (Lawful b.text b.size b.room m.core) e (g.lawful m.mem m.core)).0
        go j (inr q) = r.above j q

    pub emit_runs : (w : ℕ) (h : Hart) → doing b.act m ≡ emit w h →
        Running b m₀ (step b.act m) (with_output d s.core.sent w) (later s (next_sent s.core h) s.view)
    emit_runs w h e =
        let s' = step_is b m (emit w h) e in
        record {
          core = ap (λ c. next_sent c h) r.core ∙ ap (λ x. x.core) (sym s');
          sees = sees_step (emit w h) e;
          stood = r.stood;
          back = λ i k out x. back_step r (emit w h) e i k (λ l. l) out x;
          wrote = r.wrote;
          held = r.held;
          apart = r.apart;
          above = r.above;
          log = λ n q.
              let q' : n < (m.core.sent + 1) = subst (λ x. n < x.core.sent) s' q in
              ap (λ c. put d.log c.sent w n) r.core ∙ go n q' (cases_eq n m.core.sent) ∙ ap (λ x. x.log n) (sym s');
          sent = le_trans r.sent (step_sent b m);
        }
      where
        go : (n : ℕ) → n < (m.core.sent + 1) → (n ≡ m.core.sent) ⊎ (n ≡ m.core.sent → ⊥) →
            put d.log m.core.sent w n ≡ put m.log m.core.sent w n
        go n q (inl z) = rw z (put_same d.log m.core.sent w ∙ sym (put_same m.log m.core.sent w))
        go n q (inr z) =
            put_other d.log m.core.sent w n z ∙ r.log n (omega arith) ∙ sym (put_other m.log m.core.sent w n z)

    pub store_runs : (i lanes w : ℕ) (h : Hart) (gains : Bool) → doing b.act m ≡ store i lanes w h → s.view.reads i ≡ false →
        (gains ≡ true → lanes ≡ 15) →
        Running b m₀ (step b.act m) (with_word d i (merged (d.words i) w lanes)) (later s (next s.core h) (with_write s.view gains i))
    store_runs i lanes w h gains e out whole =
        let s' = step_is b m (store i lanes w h) e in
        record {
          core = ap (λ c. next c h) r.core ∙ ap (λ x. x.core) (sym s');
          sees = stands_over b (step b.act m) _ (seen_over (put d.words i v) s.view.pairs)
              (λ j. seen_under d.words i v s.view.pairs j (free b m₀ m d s r i out)
              ∙ ap (λ x. put (seen_over d.words s.view.pairs) i (merged x w lanes) j) (sym (plain b m₀ m d s r i out)))
              (sees_step (store i lanes w h) e);
          stood = stands_put b m₀ d.words i v r.stood (written b m₀ m d s r i lanes w h w e out);
          back = λ j k o x. back_step r (store i lanes w h) e j k (λ l. l) o x;
          wrote = λ j k. gained j k gains whole;
          held = r.held;
          apart = r.apart;
          above = r.above;
          log = log_step (store i lanes w h) e refl refl;
          sent = le_trans r.sent (step_sent b m);
        }
      where
        v : ℕ
        v = merged (d.words i) w lanes

        gains_at : (j : ℕ) (k : Lane) → lanes ≡ 15 → (eqb j i ≡ true) ⊎ (s.view.writes j ≡ true) → Dead b j k m₀
        gains_at j k l (inl q) =
            rw (eqb-true j i q)
            (r.back i k out (hit (subst (Covers i k) (sym e) (refl, ap (λ n. names n k) l ∙ full k))))
        gains_at j k l (inr q) = r.wrote j k q

        gained : (j : ℕ) (k : Lane) (g : Bool) → (g ≡ true → lanes ≡ 15) → cond g (joined s.view.writes i) s.view.writes j ≡ true → Dead b j k m₀
        gained j k true l q = gains_at j k (l refl) (or_cases (eqb j i) (s.view.writes j) q)
        gained j k false l q = r.wrote j k q

    -- a write that is held: the pairs hold the new word, and else what they held
    pub store_holds : (i lanes w : ℕ) (h : Hart) (ps : List Pair) → doing b.act m ≡ store i lanes w h → s.view.reads i ≡ true →
        Holds s.view.pairs i (merged (seen_over d.words s.view.pairs i) w lanes) ps → Apart ps →
        Running b m₀ (step b.act m) d (later s (next s.core h) (with_pairs s.view ps))
    store_holds i lanes w h ps e inside new apart =
        let s' = step_is b m (store i lanes w h) e in
        record {
          core = ap (λ c. next c h) r.core ∙ ap (λ x. x.core) (sym s');
          sees = stands_over b (step b.act m) _ (seen_over d.words ps)
              (λ j. seen_held d.words i _ s.view.pairs j ps new) (sees_step (store i lanes w h) e);
          stood = r.stood;
          back = λ j k out x. back_step r (store i lanes w h) e j k (λ l. l) out x;
          wrote = r.wrote;
          held = λ j v k.
              ⊎_elim (λ (q : j ≡ i). rw q inside)
              (λ ne. r.held j v (sym (new j ∙ cond-false (eqb j i) _ _ (ne_eqb j i ne)) ∙ k))
              (cases_eq j i);
          apart = apart;
          above = r.above;
          log = log_step (store i lanes w h) e refl refl;
          sent = le_trans r.sent (step_sent b m);
        }
