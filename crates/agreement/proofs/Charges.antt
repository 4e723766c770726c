-- A charge whole: it keeps the invariant, and a sufficient one finishes or seals more.
use Rattle.std.proofs.Common.{◌≡◌, ℕ, zero, suc, ◌+◌, ◌-◌, ◌<◌, ◌≤◌, Bool, true, false, ◌⊎◌, length, get_or, sym, refl, ap, ◌∙◌, subst, inl, inr, le_trans, le_refl, arith}
use mathlib.Core.Path.{fun_ext}
use Rattle.std.proofs.lemmas.Bool.{false≢true}
use Rattle.machine.specs.Processor.{stop, State, doing}
use Rattle.agreement.specs.Board.{Board, Laws}
use Rattle.agreement.specs.Store.{current, in_order}
use Rattle.agreement.specs.Turns.{Phase, restart, settle, run, seal, finished, Choice, Deed, torn, upcoming}
use Rattle.agreement.specs.Charge.{Bank, At, is_finished, apply, tick, begin, spend, cut}
use Rattle.agreement.proofs.Dead.{dead_stop, ok_same}
use Rattle.agreement.proofs.Leads.{leads_stop, after_log, after_sent, after_ran}
use Rattle.agreement.proofs.Device.{at, look}
use Rattle.agreement.proofs.Invariant.{Good, Cuts, ticked, cuts}
use Rattle.agreement.proofs.Progress.{full, need, settle_need, Counts, torn_slot}
use Rattle.agreement.proofs.Progress as progress
use Rattle.agreement.proofs.Standing.{inner_at, dev, Standing, stands_test, Ready, Done, clean, same_turn}

module _ (b : Board) where
  -- spending m units and then n is spending all of them
  pub spend_more : (ch : ℕ → Choice) (m n : ℕ) (a : At) → spend b ch (m + n) a ≡ spend b (λ k. ch (m + k)) n (spend b ch m a)
  unfolding spend
  spend_more ch zero n a =
      let e : (k : ℕ) → k ≡ 0 + k = λ k. omega arith in
      ap (λ k. spend b ch k a) (sym (e n)) ∙ ap (λ f. spend b f n a) (fun_ext (λ k. ap ch (e k)))
  spend_more ch (suc m) n a =
      let e : suc m + n ≡ suc (m + n) = omega arith in
      let f : (k : ℕ) → suc (m + k) ≡ suc m + k = λ k. omega arith in
      ap (λ k. spend b ch k a) e ∙ spend_more (λ k. ch (suc k)) m n (tick b (ch zero) a)
      ∙ ap (λ g. spend b g n (spend b (λ k. ch (suc k)) m (tick b (ch zero) a))) (fun_ext (λ k. ap ch (f k)))

module _ (b : Board) (end : State) (z : ℕ) (stops : doing b.act end ≡ stop z) (v : Laws b) where
  abbrev pub sealed : Bank → ℕ
  sealed k = (current b k.store).core.ran

  -- within a charge of U units, n of which are left, that began with N instructions sealed
  record Whole (N U n : ℕ) (k : Bank) (ph : Phase) : Type 0 where
    stands : Standing b k
    ready : Ready b k ph
    good : Good b end (at (dev b k) ph)
    counts : Counts b N U n (at (dev b k) ph)

  whole_tick : (N U n : ℕ) (ch : Choice) (a : At) → Whole N U (suc n) a.bank a.phase →
      Whole N U n (tick b ch a).bank (tick b ch a).phase
  whole_tick N U n ch a w =
      let due = b.due a.bank.store in
      let lim = v.beats a.bank.store in
      let t = upcoming b due ch (look b (dev b a.bank)) a.phase in
      let c = clean b a.bank w.stands v due ch a.phase w.good.cut.apart w.ready in
      subst (λ x. Whole N U n (apply b x.deed a.bank) x.phase) (sym (same_turn b a.bank w.stands v due ch a.phase w.ready))
      (record {
        stands = c.done.stands;
        ready = c.ready;
        good = subst (λ d. Good b end (at d t.phase)) (sym c.done.same) (ticked b end z stops v due ch (dev b a.bank) a.phase w.good);
        counts = subst (λ d. Counts b N U n (at d t.phase)) (sym c.done.same)
            (progress.ticked b v due lim.0 lim.1 N U n ch (dev b a.bank) a.phase w.counts);
      })

  whole_spend : (N U n : ℕ) (ch : ℕ → Choice) (a : At) → Whole N U n a.bank a.phase →
      Whole N U 0 (spend b ch n a).bank (spend b ch n a).phase
  unfolding spend
  whole_spend N U zero ch a w = w
  whole_spend N U (suc n) ch a w = whole_spend N U n (λ k. ch (suc k)) (tick b (ch zero) a) (whole_tick N U n (ch zero) a w)

  -- between charges
  pub record Sound (k : Bank) : Type 0 where
    pub stands : Standing b k
    pub cut : Cuts b end z stops v (dev b k)

  -- at the finish
  pub record Finished (k : Bank) : Type 0 where
    pub core : (current b k.store).core ≡ end.core
    pub words : (i : ℕ) → i < b.size → get_or k.words i 0 ≡ end.mem i
    pub outputs : (n : ℕ) → n < end.core.sent → get_or k.log n 0 ≡ end.log n
    pub number : (current b k.store).halt ≡ z

  finishes : (k : Bank) → Good b end (at (dev b k) finished) → Finished k
  finishes k g =
      let m = g.from in
      let h = (current b k.store).halt in
      let e : m ≡ end = leads_stop b end m h g.leads g.fits.1 in
      let q : stop h ≡ stop z = sym g.fits.1 ∙ ap (doing b.act) e ∙ stops in
      record {
        core = g.cut.core ∙ ap (λ x. x.core) e;
        words = λ i l. sym (inner_at b.size k.words i l) ∙ ok_same b (g.fits.0 i) (λ j x. dead_stop b h x g.fits.1) ∙ ap (λ x. x.mem i) e;
        outputs = λ n l. g.cut.log n (subst (λ x. n < x.core.sent) (sym e) l) ∙ ap (λ x. x.log n) e;
        number = cc;
      }

  -- a charge keeps what is sealed and, if it is ample, finishes or seals more
  pub record Onward (N units : ℕ) (k : Bank) (done : Bool) : Type 0 where
    pub sound : Sound k
    pub least : N ≤ sealed k
    pub ends : done ≡ true → Finished k
    pub more : full b ≤ units → (done ≡ true) ⊎ (N < sealed k)

  settle_positive : (h k n : ℕ) → k < n → settle_need b h (n - k) ≤ 0 → ⊥
  settle_positive zero k n l = omega arith
  settle_positive (suc y) k n l = omega arith

  module _ (N units : ℕ) (ch : Choice) (t : ℕ) (a : At) where
    is_cut : Whole N units 0 a.bank a.phase → (need b (dev b a.bank) a.phase ≤ 0 → ⊥) →
        Onward N units (cut b false ch t a) false
    is_cut w n =
        subst (λ x. Onward N units (apply b (torn t x.deed) k) false) (sym (same_turn b k w.stands v due ch a.phase w.ready))
        (record {
          sound = record { stands = d.stands; cut = subst (Cuts b end z stops v) (sym d.same) (cuts b end z stops v due ch t (dev b k) a.phase w.good) };
          least = subst (λ s. N ≤ s.core.ran) (sym e) w.counts.least;
          ends = λ e. absurd (false≢true e);
          more = λ x. inr (subst (λ s. N < s.core.ran) (sym e) (go w.counts.least (λ q. n (w.counts.budget x q))));
        })
      where
        k : Bank
        k = a.bank

        due : ℕ
        due = b.due k.store

        x₀ : Deed
        x₀ = (upcoming b due ch (look b (dev b k)) a.phase).deed

        d : Done b k (torn t x₀)
        d = (clean b k w.stands v due ch a.phase w.good.cut.apart w.ready).tears t

        e : current b (apply b (torn t x₀) k).store ≡ current b k.store
        e = ap (λ v. v.slot) d.same ∙ torn_slot b t x₀ (dev b k)

        go : N ≤ (current b k.store).core.ran → ((current b k.store).core.ran ≡ N → ⊥) → N < (current b k.store).core.ran
        go h q = omega arith

  module _ (N units : ℕ) (ch : Choice) (t : ℕ) where
    abbrev at_phase : Bank → At → Phase → At
    at_phase k m ph = record { bank = k; marks = m.marks; phase = ph; used = m.used; ran = m.ran }

    is_ended : (k : Bank) (m : At) (ph : Phase) → Whole N units 0 k ph → Onward N units (cut b (is_finished ph) ch t (at_phase k m ph)) (is_finished ph)
    is_ended k m restart w = is_cut N units ch t (at_phase k m restart) w (omega arith)
    is_ended k m (settle j c) w =
        is_cut N units ch t (at_phase k m (settle j c)) w
        (settle_positive (current b k.store).halt j (length (current b k.store).pairs) w.ready.1)
    is_ended k m (run s) w = is_cut N units ch t (at_phase k m (run s)) w (omega arith)
    is_ended k m (seal n s) w = is_cut N units ch t (at_phase k m (seal n s)) w (omega arith)
    is_ended k m finished w =
        let g = w.good in
        record {
          sound = record { stands = w.stands; cut = (g.from, g.leads, g.cut) };
          least = w.counts.least;
          ends = λ _. finishes k g;
          more = λ _. inl refl;
        }

  pub is_charged : (units t : ℕ) (ch : ℕ → Choice) (k : Bank) → Sound k →
      let a = spend b ch units (begin b k) in
      Onward (sealed k) units (cut b (is_finished a.phase) (ch units) t a) (is_finished a.phase)
  is_charged units t ch k h =
      let a = spend b ch units (begin b k) in
      let N = sealed k in
      is_ended N units (ch units) t a.bank a a.phase
      (whole_spend N units units ch (begin b k)
      (record {
        stands = h.stands;
        ready = tt;
        good = record { from = h.cut.0; leads = h.cut.1; cut = h.cut.2; fits = tt };
        counts = record { least = le_refl _; few = h.stands.valid.few; tally = tt; budget = λ x _. x };
      }))

  -- no charge and no take finds the store out of order
  pub sound_order : (k : Bank) → Sound k → in_order b k.store ≡ true
  sound_order k h = stands_test b k h.stands h.cut.2.apart

  -- a sealed output is the run's
  pub sealed_output : (k : Bank) → Sound k → (n : ℕ) → n < (current b k.store).core.sent → (n < end.core.sent) × (get_or k.log n 0 ≡ end.log n)
  sealed_output k h n lt = (
    le_trans below (subst (λ x. m.core.sent ≤ x.core.sent) h.cut.1.1 (after_sent b h.cut.1.0 m)),
    h.cut.2.log n below ∙ sym (after_log b h.cut.1.0 m n below) ∙ ap (λ x. x.log n) h.cut.1.1,
  )
    where
      m : State
      m = h.cut.0

      below : n < m.core.sent
      below = subst (λ c. n < c.sent) h.cut.2.core lt

  -- what is sealed is no more than the run has
  pub sealed_most : (k : Bank) → Sound k → sealed k ≤ end.core.ran
  sealed_most k h =
      let u = h.cut in
      subst (λ c. c.ran ≤ end.core.ran) (sym u.2.core)
      (subst (λ x. u.0.core.ran ≤ x.core.ran) u.1.1 (after_ran b u.1.0 u.0))
