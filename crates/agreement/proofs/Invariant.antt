-- The invariant of an intermittent run, kept by every tick and every cut.
use Rattle.std.proofs.Common.{◌≡◌, ℕ, zero, suc, ◌+◌, ◌<◌, Bool, true, false, not, ◌&&◌, ◌||◌, eqb, ltb, leb, ◌⊎◌, List, length, get_or, drop, is_some, sym, refl, ap, ◌∙◌, subst, inl, inr, le_refl, arith}
use Rattle.std.proofs.lemmas.List.{drop_more, drop_all}
use Rattle.std.proofs.lemmas.Bool.{eqb-true, and_parts, ltb-true, ltb-false, false≢true}
use Rattle.memory.specs.Lanes.{merged}
use Rattle.memory.specs.Contents.{put}
use Rattle.memory.proofs.Contents.{put_other}
use Rattle.section.specs.View.{Apart}
use Rattle.section.specs.Calls.{known}
use Rattle.std.proofs.lemmas.Option.{none-some}
use Rattle.section.proofs.Pairs.{held_at}
use Rattle.hart.specs.State.{next}
use Rattle.hart.specs.declared.state.Hart.{Hart}
use Rattle.machine.specs.Processor.{Effect, stop, quiet, load, store, emit, State, doing, step}
use Rattle.agreement.specs.Pairs.{Pair, seen_over, is_held}
use Rattle.agreement.specs.Board.{Board, Laws}
use Rattle.agreement.specs.Store.{slot_size}
use Rattle.agreement.specs.Turns.{Section, Phase, restart, settle, run, seal, finished, Choice, idle, torn, Turn, turn, sealed, begun, settling_on, settling, filling, sealing, later, with_pairs, loading, storing, refuses, holding_on, perform, working, upcoming}
use Rattle.agreement.proofs.Words.{merge_full}
use Rattle.agreement.proofs.Pairs.{apart_drop, seen_put, seen_settled, kept_holds, kept_apart}
use Rattle.agreement.proofs.Dead.{Stands, stands_over, stands_under}
use Rattle.agreement.proofs.Leads.{Leads, leads_step}
use Rattle.agreement.proofs.Running.{Running, fetched, written, quiet_runs, load_runs, load_enters, emit_runs, store_runs, store_holds}
use Rattle.agreement.proofs.Device.{Device, At, at, look, with_word, with_output, with_slot, applied, did}

-- what holds of a device at a cut, with m the committed state
pub record Cut (b : Board) (m : State) (d : Device) : Type 0 where
  pub core : d.slot.core ≡ m.core
  pub halt : (d.slot.halt ≡ 0) ⊎ (doing b.act m ≡ stop d.slot.halt)
  pub stands : Stands b m (seen_over d.words d.slot.pairs)
  pub apart : Apart d.slot.pairs
  pub log : (n : ℕ) → n < m.core.sent → d.log n ≡ m.log n

module _ (b : Board) (end : State) where
  abbrev pub Fits : State → Device → Phase → Type 0
  Fits m d restart = Unit {0}
  Fits m d (settle k c) = (c ≡ sealed d.slot) × (k < length d.slot.pairs) × Stands b m (seen_over d.words (drop k d.slot.pairs))
  Fits m d (run s) = (m' : State) × Leads b end m' × Running b m m' d s
  Fits m d (seal n s) = (m' : State) × Leads b end m' × Cut b m' (with_slot d s)
  Fits m d finished = Stands b m d.words × (doing b.act m ≡ stop d.slot.halt)

  pub record Good (a : At) : Type 0 where
    pub from : State
    pub leads : Leads b end from
    pub cut : Cut b from a.device
    pub fits : Fits from a.device a.phase

module _ (b : Board) (end : State) (z : ℕ) (stops : doing b.act end ≡ stop z) (g : Laws b) where
  -- all pairs are settled
  begins : (due : ℕ) (m : State) (d : Device) → Leads b end m → Cut b m d → Stands b m d.words →
      Good b end (at d (begun due d.slot.halt d.slot.core))
  begins due m d l c st = go d.slot.halt refl c.halt
    where
      go : (h : ℕ) → d.slot.halt ≡ h → (d.slot.halt ≡ 0) ⊎ (doing b.act m ≡ stop d.slot.halt) →
          Good b end (at d (begun due h d.slot.core))
      go zero e q =
          record {
            from = m;
            leads = l;
            cut = c;
            fits = (
              m,
              l,
              record {
                core = c.core;
                sees = st;
                stood = st;
                back = λ i k _ x. x;
                wrote = λ i k f. absurd (false≢true f);
                held = λ i w f. absurd (none-some w f);
                apart = tt;
                above = λ i f. absurd (false≢true f);
                log = c.log;
                sent = le_refl _;
              },
            );
          }
      go (suc y) e (inl q) = let k : ◌≡◌ {A = ℕ} 0 (suc y) = sym q ∙ e in let x : ⊥ = omega arith in absurd x
      go (suc y) e (inr q) = record { from = m; leads = l; cut = c; fits = (st, q) }

  -- k pairs are settled
  enters : (due k : ℕ) (m : State) (d : Device) → Leads b end m → Cut b m d → Stands b m (seen_over d.words (drop k d.slot.pairs)) →
      Good b end (at d (settling due k (sealed d.slot)))
  enters due k m d l c st = go (ltb k (length d.slot.pairs)) refl
    where
      go : (x : Bool) → ltb k (length d.slot.pairs) ≡ x → Good b end (at d (settling_on x due k (sealed d.slot)))
      go true e = record { from = m; leads = l; cut = c; fits = (refl, ltb-true k _ e, st) }
      go false e =
          begins due m d l c (subst (λ ps. Stands b m (seen_over d.words ps)) (drop_all k d.slot.pairs (ltb-false k _ e)) st)

  module _ (m₀ m : State) (l₀ : Leads b end m₀) (l : Leads b end m) (d : Device) (s : Section) (c : Cut b m₀ d) (r : Running b m₀ m d s) where
    goes : (d' : Device) (s' : Section) → Cut b m₀ d' → Running b m₀ (step b.act m) d' s' → Good b end (at d' (run s'))
    goes d' s' c' r' = record { from = m₀; leads = l₀; cut = c'; fits = (step b.act m, leads_step b end m z stops l, r') }

    seals : (h : ℕ) → (h ≡ 0) ⊎ (doing b.act m ≡ stop h) → Good b end (did d (sealing s h))
    seals h q =
        record {
          from = m₀;
          leads = l₀;
          cut = c;
          fits = (m, l, record { core = r.core; halt = q; stands = r.sees; apart = r.apart; log = r.log });
        }

    -- the words that a write outside the read-first set leaves keep the cut, whatever word it has
    put_cut : (i lanes w t : ℕ) (h : Hart) → doing b.act m ≡ store i lanes w h → s.view.reads i ≡ false →
        Cut b m₀ (with_word d i (merged (d.words i) t lanes))
    put_cut i lanes w t h e out =
        record {
          core = c.core;
          halt = c.halt;
          stands = stands_under b m₀ d.words i _ d.slot.pairs c.stands (written b m₀ m d s r i lanes w h t e out);
          apart = c.apart;
          log = c.log;
        }

    log_cut : (t : ℕ) → Cut b m₀ (with_output d s.core.sent t)
    log_cut t =
        record {
          core = c.core;
          halt = c.halt;
          stands = c.stands;
          apart = c.apart;
          log = λ n h. put_other d.log s.core.sent t n
              (λ e. let q : s.core.sent ≡ m.core.sent = ap (λ x. x.sent) r.core in omega (arith, r.sent)) ∙ c.log n h;
        }

    -- what a turn must give: the invariant after it, and the cut after it was torn
    abbrev Fair : Turn → Type 0
    Fair t = Good b end (did d t) × ((w : ℕ) → Cut b m₀ (applied (torn w t.deed) d))

    performs : (ch : Choice) (a : Effect) → doing b.act m ≡ a → Fair (perform b ch d.words s a)
    performs ch (stop y) e = (seals y (inr e), λ _. c)
    performs ch (quiet h) e = (goes d _ c (quiet_runs b m₀ m d s r h e), λ _. c)
    performs ch (load i f) e = go (known s.view i) refl (refuses ch.refuse s.view.reads)
      where
        go : (k : Bool) → known s.view i ≡ k → (x : Bool) →
            Fair (loading k x s i (next s.core (f (seen_over d.words s.view.pairs i))))
        go true q x = (goes d _ c (load_runs b m₀ m d s r i f e q), λ _. c)
        go false q true = (seals 0 (inl refl), λ _. c)
        go false q false = (goes d _ c (load_enters b m₀ m d s r g i f e), λ _. c)
    performs ch (store i lanes w h) e =
        go (s.view.reads i) refl (is_held s.view.pairs i) (ch.refuse || not (leb (length ps) b.most))
        (ch.gain && eqb lanes 15) (λ q. eqb-true lanes 15 (and_parts ch.gain (eqb lanes 15) q).1)
      where
        v : ℕ
        v = merged (seen_over d.words s.view.pairs i) w lanes

        ps : List Pair
        ps = holding_on b ch s i v

        keeps : s.view.reads i ≡ true → Fair (turn idle (run (later s (next s.core h) (with_pairs s.view ps))))
        keeps q = (
          goes d _ c (store_holds b m₀ m d s r i lanes w h ps e q (kept_holds b.most ch.pairs i v s.view.pairs)
              (kept_apart b.most ch.pairs i v s.view.pairs r.apart)),
          λ _. c,
        )

        go : (x : Bool) → s.view.reads i ≡ x → (y n g : Bool) → (g ≡ true → lanes ≡ 15) →
            Fair (storing x y n g ps s i lanes w (next s.core h))
        go false q y n g whole =
            (goes _ _ (put_cut i lanes w w h e q) (store_runs b m₀ m d s r i lanes w h g e q whole), λ t. put_cut i lanes w t h e q)
        go true q true n g whole = keeps q
        go true q false true g whole = (seals 0 (inl refl), λ _. c)
        go true q false false g whole = keeps q
    performs ch (emit w h) e = (goes _ _ (log_cut w) (emit_runs b m₀ m d s r w h e), λ t. log_cut t)

    works : (x : Bool) (ch : Choice) → Fair (working b x ch d.words s (b.act d.words s.core))
    works true ch = (seals 0 (inl refl), λ _. c)
    works false ch = subst (λ a. Fair (perform b ch d.words s a)) (sym (fetched b m₀ m d s r g)) (performs ch (doing b.act m) refl)

  abbrev pub Cuts : Device → Type 0
  Cuts d = (m : State) × Leads b end m × Cut b m d

  -- the pair that is settled next
  module _ (d : Device) (m : State) (c : Cut b m d) (k : ℕ) (low : k < length d.slot.pairs) where
    abbrev pair : Pair
    pair = get_or d.slot.pairs k (0, 0)

    is_there : is_held d.slot.pairs pair.0 ≡ true
    is_there = ap is_some (held_at d.slot.pairs pair.0 k c.apart low refl)

    -- its put, whatever its word, leaves the cut
    settle_cut : (w : ℕ) → Cut b m (with_word d pair.0 w)
    settle_cut w =
        record {
          core = c.core;
          halt = c.halt;
          stands = stands_over b m _ _ (λ j. seen_put d.words pair.0 w d.slot.pairs j is_there) c.stands;
          apart = c.apart;
          log = c.log;
        }

    -- with its own word it is seen as while it was held
    settle_seen : Stands b m (seen_over d.words (drop k d.slot.pairs)) →
        Stands b m (seen_over (put d.words pair.0 pair.1) (drop (k + 1) d.slot.pairs))
    settle_seen st =
        let e = drop_more d.slot.pairs k (0, 0) low in
        let free = (subst Apart e (apart_drop k d.slot.pairs c.apart)).0 in
        stands_over b m _ _ (λ j. seen_settled d.words pair (drop (k + 1) d.slot.pairs) j free)
        (subst (λ ps. Stands b m (seen_over d.words ps)) e st)

  -- every turn keeps the invariant
  pub ticked : (due : ℕ) (ch : Choice) (d : Device) (ph : Phase) → Good b end (at d ph) → Good b end (did d (upcoming b due ch (look b d) ph))
  ticked due ch d restart g = enters due 0 g.from d g.leads g.cut g.cut.stands
  ticked due ch d (settle k c) g =
      let p = get_or d.slot.pairs k (0, 0) in
      let d' = with_word d p.0 (merged (d.words p.0) p.1 15) in
      let f = g.fits in
      subst (λ x. Good b end (at d' (settling due (k + 1) x))) (sym f.0)
      (enters due (k + 1) g.from d' g.leads (settle_cut d g.from g.cut k f.1 _)
      (rw (merge_full (d.words p.0) p.1) (settle_seen d g.from g.cut k f.1 f.2)))
  ticked due ch d (run s) g =
      (works g.from g.fits.0 g.leads g.fits.1 d s g.cut g.fits.2 (eqb s.ran s.due) ch).0
  ticked due ch d (seal k s) g = go (ltb k (slot_size s))
    where
      go : (x : Bool) → Good b end (did d (filling due x k s))
      go true = record { from = g.from; leads = g.leads; cut = g.cut; fits = g.fits }
      go false = enters due 0 g.fits.0 (with_slot d s) g.fits.1 g.fits.2 g.fits.2.stands
  ticked due ch d finished g = g

  -- and every torn turn, with the cut after it
  pub cuts : (due : ℕ) (ch : Choice) (t : ℕ) (d : Device) (ph : Phase) → Good b end (at d ph) →
      Cuts (applied (torn t (upcoming b due ch (look b d) ph).deed) d)
  cuts due ch t d restart g = (g.from, g.leads, g.cut)
  cuts due ch t d (settle k c) g = (g.from, g.leads, settle_cut d g.from g.cut k g.fits.1 _)
  cuts due ch t d (run s) g = (
    g.from,
    g.leads,
    (works g.from g.fits.0 g.leads g.fits.1 d s g.cut g.fits.2 (eqb s.ran s.due) ch).1 t,
  )
  cuts due ch t d (seal k s) g = go (ltb k (slot_size s))
    where
      go : (x : Bool) → Cuts (applied (torn t (filling due x k s).deed) d)
      go true = (g.from, g.leads, g.cut)
      go false = (g.from, g.leads, g.cut)
  cuts due ch t d finished g = (g.from, g.leads, g.cut)
