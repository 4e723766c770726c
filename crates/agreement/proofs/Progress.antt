-- Progress: a sufficient charge finishes, or seals at least one more instruction.
use Rattle.std.proofs.Common.{◌≡◌, ℕ, zero, suc, ◌+◌, ◌-◌, ◌*◌, ◌<◌, ◌≤◌, Bool, true, false, not, ◌&&◌, ◌||◌, eqb, ltb, leb, List, length, get_or, sym, refl, ap, ◌∙◌, subst, zero-le, arith}
use Rattle.std.proofs.lemmas.Bool.{eqb-true, eqb-false, ltb-true, ltb-false, leb-true, or_parts, not-false, false≢true}
use Rattle.memory.specs.Lanes.{merged}
use Rattle.section.specs.Calls.{known, with_read}
use Rattle.hart.specs.State.{next, next_sent}
use Rattle.hart.specs.declared.state.Core.{Core}
use Rattle.machine.specs.Processor.{Effect, stop, quiet, load, store, emit}
use Rattle.agreement.specs.Pairs.{Pair, seen_over, is_held}
use Rattle.agreement.specs.Board.{Lawful, Board, Laws}
use Rattle.agreement.specs.Store.{Slot, slot_size}
use Rattle.agreement.specs.Turns.{Section, Phase, restart, settle, run, seal, finished, Choice, Deed, idle, write, output, fill, commit, torn, turn, sealed, begun, settling_on, settling, filling, sealing, later, with_write, with_pairs, loading, storing, refuses, holding_on, perform, working, upcoming}
use Rattle.agreement.proofs.Pairs.{kept_few, inhabited_in}
use Rattle.agreement.proofs.Device.{Device, At, at, look, with_word, with_output, with_slot, applied, did}

-- the units that suffice
abbrev pub full : Board → ℕ
full b = 38 + b.period + 4 * b.most

pub record TallyRun (b : Board) (d : Device) (s : Section) : Type 0 where
  pub counted : d.slot.core.ran + s.ran ≡ s.core.ran
  pub within : s.ran ≤ s.due
  pub beats : 0 < s.due
  pub longest : s.due ≤ b.period
  pub pairs : length s.view.pairs ≤ b.most
  pub marked : (i : ℕ) → s.view.reads i ≡ true → 0 < s.ran

pub record TallySeal (b : Board) (d : Device) (s : Slot) : Type 0 where
  pub pairs : length s.pairs ≤ b.most
  pub onward : d.slot.core.ran ≤ s.core.ran
  pub further : s.halt ≡ 0 → d.slot.core.ran < s.core.ran

module _ (b : Board) where
  abbrev pub Tally : Device → Phase → Type 0
  Tally d restart = Unit {0}
  Tally d (settle k c) = (c ≡ sealed d.slot) × (k < length d.slot.pairs)
  Tally d (run s) = TallyRun b d s
  Tally d (seal n s) = TallySeal b d s
  Tally d finished = Unit {0}

  abbrev pub settle_need : ℕ → ℕ → ℕ
  settle_need zero n = n + (37 + b.period + 3 * b.most)
  settle_need (suc z) n = n

  -- ticks that suffice to finish or to seal one more instruction
  abbrev pub need : Device → Phase → ℕ
  need d restart = full b
  need d (settle k c) = settle_need d.slot.halt (length d.slot.pairs - k)
  need d (run s) = (s.due - s.ran) + (37 + 3 * b.most)
  need d (seal k s) = (slot_size s - k) + 1 + length s.pairs
  need d finished = 0

  pub record Counts (N U n : ℕ) (a : At) : Type 0 where
    pub least : N ≤ a.device.slot.core.ran
    pub few : length a.device.slot.pairs ≤ b.most
    pub tally : Tally a.device a.phase
    pub budget : full b ≤ U → a.device.slot.core.ran ≡ N → need a.device a.phase ≤ n

  module _ (N U n : ℕ) where
    module _ (due : ℕ) (beats : 0 < due) (longest : due ≤ b.period) (d : Device) (l : N ≤ d.slot.core.ran)
        (f : length d.slot.pairs ≤ b.most) where
      begins : (full b ≤ U → d.slot.core.ran ≡ N → settle_need d.slot.halt 0 ≤ n) →
          Counts N U n (at d (begun due d.slot.halt d.slot.core))
      begins = go d.slot.halt
        where
          go : (h : ℕ) → (full b ≤ U → d.slot.core.ran ≡ N → settle_need h 0 ≤ n) → Counts N U n (at d (begun due h d.slot.core))
          go zero q =
              record {
                least = l;
                few = f;
                tally = record { counted = omega arith; within = zero-le; beats = beats; longest = longest; pairs = zero-le; marked = λ i x. absurd (false≢true x) };
                budget = λ x y. let k = q x y in omega arith;
              }
          go (suc z) q = record { least = l; few = f; tally = tt; budget = λ x y. zero-le }

      -- k pairs are settled
      enters : (k : ℕ) → (full b ≤ U → d.slot.core.ran ≡ N → settle_need d.slot.halt (length d.slot.pairs - k) ≤ n) →
          Counts N U n (at d (settling due k (sealed d.slot)))
      enters k q = go (ltb k (length d.slot.pairs)) refl
        where
          go : (x : Bool) → ltb k (length d.slot.pairs) ≡ x → Counts N U n (at d (settling_on x due k (sealed d.slot)))
          go true e = record { least = l; few = f; tally = (refl, ltb-true k _ e); budget = q }
          go false e =
              let h = ltb-false k _ e in
              let z : length d.slot.pairs - k ≡ 0 = omega arith in
              begins (λ x y. subst (λ n'. settle_need d.slot.halt n' ≤ n) z (q x y))

    -- one more instruction of the section
    goes : (d d' : Device) (s s' : Section) → d'.slot ≡ d.slot → TallyRun b d s → (s.ran ≡ s.due → ⊥) →
        N ≤ d.slot.core.ran → length d.slot.pairs ≤ b.most →
        (full b ≤ U → d.slot.core.ran ≡ N → need d (run s) ≤ suc n) →
        s'.ran ≡ (s.ran + 1) → s'.due ≡ s.due → s'.core.ran ≡ (s.core.ran + 1) → length s'.view.pairs ≤ b.most →
        Counts N U n (at d' (run s'))
    goes d d' s s' e t due l f q r same c h =
        let e' : d'.slot.core.ran ≡ d.slot.core.ran = ap (λ x. x.core.ran) e in
        let f' : length d'.slot.pairs ≡ length d.slot.pairs = ap (λ x. length x.pairs) e in
        let w = t.within in let k = t.counted in let lo = t.beats in let hi = t.longest in
        record {
          least = omega arith;
          few = omega arith;
          tally = record { counted = omega arith; within = omega arith; beats = omega arith; longest = omega arith; pairs = h; marked = λ _ _. omega arith };
          budget = λ x y. let k = q x (sym e' ∙ y) in omega arith;
        }

    seals : (d : Device) (s : Section) (z : ℕ) → TallyRun b d s → (z ≡ 0 → 0 < s.ran) →
        N ≤ d.slot.core.ran → length d.slot.pairs ≤ b.most →
        (full b ≤ U → d.slot.core.ran ≡ N → need d (run s) ≤ suc n) → Counts N U n (did d (sealing s z))
    seals d s z t o l f q =
        let k = t.counted in let p = t.pairs in let w = t.within in
        record {
          least = l;
          few = f;
          tally = record { pairs = t.pairs; onward = omega arith; further = λ e. let x = o e in omega arith };
          budget = λ x y. let k = q x y in omega arith;
        }

  module _ (N U n : ℕ) (d : Device) (s : Section) (t : TallyRun b d s) (l : N ≤ d.slot.core.ran)
      (f : length d.slot.pairs ≤ b.most) (q : full b ≤ U → d.slot.core.ran ≡ N → need d (run s) ≤ suc n) where
    performs : (due : s.ran ≡ s.due → ⊥) (ch : Choice) (a : Effect) → Lawful b.text b.size b.room s.core a → Counts N U n (did d (perform b ch d.words s a))
    performs due ch (stop z) g = seals N U n d s z t (λ e. let p = g.0 in omega arith) l f q
    performs due ch (quiet h) g = goes N U n d d s (later s (next s.core h) s.view) refl t due l f q refl refl refl t.pairs
    performs due ch (load i f') g = go (known s.view i) (refuses ch.refuse s.view.reads) refl
      where
        c : Core
        c = next s.core (f' (seen_over d.words s.view.pairs i))

        some : (x : Bool) → refuses x s.view.reads ≡ true → 0 < s.ran
        some true e = let j = inhabited_in s.view.reads e in t.marked j.0 j.1
        some false e = absurd (false≢true e)

        go : (k x : Bool) → refuses ch.refuse s.view.reads ≡ x → Counts N U n (did d (loading k x s i c))
        go true x e = goes N U n d d s (later s c s.view) refl t due l f q refl refl refl t.pairs
        go false true e = seals N U n d s 0 t (λ _. some ch.refuse e) l f q
        go false false e = goes N U n d d s (later s c (with_read s.view i)) refl t due l f q refl refl refl t.pairs
    performs due ch (store i lanes w h) g =
        go (s.view.reads i) refl (is_held s.view.pairs i) refl (ch.refuse || not (leb (length ps) b.most)) refl
      where
        c : Core
        c = next s.core h

        v : ℕ
        v = merged (seen_over d.words s.view.pairs i) w lanes

        ps : List Pair
        ps = holding_on b ch s i v

        gains : Bool
        gains = ch.gain && eqb lanes 15

        keeps : length ps ≤ b.most → Counts N U n (did d (turn idle (run (later s c (with_pairs s.view ps)))))
        keeps few = goes N U n d d s (later s c (with_pairs s.view ps)) refl t due l f q refl refl refl few

        go : (x : Bool) → s.view.reads i ≡ x → (y : Bool) → is_held s.view.pairs i ≡ y → (r : Bool) → (ch.refuse || not (leb (length ps) b.most)) ≡ r →
            Counts N U n (did d (storing x y r gains ps s i lanes w c))
        go false e y k r o = goes N U n d (with_word d i (merged (d.words i) w lanes)) s (later s c (with_write s.view gains i)) refl t due l f q refl refl refl t.pairs
        go true e true k r o =
            keeps (kept_few b.most ch.pairs i v s.view.pairs k t.pairs)
        go true e false k true o = seals N U n d s 0 t (λ _. t.marked i e) l f q
        go true e false k false o =
            keeps (leb-true (length ps) b.most (not-false _ (or_parts ch.refuse (not (leb (length ps) b.most)) o).1))
    performs due ch (emit w h) g =
        goes N U n d (with_output d s.core.sent w) s (later s (next_sent s.core h) s.view) refl t due l f q refl refl refl t.pairs

    works : Laws b → (x : Bool) → eqb s.ran s.due ≡ x → (ch : Choice) → Counts N U n (did d (working b x ch d.words s (b.act d.words s.core)))
    works w true e ch = seals N U n d s 0 t (λ _. let k = eqb-true s.ran s.due e in let p = t.beats in omega arith) l f q
    works w false e ch = performs (eqb-false s.ran s.due e) ch (b.act d.words s.core) (w.lawful d.words s.core)

  settled_need : (h k m : ℕ) → settle_need h (suc k) ≤ suc m → settle_need h k ≤ m
  settled_need zero k m q = omega arith
  settled_need (suc z) k m q = omega arith

  restart_need : (h k m : ℕ) → k ≤ b.most → full b ≤ suc m → settle_need h k ≤ m
  restart_need zero k m p q = omega arith
  restart_need (suc z) k m p q = omega arith

  halted_need : (h k m : ℕ) → (h ≡ 0 → ⊥) → k ≤ m → settle_need h k ≤ m
  halted_need zero k m p q = absurd (p refl)
  halted_need (suc z) k m p q = q

  pub ticked : Laws b → (due : ℕ) → 0 < due → due ≤ b.period → (N U n : ℕ) (ch : Choice) (d : Device) (ph : Phase) →
      Counts N U (suc n) (at d ph) → Counts N U n (did d (upcoming b due ch (look b d) ph))
  ticked w due beats longest N U n ch d restart c =
      enters N U n due beats longest d c.least c.few 0
      (λ x y. restart_need d.slot.halt (length d.slot.pairs - 0) n (let f = c.few in omega arith) (c.budget x y))
  ticked w due beats longest N U n ch d (settle k s) c =
      let p = get_or d.slot.pairs k (0, 0) in
      let d' = with_word d p.0 (merged (d.words p.0) p.1 15) in
      let t = c.tally in
      subst (λ x. Counts N U n (at d' (settling due (k + 1) x))) (sym t.0)
      (enters N U n due beats longest d' c.least c.few (k + 1)
      (λ x y.
      let e : length d.slot.pairs - k ≡ suc (length d.slot.pairs - (k + 1)) = omega (arith, t.1) in
      settled_need d.slot.halt (length d.slot.pairs - (k + 1)) n (subst (λ m. settle_need d.slot.halt m ≤ suc n) e (c.budget x y))))
  ticked w due beats longest N U n ch d (run s) c = works N U n d s c.tally c.least c.few c.budget w (eqb s.ran s.due) refl ch
  ticked w due beats longest N U n ch d (seal k s) c = go (ltb k (slot_size s)) refl
    where
      go : (x : Bool) → ltb k (slot_size s) ≡ x → Counts N U n (did d (filling due x k s))
      go true e =
          let l = ltb-true k (slot_size s) e in
          record { least = c.least; few = c.few; tally = c.tally; budget = λ x y. let q = c.budget x y in omega arith }
      go false e =
          let o = c.tally.onward in let l = c.least in
          enters N U n due beats longest (with_slot d s) (omega arith) c.tally.pairs 0
          (λ x y.
          let same : d.slot.core.ran ≡ N = omega arith in
          let k = c.budget x same in
          halted_need s.halt (length s.pairs - 0) n (λ e. let g = c.tally.further e in omega arith) (omega arith))
  ticked w due beats longest N U n ch d finished c = record { least = c.least; few = c.few; tally = tt; budget = λ x y. zero-le }

  -- a torn deed leaves the current slot
  pub torn_slot : (t : ℕ) (x : Deed) (d : Device) → (applied (torn t x) d).slot ≡ d.slot
  torn_slot t idle d = refl
  torn_slot t (write i lanes w) d = refl
  torn_slot t (output n w) d = refl
  torn_slot t (fill k w) d = refl
  torn_slot t (commit s) d = refl
