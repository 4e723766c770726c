-- A byte is dead in a state if the run from there writes it before it reads its word.
use Rattle.std.proofs.Common.{◌≡◌, ℕ, ◌≤◌, true, false, ◌⊎◌, List, sym, refl, ap, ◌∙◌, subst, inl, inr, ⊎_elim}
use Rattle.std.proofs.lemmas.Bool.{cases_eq, cases_Bool, both_ways}
use Rattle.memory.specs.Lanes.{Lane, byte, names, merged}
use Rattle.memory.specs.Contents.{Mem, put}
use Rattle.memory.proofs.Contents.{put_same, put_other}
use Rattle.hart.specs.declared.state.Core.{Core}
use Rattle.machine.specs.Processor.{Effect, stop, quiet, load, store, emit, State, enact, doing, step}
use Rattle.agreement.specs.Pairs.{Pair, seen_over, is_held}
use Rattle.agreement.specs.Board.{Lawful, Board, Laws}
use Rattle.agreement.proofs.Words.{same, merge_in, merge_out}
use Rattle.agreement.proofs.Pairs.{none_held, seen_put, seen_under}

-- what an effect reads of the data, and which bytes it writes
abbrev pub Loads : ℕ → Effect → Type 0
Loads i (stop z) = ⊥
Loads i (quiet h) = ⊥
Loads i (load j f) = i ≡ j
Loads i (store j lanes w h) = ⊥
Loads i (emit w h) = ⊥

abbrev pub Covers : ℕ → Lane → Effect → Type 0
Covers i k (stop z) = ⊥
Covers i k (quiet h) = ⊥
Covers i k (load j f) = ⊥
Covers i k (store j lanes w h) = (i ≡ j) × (names lanes k ≡ true)
Covers i k (emit w h) = ⊥

pub data Dead (b : Board) (i : ℕ) (k : Lane) : State → Type 0 where
  hit : {m : State} → Covers i k (doing b.act m) → Dead b i k m
  miss : {m : State} → (Loads i (doing b.act m) → ⊥) → Dead b i k (step b.act m) → Dead b i k m

clash : (i : ℕ) (k : Lane) (a : Effect) → Covers i k a → Loads i a → ⊥
clash i k (stop z) c l = c
clash i k (quiet h) c l = c
clash i k (load j f) c l = c
clash i k (store j lanes w h) c l = l
clash i k (emit w h) c l = c

above : (T W C i : ℕ) (k : Lane) (c : Core) (a : Effect) → Lawful T W C c a → Covers i k a → T ≤ i
above T W C i k c₀ (stop z) g c = absurd c
above T W C i k c₀ (quiet h) g c = absurd c
above T W C i k c₀ (load j f) g c = absurd c
above T W C i k c₀ (store j lanes w h) g c = rw c.0 g.0
above T W C i k c₀ (emit w h) g c = absurd c

module _ (b : Board) where
  pub step_is : (m : State) (a : Effect) → doing b.act m ≡ a → step b.act m ≡ enact m a
  unfolding step
  step_is m a e = ap (enact m) e

  pub dead_loads : {i : ℕ} {k : Lane} {m : State} → Dead b i k m → Loads i (doing b.act m) → ⊥
  dead_loads {i} {k} {m} (hit c) l = clash i k (doing b.act m) c l
  dead_loads (miss n d) l = n l

  pub dead_step : {i : ℕ} {k : Lane} {m : State} → Dead b i k m → (Covers i k (doing b.act m) → ⊥) → Dead b i k (step b.act m)
  dead_step (hit c) n = absurd (n c)
  dead_step (miss l d) n = d

  pub dead_stop : {i : ℕ} {k : Lane} {m : State} (z : ℕ) → Dead b i k m → doing b.act m ≡ stop z → ⊥
  dead_stop {i} {k} z (hit c) e = subst (Covers i k) e c
  dead_stop {m = m} z (miss l d) e = dead_stop z d (ap (doing b.act) (step_is m (stop z) e) ∙ e)

  pub dead_above : {i : ℕ} {k : Lane} {m : State} → Laws b → Dead b i k m → b.text ≤ i
  dead_above {i} {k} {m} g (hit c) = above b.text b.size b.room i k m.core (doing b.act m) (g.lawful m.mem m.core) c
  dead_above g (miss l d) = dead_above g d

  -- each byte of w is that of word i, or dead
  abbrev pub Ok : State → ℕ → ℕ → Type 0
  Ok m i w = (k : Lane) → (byte w k ≡ byte (m.mem i) k) ⊎ Dead b i k m

  abbrev pub Stands : State → Mem → Type 0
  Stands m ws = (i : ℕ) → Ok m i (ws i)

  pub ok_same : {m : State} {i w : ℕ} → Ok m i w → ((k : Lane) → Dead b i k m → ⊥) → w ≡ m.mem i
  ok_same {m} {i} {w} h n = same w (m.mem i) (λ k. go k (h k))
    where
      go : (k : Lane) → (byte w k ≡ byte (m.mem i) k) ⊎ Dead b i k m → byte w k ≡ byte (m.mem i) k
      go k (inl e) = e
      go k (inr d) = absurd (n k d)

  pub stands_put : (m : State) (ws : Mem) (i w : ℕ) → Stands m ws → Ok m i w → Stands m (put ws i w)
  stands_put m ws i w h g j = go (cases_eq j i)
    where
      go : (j ≡ i) ⊎ (j ≡ i → ⊥) → Ok m j (put ws i w j)
      go (inl e) = subst (λ n. Ok m n (put ws i w n)) (sym e) (rw (put_same ws i w) g)
      go (inr n) = rw (put_other ws i w j n) (h j)

  pub stands_over : (m : State) (ws ws' : Mem) → ((i : ℕ) → ws' i ≡ ws i) → Stands m ws → Stands m ws'
  stands_over m ws ws' e h i = rw (e i) (h i)

  -- a put under the pairs that are held back
  pub stands_under : (m : State) (ws : Mem) (i w : ℕ) (ps : List Pair) → Stands m (seen_over ws ps) → Ok m i w →
      Stands m (seen_over (put ws i w) ps)
  stands_under m ws i w ps h g =
      ⊎_elim (λ e. stands_over m (seen_over ws ps) (seen_over (put ws i w) ps) (λ j. seen_put ws i w ps j e) h)
      (λ e. stands_over m (put (seen_over ws ps) i w) (seen_over (put ws i w) ps) (λ j. seen_under ws i w ps j (none_held ps i e))
      (stands_put m (seen_over ws ps) i w h g))
      (cases_Bool (is_held ps i))

  -- what an action does to the words that are seen
  abbrev pub effect : Mem → Effect → Mem
  effect ws (stop z) = ws
  effect ws (quiet h) = ws
  effect ws (load i f) = ws
  effect ws (store i lanes w h) = put ws i (merged (ws i) w lanes)
  effect ws (emit w h) = ws

  ok_kept : (m : State) (i w : ℕ) → Ok m i w → (step b.act m).mem i ≡ m.mem i → ((k : Lane) → Covers i k (doing b.act m) → ⊥) →
      Ok (step b.act m) i w
  ok_kept m i w h e n k = go (h k)
    where
      go : (byte w k ≡ byte (m.mem i) k) ⊎ Dead b i k m → (byte w k ≡ byte ((step b.act m).mem i) k) ⊎ Dead b i k (step b.act m)
      go (inl q) = inl (q ∙ ap (λ x. byte x k) (sym e))
      go (inr d) = inr (dead_step d (n k))

  ok_merged : (m : State) (i w lanes v : ℕ) → Ok m i w → (step b.act m).mem i ≡ merged (m.mem i) v lanes →
      ((k : Lane) → names lanes k ≡ false → Covers i k (doing b.act m) → ⊥) → Ok (step b.act m) i (merged w v lanes)
  ok_merged m i w lanes v h e n k = go (cases_Bool (names lanes k)) (h k)
    where
      go : (names lanes k ≡ true) ⊎ (names lanes k ≡ false) → (byte w k ≡ byte (m.mem i) k) ⊎ Dead b i k m →
          (byte (merged w v lanes) k ≡ byte ((step b.act m).mem i) k) ⊎ Dead b i k (step b.act m)
      go (inl t) q = inl (merge_in lanes w v k t ∙ sym (merge_in lanes (m.mem i) v k t) ∙ ap (λ x. byte x k) (sym e))
      go (inr t) (inl q) =
          inl (merge_out lanes w v k t ∙ q ∙ sym (merge_out lanes (m.mem i) v k t) ∙ ap (λ x. byte x k) (sym e))
      go (inr t) (inr d) = inr (dead_step d (n k t))

  -- an action that writes no word
  stands_plain : (m : State) (ws : Mem) (a : Effect) → doing b.act m ≡ a → (enact m a).mem ≡ m.mem →
      ((i : ℕ) (k : Lane) → Covers i k a → ⊥) → Stands m ws → Stands (step b.act m) ws
  stands_plain m ws a e q n h i =
      ok_kept m i (ws i) (h i) (ap (λ s. s.mem i) (step_is m a e) ∙ ap (λ (x : Mem). x i) q)
      (λ k. subst (λ x. Covers i k x → ⊥) (sym e) (n i k))

  pub stands_step : (m : State) (ws : Mem) (a : Effect) → doing b.act m ≡ a → Stands m ws → Stands (step b.act m) (effect ws a)
  stands_step m ws (stop z) e h i = stands_plain m ws (stop z) e refl (λ _ _ c. c) h i
  stands_step m ws (quiet g) e h i = stands_plain m ws (quiet g) e refl (λ _ _ c. c) h i
  stands_step m ws (load j f) e h i = stands_plain m ws (load j f) e refl (λ _ _ c. c) h i
  stands_step m ws (emit w g) e h i = stands_plain m ws (emit w g) e refl (λ _ _ c. c) h i
  stands_step m ws (store j lanes w g) e h i = go (cases_eq i j)
    where
      e' : (n : ℕ) → (step b.act m).mem n ≡ put m.mem j (merged (m.mem j) w lanes) n
      e' n = ap (λ s. s.mem n) (step_is m (store j lanes w g) e)

      here : Ok (step b.act m) j (put ws j (merged (ws j) w lanes) j)
      here =
          rw (put_same ws j (merged (ws j) w lanes))
          (ok_merged m j (ws j) lanes w (h j) (e' j ∙ put_same m.mem j (merged (m.mem j) w lanes))
          (λ k t. subst (λ x. Covers j k x → ⊥) (sym e) (λ c. both_ways (names lanes k) t c.1)))

      go : (i ≡ j) ⊎ (i ≡ j → ⊥) → Ok (step b.act m) i (put ws j (merged (ws j) w lanes) i)
      go (inl q) = subst (λ n. Ok (step b.act m) n (put ws j (merged (ws j) w lanes) n)) (sym q) here
      go (inr q) =
          rw (put_other ws j (merged (ws j) w lanes) i q)
          (ok_kept m i (ws i) (h i) (e' i ∙ put_other m.mem j (merged (m.mem j) w lanes) i q)
          (λ k. subst (λ x. Covers i k x → ⊥) (sym e) (λ c. q c.0)))
