-- From loops to charges and lists of calls.
use Rattle.std.proofs.Common.{◌≡◌, ℕ, zero, suc, ◌+◌, ◌-◌, ◌<◌, false, cond, ltb, List, [], ◌∷◌, ◌++◌, length, sym, refl, ap, ◌∙◌, subst, arith}
use Rattle.std.proofs.lemmas.Bool.{lt-ltb, le-ltb, cond-true, cond-false}
use Rattle.section.specs.View.{fresh}
use Rattle.agreement.specs.Board.{Board}
use Rattle.agreement.specs.Turns.{Choice, finished}
use Rattle.agreement.specs.Charge.{Bank, At, tick, spend}
use Rattle.agreement.specs.Calls.{Kind, Runner, Reply, Call, call, History, play}
use Rattle.agreement.specs.Agreement.{Agrees}
use Rattle.agreement.specs.Loops as loops
use Rattle.agreement.specs.Loops.{Ticked, TicksAreSpent, FinishIsSpent, Made, MadeAgree}
use Rattle.agreement.proofs.Charges.{spend_more}
use Rattle.agreement.proofs.Agreement.{agreement}

any_choice : Choice
any_choice = record { refuse = false; gain = false; pairs = []; marks = fresh }

-- choices below n as before, and from n on another
then : {A : Type 0} → ℕ → (ℕ → A) → A → ℕ → A
then n f x k = cond (ltb k n) (f k) x

then_before : {A : Type 0} (n : ℕ) (f : ℕ → A) (x : A) (k : ℕ) → k < n → then n f x k ≡ f k
unfolding then
then_before n f x k h = cond-true (ltb k n) (f k) x (lt-ltb k n h)

then_at : {A : Type 0} (n : ℕ) (f : ℕ → A) (x : A) → then n f x n ≡ x
unfolding then
then_at n f x = cond-false (ltb n n) (f n) x (le-ltb n n (omega arith))

module _ (b : Board) where
  spend_last : (ch : ℕ → Choice) (n : ℕ) (a : At) → spend b ch (suc n) a ≡ tick b (ch n) (spend b ch n a)
  unfolding spend
  spend_last ch zero a = refl
  spend_last ch (suc n) a = spend_last (λ k. ch (suc k)) n (tick b (ch zero) a)

  spend_cong : (ch ch' : ℕ → Choice) (n : ℕ) (a : At) → ((k : ℕ) → k < n → ch k ≡ ch' k) → spend b ch n a ≡ spend b ch' n a
  unfolding spend
  spend_cong ch ch' zero a h = refl
  spend_cong ch ch' (suc n) a h =
      spend_cong (λ k. ch (suc k)) (λ k. ch' (suc k)) n (tick b (ch zero) a) (λ k q. h (suc k) (omega arith))
      ∙ ap (λ c. spend b (λ k. ch' (suc k)) n (tick b c a)) (h zero (omega arith))

  spent : {a a' : At} {n : ℕ} → Ticked b a n a' → (ch : ℕ → Choice) × (spend b ch n a ≡ a')
  unfolding spend
  spent loops.Ticked.none = ((λ k. any_choice), refl)
  spent {a} (loops.Ticked.more {n} {a'} r c) =
      let p = spent r in
      let ch = then n p.0 c in (
        ch,
        spend_last ch n a ∙ ap (λ x. tick b x (spend b ch n a)) (then_at n p.0 c)
            ∙ ap (tick b c) (spend_cong ch p.0 n a (then_before n p.0 c) ∙ p.1),
      )

pub ticks_are_spent : TicksAreSpent
ticks_are_spent b a a' n last t =
    let p = spent b t in
    (then n p.0 last, spend_cong b (then n p.0 last) p.0 n a (then_before n p.0 last) ∙ p.1, then_at n p.0 last)

-- once finished nothing changes
rest : (b : Board) (ch : ℕ → Choice) (n : ℕ) (k : Bank) (used ran : ℕ) →
    let a : At = record { bank = k; marks = fresh; phase = finished; used = used; ran = ran } in spend b ch n a ≡ a
unfolding spend
rest b ch zero k used ran = refl
rest b ch (suc n) k used ran = rest b (λ k. ch (suc k)) n k used ran

pub finish_is_spent : FinishIsSpent
finish_is_spent b a a' n units t l fin marks =
    let p = spent b t in
    let e : units ≡ n + (units - n) = omega arith in
    let same : a' ≡ record { bank = a'.bank; marks = fresh; phase = finished; used = a'.used; ran = a'.ran } =
    λ i. record { bank = a'.bank; marks = marks i; phase = fin i; used = a'.used; ran = a'.ran } in (
      p.0,
      ap (λ x. spend b p.0 x a) e ∙ spend_more b p.0 n (units - n) a
          ∙ ap (spend b (λ k. p.0 (n + k)) (units - n)) (p.1 ∙ same)
          ∙ rest b (λ k. p.0 (n + k)) (units - n) a'.bank a'.used a'.ran ∙ sym same,
    )

calls_of : History → List Call
calls_of [] = []
calls_of (e ∷ es) = e.0 ∷ calls_of es

calls_last : (es : History) (e : Call × Reply) → calls_of (es ++ e ∷ []) ≡ calls_of es ++ e.0 ∷ []
unfolding calls_of
calls_last [] e = refl
calls_last (x ∷ es) e = ap (λ l. x.0 ∷ l) (calls_last es e)

module _ (kind : Kind) where
  play_last : (ch : ℕ → ℕ → Choice) (cs : List Call) (c : Call) (r : Runner) →
      let p = play kind ch cs r in let o = call kind (ch (length cs)) c p.1 in
      play kind ch (cs ++ c ∷ []) r ≡ (p.0 ++ (c, o.0) ∷ [], o.1)
  unfolding play
  play_last ch [] c r = refl
  play_last ch (d ∷ cs) c r =
      let o = call kind (ch zero) d r in
      ap (λ x. ((d, o.0) ∷ x.0, x.1)) (play_last (λ n. ch (suc n)) cs c o.1)

  play_cong : (ch ch' : ℕ → ℕ → Choice) (cs : List Call) (r : Runner) → ((k : ℕ) → k < length cs → ch k ≡ ch' k) → play kind ch cs r ≡ play kind ch' cs r
  unfolding play
  play_cong ch ch' [] r h = refl
  play_cong ch ch' (c ∷ cs) r h =
      ap (λ f. let o = call kind f c r in let p = play kind (λ n. ch (suc n)) cs o.1 in ((c, o.0) ∷ p.0, p.1)) (h zero (omega arith))
      ∙ (let o = call kind (ch' zero) c r in
      ap (λ x. ((c, o.0) ∷ x.0, x.1)) (play_cong (λ n. ch (suc n)) (λ n. ch' (suc n)) cs o.1 (λ k q. h (suc k) (omega arith))))

  played : {r r' : Runner} {es : History} → Made kind r es r' → (ch : ℕ → ℕ → Choice) × (play kind ch (calls_of es) r ≡ (es, r'))
  unfolding play calls_of
  played loops.Made.none = ((λ n k. any_choice), refl)
  played {r} (loops.Made.more {es} {r'} m f c) =
      let p = played m in
      let cs = calls_of es in
      let ch = then (length cs) p.0 f in
      let e : play kind ch cs r ≡ (es, r') = play_cong ch p.0 cs r (then_before (length cs) p.0 f) ∙ p.1 in (
        ch,
        ap (λ l. play kind ch l r) (calls_last es (c, (call kind f c r').0)) ∙ play_last ch cs c r
            ∙ ap (λ x. let o = call kind (ch (length cs)) c x.1 in (x.0 ++ (c, o.0) ∷ [], o.1)) e
            ∙ ap (λ g. let o = call kind g c r' in (es ++ (c, o.0) ∷ [], o.1)) (then_at (length cs) p.0 f),
      )

pub made_agree : MadeAgree
made_agree kind bs r r' marks ok es m =
    let p = played kind m in
    subst (λ x. Agrees kind bs x.0 x.1.bank) p.1 ((agreement kind bs r marks ok).1 (calls_of es) p.0)
