-- A refusal changes nothing.
use Rattle.std.proofs.Common.{◌≡◌, ℕ, ◌+◌, Bool, true, false, cond, ltb, leb, List, [], ◌∷◌, get_or, refl, arith}
use Rattle.image.specs.Questions.{Question}
use Rattle.image.specs.declared.header.Header.{Header}
use Rattle.agreement.specs.Turns.{Choice}
use Rattle.agreement.specs.Calls.{Kind, Status, empty, ready, Runner, Report, refused, accepted, charged, gave, Outcome, asking, load_questions, register_of, slot_of, store_question, charging, charge_at, take_at, register_at, word_of, Call, charge, take, register, word, call}
use Rattle.agreement.specs.Refusals.{Unchanged, RefusalsChangeNothing}

yes_is_none : (n : ℕ) (v : List ℕ) → accepted ≡ refused n v → ⊥
yes_is_none n v e = let z : ◌≡◌ {A = ℕ} 0 1 = cc in omega arith

word_is_none : (w n : ℕ) (v : List ℕ) → gave w ≡ refused n v → ⊥
word_is_none w n v e = let z : ◌≡◌ {A = ℕ} 0 1 = cc in omega arith

report_is_none : (p : Report) (n : ℕ) (v : List ℕ) → charged p ≡ refused n v → ⊥
report_is_none p n v e = let z : ◌≡◌ {A = ℕ} 0 1 = cc in omega arith

asks : (qs : List Question) (r : Runner) (o : Outcome) → Unchanged r o → Unchanged r (asking qs r o)
asks [] r o u = u
asks (q ∷ qs) r o u = go q.0 (asks qs r o u)
  where
    go : (x : Bool) → Unchanged r (asking qs r o) → Unchanged r (cond x (asking qs r o) (refused q.1.0 q.1.1, r))
    go true k = k
    go false k = λ n v e. refl

charges : (kind : Kind) (h : Header) (d : Bool) (ch : ℕ → Choice) (units torn : ℕ) (r : Runner) → Unchanged r (charging kind h d ch units torn r)
charges kind h true ch units torn r = λ n v e. refl
charges kind h false ch units torn r = λ n v e. absurd (report_is_none _ n v e)

calls : (kind : Kind) (ch : ℕ → Choice) (s : Status) (r : Runner) →
    ((units torn : ℕ) → Unchanged r (charge_at kind s ch units torn r)) × Unchanged r (take_at kind s r)
    × ((i : ℕ) → Unchanged r (register_at kind s i r)) × ((i : ℕ) → Unchanged r (word_of kind s i r))
calls kind ch empty r = ((λ units torn n v e. refl), (λ n v e. refl), (λ i n v e. refl), (λ i n v e. refl))
calls kind ch (ready h) r = (
  (λ units torn. asks (store_question kind h r ∷ []) r (charging kind h r.done ch units torn r) (charges kind h r.done ch units torn r)),
  asks (store_question kind h r ∷ (ltb r.taken (slot_of kind h r).core.sent, (12, [])) ∷ []) r
      (gave (get_or r.bank.log r.taken 0), record { bank = r.bank; marks = r.marks; status = r.status; taken = r.taken + 1; done = r.done })
      (λ n v e. absurd (word_is_none (get_or r.bank.log r.taken 0) n v e)),
  (λ i. asks ((r.done, (10, [])) ∷ (leb i 32, (11, [])) ∷ []) r (gave (register_of (slot_of kind h r).core.hart i), r) (λ n v e. refl)),
  (λ i. asks ((r.done, (10, [])) ∷ (ltb i h.words, (11, [])) ∷ []) r (gave (get_or r.bank.words i 0), r) (λ n v e. refl)),
)

pub refusals_change_nothing : RefusalsChangeNothing
refusals_change_nothing kind r = (
  (λ marks bs. asks (load_questions kind bs r) r _ (λ n v e. absurd (yes_is_none n v e))),
  (λ bs. asks (load_questions kind bs r) r _ (λ n v e. absurd (yes_is_none n v e))),
  (λ ch c. each ch c),
)
  where
    each : (ch : ℕ → Choice) (c : Call) → Unchanged r (call kind ch c r)
    each ch (charge units torn) = (calls kind ch r.status r).0 units torn
    each ch take = (calls kind ch r.status r).1
    each ch (register i) = (calls kind ch r.status r).2 i
    each ch (word i) = (calls kind ch r.status r).3 i
