-- The runner's calls: what each answers and what it leaves, accepted or refused.
use Rattle.std.specs.Prelude.{ℕ, zero, suc, ◌+◌, ◌%◌, Bool, true, false, cond, ◌&&◌, List, [], ◌∷◌, ◌++◌, length, drop, ◌==◌, nat_le, nat_lt, slice_index}
use Rattle.memory.specs.Contents.{words_from}
use Rattle.memory.specs.Contents as contents
use Rattle.section.specs.View.{View, fresh}
use Rattle.image.specs.Questions.{Question}
use Rattle.image.specs.Image.{header, given_words, image_questions}
use Rattle.image.specs.declared.header.Header.{Header}
use Rattle.hart.specs.Registers.{reg}
use Rattle.hart.specs.State.{started}
use Rattle.hart.specs.declared.state.Hart.{Hart}
use Rattle.hart.specs.declared.state.Core.{Core}
use Rattle.machine.specs.Rv32i.{rv32i}
use Rattle.machine.specs.Run.{limits_of}
use Rattle.agreement.specs.Board.{Board}
use Rattle.agreement.specs.Store.{Slot, slot_words, store_size, current, in_order}
use Rattle.agreement.specs.Turns.{Choice}
use Rattle.agreement.specs.Charge.{Bank, At, is_finished, begin, spend, cut}

-- a core that a checkpoint may have: 31 registers, pc a multiple of 4, no more instructions than the limit
abbrev pub sane : Header → Core → Bool
sane h c = length c.hart.x == 31 && (c.hart.pc % 4 == 0 && nat_le c.ran h.limit)

-- a watchdog: the period of the section that begins, by the image's period P and the checkpoint store's words
abbrev pub Watchdog : Type 0
Watchdog = ℕ → List ℕ → ℕ

-- its answer counts as the nearest number from 1 to P
unfoldable pub due_of : ℕ → ℕ → ℕ
due_of P n = cond (nat_le P n) P (cond (n == 0) 1 n)

-- the watchdog that gives every section the image's period
abbrev pub steady : Watchdog
steady P store = P

-- the kind of a runner: the most pairs H that its section memory holds, and its watchdog
pub record Kind : Type 0 where
  pub most : ℕ
  pub watchdog : Watchdog

-- RV32I on an image
abbrev pub board : Kind → Header → Board
board kind h =
    record {
      text = h.text;
      size = h.words;
      room = h.outputs;
      period = h.period;
      due = λ store. due_of h.period (kind.watchdog h.period store);
      most = kind.most;
      sane = sane h;
      act = rv32i (limits_of h);
    }

-- whether a runner is empty, or loaded or attached with an image's numbers
pub data Status : Type 0 where
  empty : Status
  ready : Header → Status

-- a runner: what stands after a cut, the section memory's sets and pairs, its image, the number of outputs taken, and whether it
-- is finished
pub record Runner : Type 0 where
  pub bank : Bank
  pub marks : View
  pub status : Status
  pub taken : ℕ
  pub done : Bool

-- what a charge answers
pub record Report : Type 0 where
  pub finished : Bool
  pub used : ℕ
  pub ran : ℕ
  pub sealed : ℕ
  pub outputs : ℕ
  pub stop : ℕ

-- an answer: a refusal with its number and values, a plain yes, a charge's report, or a word
pub data Reply : Type 0 where
  refused : ℕ → List ℕ → Reply
  accepted : Reply
  charged : Report → Reply
  gave : ℕ → Reply

abbrev pub Outcome : Type 0
Outcome = Reply × Runner

-- questions in order: the first no refuses, and a refusal changes nothing
abbrev pub asking : List Question → Runner → Outcome → Outcome
asking [] r o = o
asking (q ∷ qs) r o = cond q.0 (asking qs r o) (refused q.1.0 q.1.1, r)

-- register 0 to 31, or pc for 32
abbrev pub register_of : Hart → ℕ → ℕ
register_of h n = cond (n == 32) h.pc (reg h.x n)

abbrev pub is_empty : Status → Bool
is_empty empty = true
is_empty (ready h) = false

-- what load and attach ask
abbrev pub load_questions : Kind → List ℕ → Runner → List Question
load_questions kind bs r =
    (is_empty r.status, (1, []))
    ∷ (image_questions bs
    ++ (
      nat_le (header bs).words (length r.bank.words)
          && (nat_le (store_size kind.most) (length r.bank.store) && nat_le (header bs).outputs (length r.bank.log)),
      (7, []),
    )
    ∷ [])

-- the row with its first words replaced
abbrev pub fronted : List ℕ → List ℕ → List ℕ
fronted new old = new ++ drop (length new) old

-- the words that a load puts from word 0 on: into the section memory, and into the checkpoint store
abbrev pub first_words : List ℕ → List ℕ
first_words bs = words_from (contents.word (given_words bs)) 0 (header bs).words

abbrev pub first_store : Header → List ℕ
first_store h = 0 ∷ slot_words (record { core = started h.entry; halt = 0; pairs = [] })

-- a load; after its puts the section memory's sets and pairs are what it chooses
abbrev pub load : Kind → View → List ℕ → Runner → Outcome
load kind marks bs r =
    asking (load_questions kind bs r) r (
      accepted,
      record {
        bank = record {
          words = fronted (first_words bs) r.bank.words;
          log = r.bank.log;
          store = fronted (first_store (header bs)) r.bank.store;
        };
        marks = marks;
        status = ready (header bs);
        taken = 0;
        done = false;
      },
    )

abbrev pub attach : Kind → List ℕ → Runner → Outcome
attach kind bs r =
    asking (load_questions kind bs r) r
    (accepted, record { bank = r.bank; marks = r.marks; status = ready (header bs); taken = 0; done = false })

module _ (kind : Kind) where
  abbrev pub slot_of : Header → Runner → Slot
  slot_of h r = current (board kind h) r.bank.store

  -- what charge and take ask of the checkpoint store
  abbrev pub store_question : Header → Runner → Question
  store_question h r = (in_order (board kind h) r.bank.store, (9, []))

  -- the report of a runner after a charge that used and ran so much
  abbrev pub report : Header → Bool → ℕ → ℕ → Runner → Report
  report h fin used ran r =
      let s = slot_of h r in
      record { finished = fin; used = used; ran = ran; sealed = s.core.ran; outputs = s.core.sent; stop = cond fin s.halt 0 }

  abbrev pub closed : Header → Choice → ℕ → At → Runner → Outcome
  closed h ch torn a r =
      let fin = is_finished a.phase in
      let r' : Runner = record { bank = cut (board kind h) fin ch torn a; marks = fresh; status = r.status; taken = r.taken; done = fin } in
      (charged (report h fin a.used a.ran r'), r')

  abbrev pub charging : Header → Bool → (ℕ → Choice) → ℕ → ℕ → Runner → Outcome
  charging h true ch units torn r = (charged (report h true 0 0 r), r)
  charging h false ch units torn r =
      closed h (ch units) torn (spend (board kind h) ch units (begin (board kind h) r.bank)) r

  abbrev pub charge_at : Status → (ℕ → Choice) → ℕ → ℕ → Runner → Outcome
  charge_at empty ch units torn r = (refused 8 [], r)
  charge_at (ready h) ch units torn r = asking (store_question h r ∷ []) r (charging h r.done ch units torn r)

  abbrev pub take_at : Status → Runner → Outcome
  take_at empty r = (refused 8 [], r)
  take_at (ready h) r =
      asking (store_question h r ∷ (nat_lt r.taken (slot_of h r).core.sent, (12, [])) ∷ []) r (
        gave (slice_index r.bank.log r.taken),
        record { bank = r.bank; marks = r.marks; status = r.status; taken = r.taken + 1; done = r.done },
      )

  -- register 0 to 31, 32 for pc
  abbrev pub register_at : Status → ℕ → Runner → Outcome
  register_at empty n r = (refused 8 [], r)
  register_at (ready h) n r =
      asking ((r.done, (10, [])) ∷ (nat_le n 32, (11, [])) ∷ []) r (gave (register_of (slot_of h r).core.hart n), r)

  abbrev pub word_of : Status → ℕ → Runner → Outcome
  word_of empty i r = (refused 8 [], r)
  word_of (ready h) i r =
      asking ((r.done, (10, [])) ∷ (nat_lt i h.words, (11, [])) ∷ []) r (gave (slice_index r.bank.words i), r)

pub data Call : Type 0 where
  charge : ℕ → ℕ → Call
  take : Call
  register : ℕ → Call
  word : ℕ → Call

abbrev pub call : Kind → (ℕ → Choice) → Call → Runner → Outcome
call kind ch (charge units torn) r = charge_at kind r.status ch units torn r
call kind ch take r = take_at kind r.status r
call kind ch (register n) r = register_at kind r.status n r
call kind ch (word i) r = word_of kind r.status i r

-- calls with their answers
abbrev pub History : Type 0
History = List (Call × Reply)

-- a list of calls; each has choices of its own
unfoldable pub play : Kind → (ℕ → ℕ → Choice) → List Call → Runner → History × Runner
play kind ch [] r = ([], r)
play kind ch (c ∷ cs) r =
    let o = call kind (ch zero) c r in
    let rest = play kind (λ n. ch (suc n)) cs o.1 in
    ((c, o.0) ∷ rest.0, rest.1)
