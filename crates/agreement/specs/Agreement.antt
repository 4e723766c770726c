-- The law: an intermittent run agrees with the uninterrupted run of its image.
use Rattle.std.specs.Prelude.{◌≡◌, ℕ, ◌+◌, ◌*◌, ◌<◌, Bool, true, false, cond, ◌||◌, ◌⊎◌, List, [], ◌∷◌, ◌++◌, length, nat_le, nat_lt}
use Rattle.section.specs.View.{View}
use Rattle.image.specs.Image.{header}
use Rattle.machine.specs.Run.{Ends, run_end, run_count, run_stop, run_outputs, run_words}
use Rattle.agreement.specs.Turns.{Choice}
use Rattle.agreement.specs.Charge.{Bank}
use Rattle.agreement.specs.Calls as calls
use Rattle.agreement.specs.Calls.{Kind, Runner, Report, Reply, refused, accepted, charged, gave, Call, charge, take, register, word, register_of, History, play}

abbrev pub BeginsWith : List ℕ → List ℕ → Type 0
BeginsWith row front = (rest : List ℕ) × (row ≡ front ++ rest)

-- the words taken
abbrev pub got : Call → Reply → List ℕ → List ℕ
got take (gave w) ws = w ∷ ws
got take (refused n v) ws = ws
got take accepted ws = ws
got take (charged p) ws = ws
got (charge units torn) a ws = ws
got (register n) a ws = ws
got (word i) a ws = ws

abbrev pub taken : History → List ℕ
taken [] = []
taken (e ∷ es) = got e.0 e.1 (taken es)

-- a charge that answers finished
abbrev pub finishes : Reply → Bool
finishes (refused n v) = false
finishes accepted = false
finishes (charged p) = p.finished
finishes (gave w) = false

abbrev pub finished : History → Bool
finished [] = false
finished (e ∷ es) = finishes e.1 || finished es

-- how many accepted charges had at least so many units
abbrev pub ample_charge : ℕ → Call → Reply → ℕ
ample_charge least (charge units torn) (charged p) = cond (nat_le least units) 1 0
ample_charge least (charge units torn) (refused n v) = 0
ample_charge least (charge units torn) accepted = 0
ample_charge least (charge units torn) (gave w) = 0
ample_charge least take a = 0
ample_charge least (register n) a = 0
ample_charge least (word i) a = 0

abbrev pub ample : ℕ → History → ℕ
ample least [] = 0
ample least (e ∷ es) = ample_charge least e.0 e.1 + ample least es

module _ (kind : Kind) (bs : List ℕ) where
  -- the charge that suffices
  abbrev pub sufficient : ℕ
  sufficient = 38 + (header bs).period + 4 * kind.most

  pub record Final (p : Report) : Type 0 where
    pub sealed : p.sealed ≡ run_count bs
    pub outputs : p.outputs ≡ length (run_outputs bs)
    pub stop : p.stop ≡ run_stop bs

  -- what a call may answer, before the finish and after it
  abbrev pub Right : Bool → Call → Reply → Type 0
  Right false (charge units torn) a = (p : Report) × (a ≡ charged p) × (p.finished ≡ true → Final p)
  Right true (charge units torn) a =
      (p : Report) × (a ≡ charged p) × (p.finished ≡ true) × (p.used ≡ 0) × (p.ran ≡ 0) × Final p
  Right false take a = (a ≡ refused 12 []) ⊎ ((w : ℕ) × (a ≡ gave w))
  Right true take a = (a ≡ refused 12 []) ⊎ ((w : ℕ) × (a ≡ gave w))
  Right false (register n) a = a ≡ refused 10 []
  Right true (register n) a = a ≡ cond (nat_le n 32) (gave (register_of (run_end bs).core.hart n)) (refused 11 [])
  Right false (word i) a = a ≡ refused 10 []
  Right true (word i) a = a ≡ cond (nat_lt i (header bs).words) (gave ((run_end bs).mem i)) (refused 11 [])

  abbrev pub AllRight : Bool → History → Type 0
  AllRight done [] = Unit {0}
  AllRight done (e ∷ es) = Right done e.0 e.1 × AllRight (done || finishes e.1) es

  -- what holds after any list of calls: the words taken are the run's first outputs; every answer is right; once finished, the
  -- section memory begins with the words at the run's end, and the log with its outputs; one more ample charge than the run has
  -- instructions finishes
  pub record Agrees (es : History) (k : Bank) : Type 0 where
    pub in_order : BeginsWith (run_outputs bs) (taken es)
    pub answers : AllRight false es
    pub words : finished es ≡ true → BeginsWith k.words (run_words bs)
    pub log : finished es ≡ true → BeginsWith k.log (run_outputs bs)
    pub suffices : run_count bs < ample sufficient es → finished es ≡ true

-- of every image, every H and watchdog, and all memories that a load accepts: the uninterrupted run ends, and whatever calls come
-- after the load, and whatever the section memory chooses where its meaning leaves it free, the intermittent run agrees with it
abbrev pub Agreement : Type 0
Agreement =
    (kind : Kind) (bs : List ℕ) (r : Runner) (marks : View) → (calls.load kind marks bs r).0 ≡ accepted →
    Ends bs × (
    (cs : List Call) (ch : ℕ → ℕ → Choice) →
    let p = play kind ch cs (calls.load kind marks bs r).1 in
    Agrees kind bs p.0 p.1.bank
    )
