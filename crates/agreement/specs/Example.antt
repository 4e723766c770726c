-- The worked example: a short charge, a sufficient one, and what the runner answers to these and to other calls.
use Rattle.std.specs.Prelude.{◌≡◌, ℕ, true, false, List, [], ◌∷◌, ◌++◌, replicate, slice_set}
use Rattle.section.specs.View.{fresh}
use Rattle.worked_examples.specs.Examples.{example}
use Rattle.agreement.specs.Turns.{Choice}
use Rattle.agreement.specs.Calls.{Kind, steady, empty, Runner, refused, accepted, charged, gave, charge, take, register, word, load, play}

-- an empty runner over memories with anything in them, the section memory longer than the image wants
abbrev pub unloaded : Runner
unloaded =
    record {
      bank = record { words = replicate 12 77; log = replicate 5 88; store = replicate 105 99 };
      marks = fresh;
      status = empty;
      taken = 0;
      done = false;
    }

-- the same image with a period of 5, which is byte 16
abbrev pub quick : List ℕ
quick = slice_set example 16 5

-- a write-back layer over a detector holds back at most 8 words
abbrev pub eight : Kind
eight = record { most = 8; watchdog = steady }

abbrev pub nine : Kind
nine = record { most = 9; watchdog = steady }

-- a write-back layer of 8 pairs over a detector whose tables have room: it refuses nothing, a whole write enters F, and
-- pairs stand as they came
abbrev pub roomy : ℕ → ℕ → Choice
roomy call tick = record { refuse = false; gain = true; pairs = []; marks = fresh }

pub record WorkedExample : Type 0 where
  pub loads : (load eight fresh example unloaded).0 ≡ accepted
  pub loads_once : (load eight fresh example (load eight fresh example unloaded).1).0 ≡ refused 1 []
  pub wrong_length : (load eight fresh (example ++ 0 ∷ 0 ∷ 0 ∷ 0 ∷ []) unloaded).0 ≡ refused 6 []
  pub small_store : (load nine fresh example unloaded).0 ≡ refused 7 []
  -- a short charge, a sufficient one, and the calls between and after them
  pub answers :
      (play eight roomy
      (register 3 ∷ charge 3 0 ∷ take ∷ charge 170 0 ∷ take ∷ take ∷ register 3 ∷ register 33 ∷ word 8 ∷ word 9 ∷ charge 5 1 ∷ [])
      (load eight fresh example unloaded).1).0
      ≡ (register 3, refused 10 [])
      ∷ (charge 3 0, charged (record { finished = false; used = 3; ran = 2; sealed = 0; outputs = 0; stop = 0 }))
      ∷ (take, refused 12 [])
      ∷ (charge 170 0, charged (record { finished = true; used = 46; ran = 5; sealed = 5; outputs = 1; stop = 4 }))
      ∷ (take, gave 1)
      ∷ (take, refused 12 [])
      ∷ (register 3, gave 1)
      ∷ (register 33, refused 11 [])
      ∷ (word 8, gave 1)
      ∷ (word 9, refused 11 [])
      ∷ (charge 5 1, charged (record { finished = true; used = 0; ran = 0; sealed = 5; outputs = 1; stop = 4 }))
      ∷ []
  -- a cut at the commit leaves it undone; one after it has sealed the stop but not finished
  pub cut_at_commit :
      (play eight roomy (charge 44 0 ∷ charge 45 7 ∷ charge 2 0 ∷ word 8 ∷ []) (load eight fresh example unloaded).1).0
      ≡ (charge 44 0, charged (record { finished = false; used = 44; ran = 5; sealed = 0; outputs = 0; stop = 0 }))
      ∷ (charge 45 7, charged (record { finished = false; used = 45; ran = 5; sealed = 5; outputs = 1; stop = 0 }))
      ∷ (charge 2 0, charged (record { finished = true; used = 2; ran = 0; sealed = 5; outputs = 1; stop = 4 }))
      ∷ (word 8, gave 1)
      ∷ []
  -- with a period of 5 the watchdog comes before the stop, which is sealed in a section of no instructions
  pub watchdog_first :
      (play eight roomy (charge 200 0 ∷ []) (load eight fresh quick unloaded).1).0
      ≡ (charge 200 0, charged (record { finished = true; used = 83; ran = 5; sealed = 5; outputs = 1; stop = 4 })) ∷ []
