-- An image's outcome, from what the machine leaves in the program's memories.
use Rattle.std.proofs.Common.{◌≡◌, ℕ, List, ◌++◌, length, take, drop, Option, sym, ap, ◌∙◌, arith, length-take-le, take_all}
use lib.Seq.{take-append_seam}
use Rattle.std.proofs.lemmas.List.FromFn.{length-map-range_with_len}
use Rattle.image.specs.Questions.{No}
use Rattle.hart.specs.declared.state.Core.{Core}
use Rattle.machine.specs.Run.{run_end, run_outputs}
use Rattle.machine.specs.Refusals.{load_refusal}

-- of a list of just as many words the first are all
pub first : (l : List ℕ) → length l ≡ 16384 → take 16384 l ≡ l
first l h = take_all 16384 l (omega arith)

-- what a load over such lists refuses
pub over : (bs ws log : List ℕ) (n : Option No) → length ws ≡ 16384 → length log ≡ 16384
    → load_refusal bs (length (take 16384 ws)) (length (take 16384 log)) ≡ n → load_refusal bs 16384 16384 ≡ n
over bs ws log n h k e = sym (
    ap (λ (i : ℕ). load_refusal bs i (length (take 16384 log))) (length-take-le 16384 ws (omega arith))
    ∙ ap (load_refusal bs 16384) (length-take-le 16384 log (omega arith))
    ) ∙ e

-- what a list of n words holds where others were put in its place
replaced : (n : ℕ) (ws old : List ℕ) → length ws ≡ n → take n (ws ++ drop (length ws) old) ≡ ws
replaced n ws old h = ap (λ (i : ℕ). take i (ws ++ drop (length ws) old)) (sym h) ∙ take-append_seam ws (drop (length ws) old)

-- the outputs that a run sent are the first of the log that it leaves
sent : (bs log log' : List ℕ) (c : Core) → c ≡ (run_end bs).core → length log' ≡ 16384
    → take 16384 log' ≡ run_outputs bs ++ drop (run_end bs).core.sent log → take c.sent log' ≡ run_outputs bs
sent bs log log' c e h o =
    let rest = drop (run_end bs).core.sent log in
    let many : c.sent ≡ length (run_outputs bs) = ap (λ (x : Core). x.sent) e ∙ sym (length-map-range_with_len (run_end bs).log 0 (run_end bs).core.sent) in
    ap (take c.sent) (sym (first log' h) ∙ o)
    ∙ ap (λ (n : ℕ). take n (run_outputs bs ++ rest)) many
    ∙ take-append_seam (run_outputs bs) rest

-- and so they are what is left of it where it is cut there
pub outputs_left : (bs log log' old out : List ℕ) (n : ℕ) (c : Core) → n ≡ 16384 → length log' ≡ 16384 → c ≡ (run_end bs).core
    → take 16384 log' ≡ run_outputs bs ++ drop (run_end bs).core.sent log
    → out ≡ take c.sent (take n (log' ++ drop (length log') old)) → out ≡ run_outputs bs
outputs_left bs log log' old out n c e h k o cut =
    cut ∙ ap (take c.sent) (replaced n log' old (h ∙ sym e)) ∙ sent bs log log' c k h o
