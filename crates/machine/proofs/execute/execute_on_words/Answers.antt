use Rattle.std.proofs.Common.{◌≡◌, ℕ, List, ◌∷◌, rules}
use Rattle.machine.proofs.Executes.{execute_alike}
use Rattle.machine.proofs.execute.execute_on_words.Goals as goal

same_head : (a b : ℕ) (xs ys : List ℕ) → a ∷ xs ≡ b ∷ ys → a ≡ b
same_head a b xs ys e = cc

same_tail : (a b : ℕ) (xs ys : List ℕ) → a ∷ xs ≡ b ∷ ys → xs ≡ ys
same_tail a b xs ys e = cc

pub returns : goal.returns
returns c =
    let mn = same_head _ _ _ _ c.execute.ensures.memory_home in
    let ln = same_head _ _ _ _ c.execute.ensures.log_home in
    let mt = same_tail _ _ _ _ c.execute.ensures.memory_home in
    let lt = same_tail _ _ _ _ c.execute.ensures.log_home in
    record {
      execute = execute_alike c.args.bytes.now c.execute.result _ _ _ _ _ _ _ _ (search rules) (search rules) (search rules) (search rules) c.execute.ensures.execute;
      memory_rest = search rules;
      log_rest = search rules;
    }
