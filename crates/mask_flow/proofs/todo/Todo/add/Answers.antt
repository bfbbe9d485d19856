use Rattle.std.proofs.Common.{◌≡◌, ℕ, ◌<◌, List, [], ◌∷◌, ◌++◌, All, Bool, true, false, arith}
use Rattle.std.specs.Prelude.{if◌then◌else◌}
use Rattle.std.proofs.lemmas.List.{length-set}
use Rattle.std.proofs.lemmas.List.Elements.{All-push, All-weaker, All-same}
use Rattle.mask_flow.proofs.todo.Todo.add.Goals as goal

pushed : (n m node : ℕ) (old new : List ℕ) (there : Bool) → m ≡ n → All (λ k. k < n) old → node < n → new ≡ (if there then old ++ node ∷ [] else old) → All (λ k. k < m) new
pushed n m node old new true e known within items =
    All-same (λ k. k < m) _ _ items
    (All-push (λ k. k < m) old node (All-weaker (λ k. k < n) (λ k. k < m) (λ k h. omega arith) old known) (omega arith))
pushed n m node old new false e known within items =
    All-same (λ k. k < m) _ _ items (All-weaker (λ k. k < n) (λ k. k < m) (λ k h. omega arith) old known)

pub invariant_of-self : goal.invariant_of-self
invariant_of-self c = record { known = pushed _ _ _ _ _ _ (length-set _ _ _) c.args.self.now.known c.requires c.push.ensures.items }
