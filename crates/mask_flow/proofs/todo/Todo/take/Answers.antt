use Rattle.std.proofs.Common.{◌≡◌, ℕ, ◌<◌, List, ◌++◌, All, Option, option_to_list, arith}
use Rattle.std.proofs.lemmas.List.{length-set}
use Rattle.std.proofs.lemmas.List.Elements.{All-pop, All-weaker}
use Rattle.mask_flow.proofs.todo.Todo.take.Goals as goal

popped : (n m : ℕ) (old new : List ℕ) (node : Option ℕ) → m ≡ n → All (λ k. k < n) old → old ≡ new ++ option_to_list node → All (λ k. k < m) new
popped n m old new node e known items =
    All-weaker (λ k. k < n) (λ k. k < m) (λ k h. omega arith) new ((All-pop (λ k. k < n) old new node items known).0)

pub invariant_of-self-2 : goal.invariant_of-self-2
invariant_of-self-2 c = record { known = popped _ _ _ _ _ (length-set _ _ _) c.args.self.now.known c.pop.ensures.items }
