-- A program has one graph.
use Rattle.std.proofs.Common.{◌≡◌, ℕ, ◌<◌, ◌↔◌, Bool, true, false, IsTrue, List, refl, subst, sym, ap, ◌∙◌, ⊎_elim, arith}
use Rattle.cfg_model.specs.declared.graph.Block.{Block}
use Rattle.cfg_model.specs.declared.graph.Edge.{Edge}
use Rattle.cfg_model.specs.declared.graph.Function.{Function}
use Rattle.cfg_model.specs.declared.graph.Graph.{Graph}
use Rattle.cfg_model.specs.Program.Status.{Returns}
use Rattle.cfg_model.specs.Graph.Edge.{IsEdge}
use Rattle.cfg_model.specs.Graph.Function.{InBody, IsEntry}
use Rattle.cfg_model.specs.Graph.Listing.{Lists}
use Rattle.cfg_model.specs.Graph.Graph.{BlockBefore, FunctionBefore, EdgeBefore, rank}
use Rattle.cfg_model.specs.Graph.Unique.{GraphIsUnique, OutlineIsUnique, FunctionIsUnique}
use Rattle.cfg_model.proofs.Graphs.Lists.{IsAsymmetric, one_listing}

pub blocks_asymmetric : IsAsymmetric BlockBefore
blocks_asymmetric a b h i = omega arith

pub functions_asymmetric : IsAsymmetric FunctionBefore
functions_asymmetric a b h i = omega arith

pub edges_asymmetric : IsAsymmetric EdgeBefore
edges_asymmetric a b h i =
    ⊎_elim
    (λ from. ⊎_elim (λ back. omega arith) (λ same. let e : b.from ≡ a.from = same.0 in omega arith) i)
    (λ same. let e : a.from ≡ b.from = same.0 in
    ⊎_elim
    (λ back. omega arith)
    (λ again. ⊎_elim
    (λ to. ⊎_elim (λ back. omega arith) (λ last. let e : b.to ≡ a.to = last.0 in omega arith) again.1)
    (λ last. let e : a.to ≡ b.to = last.0 in let k : rank a.kind < rank b.kind = last.1 in
    ⊎_elim (λ back. omega arith) (λ final. let l : rank b.kind < rank a.kind = final.1 in omega arith) again.1)
    same.1)
    i)
    h

pub one_outline : OutlineIsUnique
one_outline map seeds blocks others edges more a b = (
  one_listing BlockBefore _ blocks_asymmetric blocks others a.all_blocks b.all_blocks,
  one_listing EdgeBefore _ edges_asymmetric edges more a.all_edges b.all_edges,
)

abbrev graph_of : ℕ → List Function → List Block → List Edge → Graph
graph_of entry functions blocks edges = record { entry = entry; functions = functions; blocks = blocks; edges = edges }

pub same_graph : (a b : Graph) → a.entry ≡ b.entry → a.functions ≡ b.functions → a.blocks ≡ b.blocks → a.edges ≡ b.edges → a ≡ b
same_graph a b e f g h =
    ap (λ x. graph_of x a.functions a.blocks a.edges) e
    ∙ ap (λ x. graph_of b.entry x a.blocks a.edges) f
    ∙ ap (λ x. graph_of b.entry b.functions x a.edges) g
    ∙ ap (λ x. graph_of b.entry b.functions b.blocks x) h

pub one_graph : GraphIsUnique
one_graph map seeds entry a b p q =
    same_graph a b
    (p.starts ∙ sym q.starts)
    (one_listing FunctionBefore _ functions_asymmetric a.functions b.functions p.functions q.functions)
    (one_listing BlockBefore _ blocks_asymmetric a.blocks b.blocks p.blocks q.blocks)
    (one_listing EdgeBefore _ edges_asymmetric a.edges b.edges p.edges q.edges)

-- a function is known by its entry

same_answer : (a b : Bool) (P : Type 0) → IsTrue a ↔ P → IsTrue b ↔ P → a ≡ b
same_answer true true P p q = refl
same_answer true false P p q = sym (q.1 (p.0 refl))
same_answer false true P p q = p.1 (q.0 refl)
same_answer false false P p q = refl

addresses_asymmetric : IsAsymmetric ◌<◌
addresses_asymmetric a b h i = omega arith

abbrev function_of : ℕ → Bool → List ℕ → Function
function_of entry returns body = record { entry = entry; returns = returns; body = body }

pub function_unique : FunctionIsUnique
function_unique map seeds f g p q e =
    let status = subst (λ x. IsTrue f.returns ↔ Returns map x) e p.status in
    let body = subst (λ x. Lists ◌<◌ (InBody (IsEdge map seeds) (IsEntry map seeds) x) f.body) e p.body in
    ap (λ x. function_of x f.returns f.body) e
    ∙ ap (λ x. function_of g.entry x f.body) (same_answer f.returns g.returns (Returns map g.entry) status q.status)
    ∙ ap (λ x. function_of g.entry g.returns x) (one_listing ◌<◌ (InBody (IsEdge map seeds) (IsEntry map seeds) g.entry) addresses_asymmetric f.body g.body body q.body)
