-- A walk in the graph of a program enters a block at its entry and after each edge.
use Rattle.std.proofs.Common.{◌≡◌, ℕ, Bool, true, false, List, Option, Some, None, Contains, refl, ap, subst, inl, inr}
use Rattle.std.specs.Prelude.{◌==◌, ◌&&◌, nat_lt, if◌then◌else◌}
use Rattle.std.specs.List.{find}
use Rattle.std.proofs.lemmas.Bool.{eq-eqb, eqb-true}
use Rattle.cfg_model.specs.declared.graph.Block.{Block}
use Rattle.cfg_model.specs.declared.graph.Edge.{Edge}
use Rattle.cfg_model.specs.declared.graph.EdgeKind.{EdgeKind}
use Rattle.cfg_model.specs.Graph.Function.{IsEntry}
use Rattle.cfg_model.specs.Graph.Joined.{StartsABlock}
use Rattle.cfg_model.proofs.Graphs.Joined.{edges_join_blocks, entry_starts}
use Rattle.elf_image.proofs.Finds.{any-contained, find-cases}
use Rattle.edge_cover.specs.declared.moves.Move.TheVariants.{Inside, Along, Out}
use Rattle.edge_cover.specs.Move.{joins, along, move_in}
use Rattle.walk_trace.specs.Lines.{at_line}
use Rattle.walk_trace.specs.Trace.{block_at, arrival_line}
use Rattle.walk_trace.specs.Laws.{EntryIsEntered, EdgesAreEntered}

clash : {b : Bool} → b ≡ false → b ≡ true → ⊥
clash e f = cc

starts_entered : (blocks : List Block) (a : ℕ) → StartsABlock blocks a → arrival_line (block_at blocks a) a ≡ at_line a
starts_entered blocks a is =
    elim (find-cases (λ (b : Block). b.start == a) blocks) [
      | inl none ↦ absurd (clash none.1 (any-contained (λ (b : Block). b.start == a) blocks is.block is.listed (eq-eqb is.block.start a is.starts)))
      | inr some ↦ ap (λ o. arrival_line o a) some.1
    ]

-- a move along an edge has one that was found
found_along : (block : Block) (inside same : Bool) (found : Option Edge) (kind : EdgeKind) → (if inside then (if same then Inside else Out block.kind) else along block found) ≡ Along kind → (edge : Edge) × (found ≡ Some edge)
found_along block true true found kind h = absurd cc
found_along block true false found kind h = absurd cc
found_along block false same None kind h = absurd cc
found_along block false same (Some edge) kind h = (edge, refl)

second : (a b : Bool) → (a && b) ≡ true → b ≡ true
second true b h = h
second false b h = absurd cc

-- an edge of the list that leads to where the move goes
record LeadsThere (edges : List Edge) (to : ℕ) : Type 0 where
  edge : Edge
  listed : Contains edges edge
  there : edge.to ≡ to

along_edge : (block : Block) (edges : List Edge) (next to : ℕ) (kind : EdgeKind) → move_in block edges next to ≡ Along kind → LeadsThere edges to
along_edge block edges next to kind h =
    elim (find-cases (joins block.start to) edges) [
      | inl none ↦ absurd (let found = found_along block (nat_lt next block.end) (to == next) (find (joins block.start to) edges) kind h in missed found.1 none.0)
      | inr some ↦ record { edge = some.0; listed = some.3; there = eqb-true some.0.to to (second (some.0.from == block.start) (some.0.to == to) some.2) }
    ]
  where
    missed : {o : Option Edge} {edge : Edge} → o ≡ Some edge → o ≡ None → ⊥
    missed e f = cc

pub entry_is_entered : EntryIsEntered
entry_is_entered map seeds entry graph lawful are listed is memory =
    starts_entered graph.blocks entry (entry_starts map seeds lawful graph.blocks is.blocks are (IsEntry.seed listed))

pub edges_are_entered : EdgesAreEntered
edges_are_entered map seeds entry graph lawful is walk next kind h =
    let way = along_edge walk.block graph.edges next walk.state.pc kind h in
    starts_entered graph.blocks walk.state.pc (subst (StartsABlock graph.blocks) way.there (edges_join_blocks map seeds entry graph lawful is way.edge way.listed).1)
