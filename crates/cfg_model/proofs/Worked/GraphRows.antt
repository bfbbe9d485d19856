-- Rows 8, 12, 15 and 17: a leader where two streams join, blocks, edges, cuts, a tail call.
use Rattle.std.proofs.Common.{◌≡◌, ℕ, zero, suc, ◌<◌, ◌⊎◌, Bool, true, false, List, [], ◌∷◌, Option, Some, None, Contains, refl, sym, ap, subst, inl, inr, ⊎_elim, arith}
use Rattle.std.specs.Prelude.{◌==◌, if◌then◌else◌}
use Rattle.cfg_model.specs.declared.flow.Flow.TheVariants.{Branch, Jump, Call, Return}
use Rattle.cfg_model.specs.declared.graph.EndKind.TheVariants as ends
use Rattle.cfg_model.specs.declared.graph.EdgeKind.TheVariants as kinds
use Rattle.cfg_model.specs.Program.Instructions.{Instruction, InstructionMap}
use Rattle.cfg_model.specs.Program.Status.{Returns}
use Rattle.cfg_model.specs.Program.Reach.{Reached}
use Rattle.cfg_model.specs.Program.Cuts.{Extent, IsBaseInside, IsCutTo}
use Rattle.cfg_model.specs.Graph.Leader.{IsLeader, StartsBlock}
use Rattle.cfg_model.specs.Graph.Block.{RunsTo, IsLastOf, IsBlock}
use Rattle.cfg_model.specs.Graph.Edge.{LeadsTo, IsEdge}
use Rattle.cfg_model.specs.Graph.Function.{IsEntry, InBody, IsMarkedEdge}
use Rattle.cfg_model.proofs.Worked.Rows.{placed, plain, each_placed, row_8}
use Rattle.cfg_model.proofs.Program.Code.{at_flow}

-- Row 8: the streams of 10000 and 10002 join at 10004.

abbrev seeds : List ℕ
seeds = 0x10000 ∷ []

reached_0 : Reached row_8 seeds 0x10000
reached_0 = Reached.seed (0, omega arith, refl)

reached_4 : Reached row_8 seeds 0x10004
reached_4 = Reached.onward reached_0 (0, omega arith, refl)

reached_2 : Reached row_8 seeds 0x10002
reached_2 = Reached.onward reached_4 (0, omega arith, refl)

leads_0 : IsLeader row_8 seeds 0x10000
leads_0 = record { reached = reached_0; starts = StartsBlock.seed (0, omega arith, refl) }

pub joined : IsLeader row_8 seeds 0x10004
joined = record { reached = reached_4; starts = StartsBlock.join reached_2 refl refl reached_0 refl refl }

-- so the block of 10000 ends in front of it
last_0 : IsLastOf row_8 (IsLeader row_8 seeds) 0x10000 0x10000
last_0 = record { runs = RunsTo.here; stops = inr (0x10004, refl, joined) }

pub first_block : IsBlock row_8 seeds (record { start = 0x10000; end = 0x10004; kind = ends.Fall })
first_block = (
  0x10000,
  record {
    leader = leads_0;
    last = last_0;
    of = record { start = refl; ends = (4, refl, refl); kind = (_, refl, refl) };
  },
)

pub fall_edge : IsEdge row_8 seeds (record { from = 0x10000; to = 0x10004; kind = kinds.Fall })
fall_edge = record { last = 0x10000; from = leads_0; ends = last_0; leads = LeadsTo.straight refl }

pub taken_edge : IsEdge row_8 seeds (record { from = 0x10004; to = 0x10002; kind = kinds.Taken })
taken_edge = record { last = 0x10004; from = joined; ends = record { runs = RunsTo.here; stops = inl tt }; leads = LeadsTo.taken refl }

-- Row 12: a branch that is cut off returns by itself; its fall jumps to itself.

abbrev pub row_12 : InstructionMap
row_12 = placed ((0x10000, plain 4 (Branch None (Some 0x10004))) ∷ (0x10004, plain 4 (Jump 0x10004)) ∷ [])

pub cut_off_returns : Returns row_12 0x10000
cut_off_returns = Returns.by_itself tt

leads_12 : IsLeader row_12 seeds 0x10000
leads_12 = record { reached = Reached.seed (0, omega arith, refl); starts = StartsBlock.seed (0, omega arith, refl) }

pub cut_off_block : IsBlock row_12 seeds (record { start = 0x10000; end = 0x10004; kind = ends.BranchOut })
cut_off_block = (
  0x10000,
  record {
    leader = leads_12;
    last = record { runs = RunsTo.here; stops = inl tt };
    of = record { start = refl; ends = (4, refl, refl); kind = (_, refl, refl) };
  },
)

-- Row 17: the jump from 1000c to 10000 leaves the function of 1000c; that from 10004 stays in its own.

abbrev pub row_17_code : List (ℕ × Instruction)
row_17_code =
    (0x10000, plain 4 (Branch (Some 0x10008) (Some 0x10004))) ∷ (0x10004, plain 4 (Jump 0x10000))
    ∷ (0x10008, plain 4 Return) ∷ (0x1000c, plain 4 (Jump 0x10000)) ∷ []

abbrev pub row_17 : InstructionMap
row_17 = placed row_17_code

abbrev pub seeds_17 : List ℕ
seeds_17 = 0x10000 ∷ 0x1000c ∷ []

abbrev InBody_17 : ℕ → ℕ → Type 0
InBody_17 = InBody (IsEdge row_17 seeds_17) (IsEntry row_17 seeds_17)

entry_c : IsEntry row_17 seeds_17 0x1000c
entry_c = IsEntry.seed (1, omega arith, refl)

entry_0 : IsEntry row_17 seeds_17 0x10000
entry_0 = IsEntry.seed (0, omega arith, refl)

start_0 : IsLeader row_17 seeds_17 0x10000
start_0 = record { reached = Reached.seed (0, omega arith, refl); starts = StartsBlock.seed (0, omega arith, refl) }

start_c : IsLeader row_17 seeds_17 0x1000c
start_c = record { reached = Reached.seed (1, omega arith, refl); starts = StartsBlock.seed (1, omega arith, refl) }

start_4 : IsLeader row_17 seeds_17 0x10004
start_4 = record { reached = Reached.onward start_0.reached (1, omega arith, refl); starts = StartsBlock.fall start_0.reached refl refl }

-- an entry of another function is in no body but its own
other_entry : {a : ℕ} → InBody_17 0x10000 a → a ≡ 0x1000c → ⊥
other_entry InBody.entry e = omega (arith, e)
other_entry (InBody.along {edge = edge} before is stays) e =
    ⊎_elim (λ same. omega (arith, same, e)) (λ none. none (subst (IsEntry row_17 seeds_17) (sym e) entry_c)) stays.inside

pub tail_call : IsMarkedEdge row_17 seeds_17 (record { from = 0x1000c; to = 0x10000; kind = kinds.Tail })
tail_call =
    IsMarkedEdge.tail {edge = record { from = 0x1000c; to = 0x10000; kind = kinds.Jump }}
    (record { last = 0x1000c; from = start_c; ends = record { runs = RunsTo.here; stops = inl tt }; leads = LeadsTo.jump refl }) refl
    (record { entry = entry_0; outside = λ inside. other_entry inside refl })

fall_17 : IsEdge row_17 seeds_17 (record { from = 0x10000; to = 0x10004; kind = kinds.Fall })
fall_17 = record { last = 0x10000; from = start_0; ends = record { runs = RunsTo.here; stops = inl tt }; leads = LeadsTo.not_taken refl }

-- row 17 calls nothing
no_call : (k : ℕ) (i : Instruction) → row_17 k ≡ Some i → (target : ℕ) (fall : Option ℕ) → i.flow ≡ Call target fall → ⊥
no_call = each_placed (λ k i. (target : ℕ) (fall : Option ℕ) → i.flow ≡ Call target fall → ⊥) row_17_code ((λ t f e. cc), ((λ t f e. cc), ((λ t f e. cc), ((λ t f e. cc), tt))))

no_other_entry : IsEntry row_17 seeds_17 0x10004 → ⊥
no_other_entry (IsEntry.seed c) = in_two c
  where
    in_two : Contains seeds_17 0x10004 → ⊥
    in_two (zero, low, e) = omega (arith, e)
    in_two (suc zero, low, e) = omega (arith, e)
    in_two (suc (suc k), low, e) = omega (arith, low)
no_other_entry (IsEntry.called {k = k} {fall = fall} r call) =
    let at = at_flow row_17 k (Call 0x10004 fall) call in no_call k at.0 at.1 0x10004 fall at.2

pub inner_jump : IsMarkedEdge row_17 seeds_17 (record { from = 0x10004; to = 0x10000; kind = kinds.Jump })
inner_jump =
    IsMarkedEdge.jump
    (record { last = 0x10004; from = start_4; ends = record { runs = RunsTo.here; stops = inl tt }; leads = LeadsTo.jump refl }) refl
    (λ tail. tail.outside (InBody.along InBody.entry fall_17 (record { no_call = λ e. cc; inside = inr no_other_entry })))

-- Row 15: the table at 20000 is cut to two entries by the base at 20008, and that one is not cut.

abbrev first : Extent
first = record { base = 0x20000; width = 4; count = 4 }

abbrev second : Extent
second = record { base = 0x20008; width = 4; count = 2 }

abbrev tables_15 : ℕ → Option Extent
tables_15 j = if j == 0x1001c then Some first else (if j == 0x10048 then Some second else None)

base_of : (x e : Extent) → Some x ≡ Some e → e.base ≡ x.base
base_of x e is = ap base_at (sym is)
  where
    base_at : Option Extent → ℕ
    base_at None = 0
    base_at (Some f) = f.base

one_of : (x y : Bool) (e : Extent) → (if x then Some first else (if y then Some second else None)) ≡ Some e → (e.base ≡ 0x20000) ⊎ (e.base ≡ 0x20008)
one_of true y e is = inl (base_of first e is)
one_of false true e is = inr (base_of second e is)
one_of false false e is = cc

bases : (b : ℕ) (table : Extent) → IsBaseInside tables_15 table b → (b ≡ 0x20000) ⊎ (b ≡ 0x20008)
bases b table is =
    ⊎_elim (λ e. inl (subst (λ x. x ≡ 0x20000) is.base e)) (λ e. inr (subst (λ x. x ≡ 0x20008) is.base e))
    (one_of (is.jump == 0x1001c) (is.jump == 0x10048) is.other is.at_jump)

pub first_cut : IsCutTo tables_15 0x1001c 2
first_cut = record {
  table = first;
  at_jump = refl;
  base = 0x20008;
  inside = record { jump = 0x10048; other = second; at_jump = refl; base = refl; above = omega arith; below = omega arith };
  least = λ b is. ⊎_elim (λ e. let up : 0x20000 < b = is.above in omega (arith, e, up)) (λ e. omega (arith, e)) (bases b first is);
  entries = refl;
  fewer = omega arith;
}

pub second_not_cut : (kept : ℕ) → IsCutTo tables_15 0x10048 kept → ⊥
second_not_cut kept cut =
    let table : 0x20008 ≡ cut.table.base = ap base_at cut.at_jump in
    let up : cut.table.base < cut.base = cut.inside.above in
    ⊎_elim (λ e. omega (arith, table, up, e)) (λ e. omega (arith, table, up, e)) (bases cut.base cut.table cut.inside)
  where
    base_at : Option Extent → ℕ
    base_at None = 0
    base_at (Some e) = e.base
