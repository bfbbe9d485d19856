-- A start has one last address, and so one block.
use Rattle.std.proofs.Common.{◌≡◌, ℕ, ◌+◌, Option, Some, refl, sym, ap, ◌∙◌, subst, ⊎_elim}
use Rattle.std.proofs.lemmas.Option.{same_Some}
use Rattle.cfg_model.specs.declared.flow.Flow.{Flow}
use Rattle.cfg_model.specs.declared.flow.Flow.TheVariants.{Straight}
use Rattle.cfg_model.specs.declared.graph.Block.{Block}
use Rattle.cfg_model.specs.declared.graph.EndKind.{EndKind}
use Rattle.cfg_model.specs.Program.Instructions.{InstructionMap}
use Rattle.cfg_model.specs.Program.Chain.{GoesOnTo, IsTerminator, EndsChain}
use Rattle.cfg_model.specs.Program.Meeting.{IsStop}
use Rattle.cfg_model.specs.Graph.Leader.{IsLeader}
use Rattle.cfg_model.specs.Graph.Block.{RunsTo, IsLastOf, IsBlockOf, end_kind}
use Rattle.cfg_model.specs.Graph.Unique.{BlockIsUnique}

pub straight_once : (map : InstructionMap) (k a b : ℕ) → GoesOnTo map k a → GoesOnTo map k b → a ≡ b
straight_once map k a b h i = let e : ◌≡◌ {A = Option Flow} (Some (Straight a)) (Some (Straight b)) = sym h ∙ i in cc

pub not_both : (map : InstructionMap) (k next : ℕ) → GoesOnTo map k next → IsTerminator map k → ⊥
not_both map k next h t = subst EndsChain h t

stops_once : (map : InstructionMap) (IsCut : ℕ → Type 0) (k next : ℕ) → IsStop map IsCut k → GoesOnTo map k next → ¬ IsCut next → ⊥
stops_once map IsCut k next stops goes none =
    ⊎_elim
    (λ t. not_both map k next goes t)
    (λ m. none (subst IsCut (straight_once map k m.0 next m.1 goes) m.2))
    stops

one_end_of : {map : InstructionMap} {IsCut : ℕ → Type 0} {s k : ℕ} → RunsTo map IsCut s k → IsStop map IsCut k → (j : ℕ) → RunsTo map IsCut s j → IsStop map IsCut j → k ≡ j
one_end_of RunsTo.here stops j RunsTo.here ends = refl
one_end_of {map = map} {IsCut = IsCut} {s = s} RunsTo.here stops j (RunsTo.on {next = next} goes none rest) ends = absurd (stops_once map IsCut s next stops goes none)
one_end_of {map = map} {IsCut = IsCut} {s = s} (RunsTo.on {next = next} goes none rest) stops j RunsTo.here ends = absurd (stops_once map IsCut s next ends goes none)
one_end_of {map = map} {IsCut = IsCut} {s = s} (RunsTo.on {next = a} goes none rest) stops j (RunsTo.on {next = b} on clear more) ends =
    one_end_of rest stops j (subst (λ x. RunsTo map IsCut x j) (straight_once map s b a on goes) more) ends

pub one_last : {map : InstructionMap} {IsCut : ℕ → Type 0} {s k j : ℕ} → IsLastOf map IsCut s k → IsLastOf map IsCut s j → k ≡ j
one_last {j = j} last other = one_end_of last.runs last.stops j other.runs other.stops

abbrev block_made : ℕ → ℕ → EndKind → Block
block_made start end kind = record { start = start; end = end; kind = kind }

pub one_block_of : (map : InstructionMap) (s k : ℕ) (a b : Block) → IsBlockOf map s k a → IsBlockOf map s k b → a ≡ b
one_block_of map s k a b p q =
    let bytes : p.ends.0 ≡ q.ends.0 = same_Some p.ends.0 q.ends.0 (sym p.ends.1 ∙ q.ends.1) in
    let flow : p.kind.0 ≡ q.kind.0 = same_Some p.kind.0 q.kind.0 (sym p.kind.1 ∙ q.kind.1) in
    ap (λ x. block_made x a.end a.kind) (p.start ∙ sym q.start)
    ∙ ap (λ x. block_made b.start x a.kind) (p.ends.2 ∙ ap (λ n. k + n) bytes ∙ sym q.ends.2)
    ∙ ap (λ x. block_made b.start b.end x) (p.kind.2 ∙ ap end_kind flow ∙ sym q.kind.2)

-- two blocks cut at the same addresses that start at the same one
pub one_block : (map : InstructionMap) (IsCut : ℕ → Type 0) (s k j : ℕ) (a b : Block) → IsLastOf map IsCut s k → IsBlockOf map s k a → IsLastOf map IsCut s j → IsBlockOf map s j b → a ≡ b
one_block map IsCut s k j a b last is other also =
    one_block_of map s j a b (subst (λ x. IsBlockOf map s x a) (one_last last other) is) also

pub block_unique : BlockIsUnique
block_unique map seeds a b p q start =
    one_block map (IsLeader map seeds) b.start p.0 q.0 a b
    (subst (λ s. IsLastOf map (IsLeader map seeds) s p.0) start p.1.last)
    (subst (λ s. IsBlockOf map s p.0 a) start p.1.of)
    q.1.last q.1.of
