-- What is live at an address within a block: what the rest of the block reads first, or what it does not write and is live at its end.
use Rattle.std.proofs.Common.{◌≡◌, ℕ, ◌+◌, ◌-◌, ◌<◌, ◌≤◌, ◌⊎◌, true, false, List, ◌∷◌, Option, Contains, refl, ap, ◌∙◌, subst, inl, inr}
use Rattle.std.specs.Prelude.{IsTrue, IsFalse}
use Rattle.std.proofs.lemmas.Bool.{or_left, or_right, or_from, and_from, not_from_false}
use Rattle.cfg_model.specs.declared.graph.Block.{Block}
use Rattle.cfg_model.specs.declared.graph.Graph.{Graph}
use Rattle.cfg_model.specs.Program.Instructions.{InstructionMap}
use Rattle.cfg_model.specs.Graph.Graph.{IsGraph}
use Rattle.cfg_model.proofs.Graphs.OneBlock.{block_unique}
use Rattle.rv_decode.specs.declared.instructions.Insn.{Insn}
use Rattle.rv_flow.specs.Placed.{placed_at}
use Rattle.elf_image.specs.Architecture.{extensions_of}
use Rattle.live_regs.specs.Effects.{as_read, reads, writes}
use Rattle.live_regs.proofs.Operands.{still_reads, same_writes}
use Rattle.live_regs.specs.Run.{placed_from, instructions_of, reads_first, run_writes}
use Rattle.live_regs.specs.Leaves.{LeadsOn, Leaves}
use Rattle.live_regs.specs.Live.{IsBlockIn, IsLive}
use Rattle.live_regs.proofs.Runs.{more_from, none_from}

module _ (bytes : List ℕ) (graph : Graph) (body : List ℕ) where
  -- the instructions of a block from an address on
  abbrev pub rest_of : Block → ℕ → List (Option Insn)
  rest_of block a = placed_from bytes block.end (block.end - a) a

  -- xr is live at the end of a block
  abbrev pub LiveOut : Block → ℕ → Type 0
  LiveOut block r = Leaves graph.edges body block ⊎ ((t : ℕ) × LeadsOn graph.edges block.start t × IsLive bytes graph.blocks graph.edges body r t)

  abbrev pub LiveFrom : Block → ℕ → ℕ → Type 0
  LiveFrom block a r = IsTrue (reads_first (rest_of block a) r) ⊎ (IsFalse (run_writes (rest_of block a) r) × LiveOut block r)

  -- ---- over one instruction

  split : (block : Block) (a : ℕ) → a < block.end → rest_of block a ≡ as_read (extensions_of bytes) (placed_at bytes a) ∷ rest_of block (a + (placed_at bytes a).length)
  split block a within = more_from bytes block.end a (a + (placed_at bytes a).length) within (inl refl)

  -- what the instruction is said to read is live before it
  pub live_said : (block : Block) (a r : ℕ) → a < block.end → reads (as_read (extensions_of bytes) (placed_at bytes a)) r ≡ true → LiveFrom block a r
  live_said block a r within read = inl (ap (λ run. reads_first run r) (split block a within) ∙ or_left _ _ read)

  pub live_read : (block : Block) (a r : ℕ) → a < block.end → reads (placed_at bytes a).insn r ≡ true → LiveFrom block a r
  live_read block a r within read = live_said block a r within (still_reads (extensions_of bytes) (placed_at bytes a) r read)

  -- so is what is live after it, if it does not write that
  pub live_kept : (block : Block) (a r : ℕ) → a < block.end → writes (placed_at bytes a).insn r ≡ false → LiveFrom block (a + (placed_at bytes a).length) r → LiveFrom block a r
  live_kept block a r within kept (inl read) =
      inl (ap (λ run. reads_first run r) (split block a within) ∙ or_right (reads (as_read (extensions_of bytes) (placed_at bytes a)) r) _ (and_from _ _ (not_from_false _ (same_writes (extensions_of bytes) (placed_at bytes a) r ∙ kept)) read))
  live_kept block a r within kept (inr out) =
      inr (ap (λ run. run_writes run r) (split block a within) ∙ or_from _ _ (same_writes (extensions_of bytes) (placed_at bytes a) r ∙ kept) out.0, out.1)

  -- at the end of a block what is live out of it is
  pub live_end : (block : Block) (a r : ℕ) → block.end ≤ a → LiveOut block r → LiveFrom block a r
  live_end block a r past out = inr (ap (λ run. run_writes run r) (none_from bytes block.end (block.end - a) a past), out)

  -- ---- at the start of a block

  pub live_by_start : (block : Block) → Contains graph.blocks block → Contains body block.start → (r : ℕ) → LiveFrom block block.start r → IsLive bytes graph.blocks graph.edges body r block.start
  unfolding instructions_of
  live_by_start block listed within r (inl read) = IsLive.reads (record { listed = listed; starts = refl; within = within }) read
  live_by_start block listed within r (inr (kept, inl leaves)) = IsLive.leaves (record { listed = listed; starts = refl; within = within }) leaves kept
  live_by_start block listed within r (inr (kept, inr (t, on, live))) = IsLive.onward (record { listed = listed; starts = refl; within = within }) kept on live

  module _ (map : InstructionMap) (seeds : List ℕ) (entry : ℕ) (is : IsGraph map seeds entry graph) where
    same_block : (s : ℕ) (block other : Block) → Contains graph.blocks block → s ≡ block.start → IsBlockIn graph.blocks body s other → other ≡ block
    same_block s block other listed start in_body =
        block_unique map seeds other block (is.blocks.sound other in_body.listed) (is.blocks.sound block listed) (in_body.starts ∙ start)

    pub live_at_start : (block : Block) → Contains graph.blocks block → {r s : ℕ} → s ≡ block.start → IsLive bytes graph.blocks graph.edges body r s → LiveFrom block block.start r
    unfolding instructions_of
    live_at_start block listed {r} start (IsLive.reads {s = s} {block = other} in_body read) =
        inl (subst (λ (b : Block). IsTrue (reads_first (rest_of b b.start) r)) (same_block s block other listed start in_body) read)
    live_at_start block listed {r} start (IsLive.leaves {s = s} {block = other} in_body leaves kept) =
        let same = same_block s block other listed start in_body in
        inr (subst (λ (b : Block). IsFalse (run_writes (rest_of b b.start) r)) same kept, inl (subst (Leaves graph.edges body) same leaves))
    live_at_start block listed {r} start (IsLive.onward {s = s} {t = t} {block = other} in_body kept on live) =
        let same = same_block s block other listed start in_body in
        inr (subst (λ (b : Block). IsFalse (run_writes (rest_of b b.start) r)) same kept, inr (t, subst (λ s. LeadsOn graph.edges s t) start on, live))
