-- The program of an accepted file is lawful under table cuts that fit.
use Rattle.std.proofs.Common.{◌≡◌, ℕ, ◌+◌, ◌-◌, ◌<◌, ◌≤◌, ◌^◌, ◌&&◌, ◌%◌, ◌/◌, ◌⊎◌, ◌==◌, Bool, true, false, cond, List, [], ◌∷◌, ◌++◌, length, get_or, Option, Some, None, is_some, refl, sym, ap, ◌∙◌, subst, inl, inr, arith}
use Rattle.std.specs.Prelude.{ℤ, All, IsSome, IfSome, option_to_list}
use Rattle.std.specs.Option.{option_map, option_map_or, option_and_then}
use Rattle.std.proofs.lemmas.Option.{cond_some, same_Some}
use Rattle.std.proofs.lemmas.List.{length-take-le}
use Rattle.std.proofs.lemmas.List.Elements.{All-nil, All-cons, All-take}
use Rattle.std.proofs.lemmas.Bool.{cond_both, cond-true}
use Rattle.elf_image.specs.declared.section.Section.{Section}
use Rattle.elf_image.specs.Sections.{holds_bytes}
use Rattle.elf_image.specs.Number.{u32_at}
use Rattle.elf_image.specs.Sections.{file_offset}
use Rattle.elf_image.specs.Architecture.{extensions_of}
use Rattle.elf_image.specs.Code.{is_code, code_section_of, half_at, word_at, word_in}
use Rattle.elf_image.specs.Faults.{IsImage}
use Rattle.elf_symbols.specs.NoReturn.{is_no_return}
use Rattle.landing_pads.specs.Pad.{pad_at}
use Rattle.elf_image.specs.Inner.Found.{IsFoundAt}
use Rattle.elf_image.proofs.Accepted.{code_section-found}
use Rattle.elf_image.proofs.LaidOut.{holds-true}
use Rattle.rv_decode.specs.declared.instructions.Insn.{Insn}
use Rattle.rv_flow.specs.declared.placed.Placed.{Placed}
use Rattle.rv_flow.specs.declared.raw.RawFlow.{RawFlow}
use Rattle.rv_flow.specs.declared.raw.RawFlow.TheVariants as raw
use Rattle.rv_flow.specs.Placed.{placed_at, placed_by, whole, whole_insn, bad}
use Rattle.rv_flow.specs.Raw.{raw_flow_at, raw_flow_by}
use Rattle.jump_table.specs.declared.table.Table.{Table}
use Rattle.jump_table.specs.Table.{table_at, table_targets}
use Rattle.jump_table.proofs.Targets.{IsTable, is_table}
use Rattle.cfg_model.specs.declared.flow.Flow.{Flow}
use Rattle.cfg_model.specs.Program.Instructions.{Instruction, IsLawfulAt, IsLawful, FlowFits, named_by, length_at, flow_at, targets_at}
use Rattle.code_view.specs.Cuts.{CutsFit}
use Rattle.code_view.specs.Flow.{in_code, straight_flow, jump_flow, call_flow, call_fall, pad_behind, table_flow, flow_by, kept_by, kept_entries}
use Rattle.code_view.specs.Program.{instruction_at, program_under}

-- ---- lengths

-- An instruction has 2 bytes; or it has 4, and the whole word is there.
abbrev IsPlaced : List ℕ → ℕ → Placed → Type 0
IsPlaced bytes a placed = (placed.length ≡ 2) ⊎ ((placed.length ≡ 4) × IsSome (word_at bytes a))

module _ (bytes : List ℕ) (a : ℕ) where
  whole-decoded : (w : ℕ) → word_at bytes a ≡ Some w → (insn : Option Insn) → IsPlaced bytes a (whole insn)
  whole-decoded w is None = inl refl
  whole-decoded w is (Some insn) = inr (refl, ap (λ o. is_some o) is)

  whole-placed : (word : Option ℕ) → word_at bytes a ≡ word → IsPlaced bytes a (whole (whole_insn (extensions_of bytes) word))
  whole-placed None is = inl refl
  whole-placed (Some w) is = whole-decoded w is (whole_insn (extensions_of bytes) (Some w))

  by-half : (half : Option ℕ) → IsPlaced bytes a (option_map_or (placed_by (extensions_of bytes) bytes a) half bad)
  by-half None = inl refl
  by-half (Some half) =
      cond_both (half % 4 == 3) _ _ (IsPlaced bytes a)
      (λ _. cond_both (half / 4 % 8 == 7) _ _ (IsPlaced bytes a) (λ _. inl refl) (λ _. whole-placed (word_at bytes a) refl))
      (λ _. inl refl)

  pub is-placed : IsPlaced bytes a (placed_at bytes a)
  is-placed = by-half (half_at bytes a)

-- ---- ends

module _ (bytes : List ℕ) (a : ℕ) where
  short-end : (s : Option Section) → IfSome s (IsFoundAt bytes a 2) → is_some s ≡ true → a + 2 < 2 ^ 64
  short-end None found there = absurd (cc)
  short-end (Some s) found there = omega (arith, found.end, found.in_memory)

  long-end-in : (s : Section) → IsFoundAt bytes a 2 s → (b : Bool) → holds_bytes a 4 s ≡ b → is_some (cond b (Some (u32_at bytes (file_offset s a))) None) ≡ true → a + 4 < 2 ^ 64
  long-end-in s found true holds there = let h = holds-true a 4 s holds in omega (arith, h.1, found.in_memory)
  long-end-in s found false holds there = absurd (cc)

  long-end : (s : Option Section) → IfSome s (IsFoundAt bytes a 2) → is_some (option_and_then (word_in bytes a) s) ≡ true → a + 4 < 2 ^ 64
  long-end None found there = absurd (cc)
  long-end (Some s) found there = long-end-in s found (holds_bytes a 4 s) refl there

module _ (bytes : List ℕ) (accepted : IsImage bytes) (a : ℕ) (code : is_code bytes a ≡ true) where
  end-of : (placed : Placed) → IsPlaced bytes a placed → a + placed.length < 2 ^ 64
  end-of placed (inl short) =
      let end : a + 2 < 2 ^ 64 = short-end bytes a (code_section_of bytes a) (code_section-found bytes accepted a) code in
      omega (arith, short, end)
  end-of placed (inr long) =
      let end : a + 4 < 2 ^ 64 = long-end bytes a (code_section_of bytes a) (code_section-found bytes accepted a) long.1 in
      omega (arith, long.0, end)

  pub placed-end : a + (placed_at bytes a).length < 2 ^ 64
  placed-end = end-of (placed_at bytes a) (is-placed bytes a)

pub placed-size : (bytes : List ℕ) (a : ℕ) → ((placed_at bytes a).length ≡ 2) ⊎ ((placed_at bytes a).length ≡ 4)
placed-size bytes a = go (placed_at bytes a) (is-placed bytes a)
  where
    go : (placed : Placed) → IsPlaced bytes a placed → (placed.length ≡ 2) ⊎ (placed.length ≡ 4)
    go placed (inl short) = inl short
    go placed (inr long) = inr long.0

-- ---- tables

-- How many entries are kept of a table: one at least, and not more than there are.
pub record KeptFits (bytes : List ℕ) (cut : Option ℕ) (table : Table) : Type 0 where
  pub is_table : IsTable bytes table
  pub some : 0 < kept_entries cut table
  pub within : kept_entries cut table ≤ table.count

module _ (bytes : List ℕ) (cuts : ℕ → Option ℕ) (fit : CutsFit bytes cuts) (a : ℕ) where
  kept_fits : (cut : Option ℕ) → cuts a ≡ cut → (table : Table) → table_at bytes a ≡ Some table → KeptFits bytes cut table
  kept_fits None is table at =
      let t = is_table bytes a table at in
      record { is_table = t; some = t.some; within = omega arith }
  kept_fits (Some count) is table at =
      let kept = fit a count is in
      let same : kept.table ≡ table = same_Some kept.table table (sym kept.at_jump ∙ at) in
      record {
        is_table = is_table bytes a table at;
        some = kept.some;
        within = subst (λ (t : Table). count ≤ t.count) same kept.within;
      }

  pub table-fits : (o : Option Table) → table_at bytes a ≡ o → IfSome o (KeptFits bytes (cuts a))
  table-fits None is = tt
  table-fits (Some table) is = kept_fits (cuts a) refl table is

-- ---- flows

-- An address that a flow names is one of code.
module _ (bytes : List ℕ) (cuts : ℕ → Option ℕ) where
  abbrev IsKnown : ℕ → Type 0
  IsKnown b = IsSome (program_under bytes cuts b)

  abbrev AllKnown : Option ℕ → Type 0
  AllKnown o = IfSome o IsKnown

  -- An instruction stands at each code address.
  pub code-program : (b : ℕ) → is_code bytes b ≡ true → IsKnown b
  code-program b code = ap (λ o. is_some o) (cond-true (is_code bytes b) (Some (instruction_at bytes (table_at bytes) cuts b)) None code)

  known : (b : ℕ) → AllKnown (in_code bytes b)
  known b = cond_both (is_code bytes b) (Some b) None AllKnown (λ code. code-program b code) (λ _. tt)

  known_fall : (target behind : ℕ) → AllKnown (call_fall bytes target behind)
  known_fall target behind =
      cond_both (is_code bytes target && is_no_return bytes target) None (in_code bytes behind) AllKnown (λ _. tt) (λ _. known behind)

  known_code : (o : Option ℕ) → AllKnown (option_and_then (in_code bytes) o)
  known_code None = tt
  known_code (Some b) = known b

  known_pad : (behind : ℕ) → AllKnown (pad_behind bytes behind)
  known_pad behind = known_code (pad_at bytes (behind - 1))

  both : (o p : Option ℕ) → AllKnown o → AllKnown p → All IsKnown (option_to_list o ++ option_to_list p)
  both None None h k = All-nil IsKnown
  both None (Some y) h k = All-cons IsKnown y [] k (All-nil IsKnown)
  both (Some x) None h k = All-cons IsKnown x [] h (All-nil IsKnown)
  both (Some x) (Some y) h k = All-cons IsKnown x (y ∷ []) h (All-cons IsKnown y [] k (All-nil IsKnown))

  -- What the law says of a flow.
  record FlowIsLawful (a : ℕ) (i : Instruction) (flow : Flow) : Type 0 where
    fits : FlowFits a i flow
    named : All IsKnown (named_by flow)
    kept : All IsKnown i.targets

  -- The flow of an instruction by the options of its target and of the address behind it.
  module _ (a : ℕ) (i : Instruction) where
    none_kept : i.targets ≡ [] → All IsKnown i.targets
    none_kept no_targets = subst (λ targets. All IsKnown targets) (sym no_targets) (All-nil IsKnown)

    straight : (o : Option ℕ) → i.targets ≡ [] → AllKnown o → IfSome o (λ next. next ≡ a + i.bytes) → FlowIsLawful a i (straight_flow o)
    straight None none h next = record { fits = none; named = All-nil IsKnown; kept = none_kept none }
    straight (Some x) none h next = record { fits = (next, none); named = All-cons IsKnown x [] h (All-nil IsKnown); kept = none_kept none }

    jump : (o : Option ℕ) → i.targets ≡ [] → AllKnown o → FlowIsLawful a i (jump_flow o)
    jump None none h = record { fits = none; named = All-nil IsKnown; kept = none_kept none }
    jump (Some x) none h = record { fits = none; named = All-cons IsKnown x [] h (All-nil IsKnown); kept = none_kept none }

    fall : (o : Option ℕ) → AllKnown o → All IsKnown (option_to_list o)
    fall None h = All-nil IsKnown
    fall (Some x) h = All-cons IsKnown x [] h (All-nil IsKnown)

    -- A call keeps one landing pad at most.
    one_pad : (pad : Option ℕ) → length (option_to_list pad) ≤ 1
    one_pad None = omega arith
    one_pad (Some x) = omega arith

    lands : (pad : Option ℕ) → i.targets ≡ option_to_list pad → length i.targets ≤ 1
    lands pad is = subst (λ (targets : List ℕ). length targets ≤ 1) (sym is) (one_pad pad)

    pad_kept : (pad : Option ℕ) → i.targets ≡ option_to_list pad → AllKnown pad → All IsKnown i.targets
    pad_kept pad is h = subst (λ targets. All IsKnown targets) (sym is) (fall pad h)

    call : (o p pad : Option ℕ) → i.targets ≡ option_to_list pad → AllKnown pad → AllKnown o → AllKnown p → FlowIsLawful a i (call_flow o p)
    call None p pad is l h k = record { fits = lands pad is; named = fall p k; kept = pad_kept pad is l }
    call (Some x) p pad is l h k = record { fits = lands pad is; named = All-cons IsKnown x (option_to_list p) h (fall p k); kept = pad_kept pad is l }

    -- A jump through a register: to the first targets of its table.
    through : (behind : ℕ) (cut : Option ℕ) (o : Option Table) (register : ℕ) (offset : ℤ) → i.targets ≡ kept_by bytes behind cut o (raw.RegisterJump register offset) → IfSome o (KeptFits bytes cut) → FlowIsLawful a i (table_flow cut o)
    through behind cut None register offset none h = record { fits = none; named = All-nil IsKnown; kept = none_kept none }
    through behind cut (Some table) register offset is h =
        let all = table_targets bytes table in
        let n = kept_entries cut table in
        let enough : n ≤ length all = omega (arith, h.within, h.is_table.counted) in
        let targets : All IsKnown all = λ k d below. code-program (get_or all k d) (h.is_table.targets k d below).code in
        record {
          fits = (sym (ap (λ xs. length xs) is ∙ length-take-le n all enough), h.some);
          named = All-nil IsKnown;
          kept = subst (λ xs. All IsKnown xs) (sym is) (All-take IsKnown n all targets);
        }

    lawful_by : (behind : ℕ) → behind ≡ a + i.bytes → (cut : Option ℕ) (table : Option Table) → IfSome table (KeptFits bytes cut)
        → (r : RawFlow) → i.targets ≡ kept_by bytes behind cut table r → FlowIsLawful a i (flow_by bytes behind cut table r)
    lawful_by behind is cut table h raw.Straight none =
        straight (in_code bytes behind) none (known behind) (cond_both (is_code bytes behind) (Some behind) None (λ o. IfSome o (λ next. next ≡ a + i.bytes)) (λ _. is) (λ _. tt))
    lawful_by behind is cut table h (raw.Branch target) none =
        record { fits = none; named = both (in_code bytes target) (in_code bytes behind) (known target) (known behind); kept = none_kept none }
    lawful_by behind is cut table h (raw.Jump target) none = jump (in_code bytes target) none (known target)
    lawful_by behind is cut table h (raw.Call target) pad =
        call (in_code bytes target) (call_fall bytes target behind) (pad_behind bytes behind) pad (known_pad behind) (known target) (known_fall target behind)
    lawful_by behind is cut table h raw.IndirectCall pad =
        call None (in_code bytes behind) (pad_behind bytes behind) pad (known_pad behind) tt (known behind)
    lawful_by behind is cut table h raw.Return none = record { fits = none; named = All-nil IsKnown; kept = none_kept none }
    lawful_by behind is cut table h raw.Unknown none = record { fits = none; named = All-nil IsKnown; kept = none_kept none }
    lawful_by behind is cut table h (raw.RegisterJump register offset) first = through behind cut table register offset first h
    lawful_by behind is cut table h raw.Stop none = record { fits = none; named = All-nil IsKnown; kept = none_kept none }

-- ---- the program

module _ (bytes : List ℕ) (accepted : IsImage bytes) (cuts : ℕ → Option ℕ) (fit : CutsFit bytes cuts) where
  at_code : (a : ℕ) → is_code bytes a ≡ true → IsLawfulAt (program_under bytes cuts) a (instruction_at bytes (table_at bytes) cuts a)
  unfolding instruction_at
  at_code a code =
      let flow = lawful_by bytes cuts a (instruction_at bytes (table_at bytes) cuts a) (a + (placed_at bytes a).length) refl
      (cuts a) (table_at bytes a) (table-fits bytes cuts fit a (table_at bytes a) refl) (raw_flow_at bytes a) refl in
      record {
        size = placed-size bytes a;
        ends = placed-end bytes accepted a code;
        fits = flow.fits;
        named = flow.named;
        kept = flow.kept;
      }

  pub program-lawful : IsLawful (program_under bytes cuts)
  program-lawful a i is =
      let parts = cond_some (is_code bytes a) (instruction_at bytes (table_at bytes) cuts a) i is in
      subst (λ j. IsLawfulAt (program_under bytes cuts) a j) parts.1 (at_code a parts.0)

module _ (bytes : List ℕ) (cuts : ℕ → Option ℕ) (a : ℕ) where
  -- An instruction stands at no other address.
  pub code_of : IsSome (program_under bytes cuts a) → is_code bytes a ≡ true
  code_of there = go (is_code bytes a) there
    where
      go : (b : Bool) → is_some (cond b (Some (instruction_at bytes (table_at bytes) cuts a)) None) ≡ true → b ≡ true
      go true h = refl
      go false h = absurd (cc)

  pub program-at_code : is_code bytes a ≡ true → program_under bytes cuts a ≡ Some (instruction_at bytes (table_at bytes) cuts a)
  program-at_code code = cond-true (is_code bytes a) _ _ code

  pub length-program : is_code bytes a ≡ true → (placed : Placed) → placed ≡ placed_at bytes a → length_at (program_under bytes cuts) a ≡ Some placed.length
  unfolding instruction_at
  length-program code placed is =
      ap (λ o. option_map (λ (i : Instruction). i.bytes) o) (program-at_code code) ∙ ap (λ (p : Placed). Some p.length) (sym is)

  pub flow-program : is_code bytes a ≡ true → (placed : Placed) → placed ≡ placed_at bytes a
      → flow_at (program_under bytes cuts) a ≡ Some (flow_by bytes (a + placed.length) (cuts a) (table_at bytes a) (raw_flow_by bytes a placed.insn))
  unfolding instruction_at
  flow-program code placed is =
      ap (λ o. option_map (λ (i : Instruction). i.flow) o) (program-at_code code)
      ∙ ap (λ (p : Placed). Some (flow_by bytes (a + p.length) (cuts a) (table_at bytes a) (raw_flow_by bytes a p.insn))) (sym is)

  pub targets-program : is_code bytes a ≡ true → targets_at (program_under bytes cuts) a ≡ kept_by bytes (a + (placed_at bytes a).length) (cuts a) (table_at bytes a) (raw_flow_at bytes a)
  unfolding instruction_at
  targets-program code = ap (λ o. option_map_or (λ (i : Instruction). i.targets) o []) (program-at_code code)
