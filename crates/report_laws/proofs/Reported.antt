-- What the laws ask of a graph holds of the graph of a file without a fault.
use Rattle.std.proofs.Common.{◌≡◌, ℕ, ◌≤◌, true, List, ◌∷◌, map, Contains, Option, Some, None, IsSome, refl, sym, ap, ◌∙◌, subst, inl, inr, arith}
use Rattle.std.specs.Option.{option_map}
use Rattle.std.proofs.Math.Nat.{le-max_left}
use Rattle.std.proofs.lemmas.Option.{same_Some}
use Rattle.std.proofs.lemmas.List.Elements.{All-contains, Contains-get_or}
use Rattle.elf_image.specs.declared.fault.Fault.{Fault}
use Rattle.elf_image.specs.Faults.{IsImage, first_fault, first_image_fault}
use Rattle.elf_image.specs.Header.{entry}
use Rattle.elf_image.specs.Code.{is_code}
use Rattle.elf_image.specs.Seeds.{rising, seeds}
use Rattle.elf_image.specs.Symbols.{Symbol, seed_symbols}
use Rattle.elf_image.proofs.Accepted.{entry_is_code}
use Rattle.elf_image.proofs.FirstFault.{first-from_image}
use Rattle.elf_symbols.proofs.Codes.{code-seed_symbols}
use Rattle.elf_symbols.proofs.Members.{Contains-here, Contains-cons_cases, Contains-from_map}
use Rattle.elf_symbols.proofs.Rising.{rising-ascends, rising-keeps, rising-adds_none, increasing-from_ascends}
use Rattle.cfg_model.specs.Program.Instructions.{Instruction}
use Rattle.cfg_model.specs.Program.Cuts.{Extent, AreCuts}
use Rattle.cfg_model.specs.Program.Reach.{AreSeeds}
use Rattle.code_view.specs.Cuts.{CutsFit}
use Rattle.code_view.specs.Program.{program_under}
use Rattle.code_view.proofs.Lawful.{program-at_code}
use Rattle.table_cuts.specs.Extents.{extent_of, extent_at}
use Rattle.table_cuts.proofs.Counted.{has-table}
use Rattle.run_laws.proofs.Whole.{outline_of_file}
use Rattle.report_laws.specs.Reported.{cuts_of, ReportsAreOfFiles, ReportsHaveOutlines}

-- ---- the image

accepted : (bytes : List ℕ) → first_fault bytes ≡ None → IsImage bytes
accepted bytes none = by (first_image_fault bytes) refl
  where
    by : (o : Option Fault) → first_image_fault bytes ≡ o → o ≡ None
    by None e = refl
    by (Some fault) e = let h : ◌≡◌ {A = Option Fault} (Some fault) None = sym (first-from_image bytes fault e) ∙ none in cc

-- ---- cuts of tables fit their file

fits : (bytes : List ℕ) (cuts : ℕ → Option ℕ) → AreCuts (extent_at bytes) cuts → CutsFit bytes cuts
fits bytes cuts are j count is =
    let cut = (are j count).0 is in
    let has = has-table bytes j cut.table cut.at_jump in
    let same : extent_of has.table ≡ cut.table = same_Some (extent_of has.table) cut.table (sym (ap (option_map extent_of) has.at_jump) ∙ cut.at_jump) in
    let as_many : has.table.count ≡ cut.table.count = ap (λ (e : Extent). e.count) same in
    let fewer : count ≤ cut.table.count = omega (arith, cut.fewer) in
    record {
      table = has.table;
      at_jump = has.at_jump;
      some = subst (λ n. 1 ≤ n) (sym cut.entries) (le-max_left 1 _);
      within = omega (arith, as_many, fewer);
    }

-- ---- seeds

module _ (bytes : List ℕ) where
  abbrev given : List ℕ
  given = entry bytes ∷ map (λ (s : Symbol). s.value) (seed_symbols bytes)

  given_is_code : IsImage bytes → (a : ℕ) → Contains given a → is_code bytes a ≡ true
  given_is_code image a there = elim (Contains-cons_cases (entry bytes) (map (λ (s : Symbol). s.value) (seed_symbols bytes)) a there) [
    | inl same ↦ subst (λ a. is_code bytes a ≡ true) same (entry_is_code bytes image)
    | inr later ↦
        let s = Contains-from_map (λ (s : Symbol). s.value) (seed_symbols bytes) a later in
        subst (λ a. is_code bytes a ≡ true) s.2 (All-contains (λ (s : Symbol). is_code bytes s.value ≡ true) (seed_symbols bytes) s.0 (code-seed_symbols bytes) s.1)
  ]

  stands : (cuts : ℕ → Option ℕ) (a : ℕ) → is_code bytes a ≡ true → IsSome (program_under bytes cuts a)
  stands cuts a code = by (program_under bytes cuts a) (program-at_code bytes cuts a code)
    where
      by : (o : Option Instruction) {i : Instruction} → o ≡ Some i → IsSome o
      by None e = cc
      by (Some i) e = refl

  pub entry_is_seed : Contains (seeds bytes) (entry bytes)
  unfolding seeds
  entry_is_seed = rising-keeps given (entry bytes) (Contains-here (entry bytes) (map (λ (s : Symbol). s.value) (seed_symbols bytes)))

  are_seeds : IsImage bytes → (cuts : ℕ → Option ℕ) → AreSeeds (program_under bytes cuts) (seeds bytes)
  unfolding seeds
  are_seeds image cuts = record {
    rising = increasing-from_ascends (rising given) (rising-ascends given);
    some = let there = entry_is_seed in omega (arith, there.1);
    known = λ k d within. stands cuts _ (given_is_code image _ (rising-adds_none given _ (Contains-get_or (rising given) k d within)));
  }

pub of_files : ReportsAreOfFiles
of_files bytes graph is =
    let image = accepted bytes is.no_fault in
    record {
      accepted = image;
      fit = fits bytes (cuts_of is) is.is_graph.are_cuts;
      start = are_seeds bytes image (cuts_of is);
      entry = entry bytes;
      is = is.is_graph.is_graph;
    }

pub have_outlines : ReportsHaveOutlines
have_outlines bytes graph is = outline_of_file bytes (cuts_of is) (seeds bytes) graph (of_files bytes graph is)
