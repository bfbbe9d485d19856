-- The seeds of a file are seeds of its program under any cuts.
use Rattle.std.proofs.Common.{◌≡◌, ℕ, true, Option, List, ◌∷◌, get_or, refl, sym, subst, arith, ⊎_elim, map}
use Rattle.std.specs.Prelude.{Contains}
use Rattle.std.specs.List.Sorted.{IsStrictlyIncreasing}
use Rattle.std.proofs.lemmas.List.Elements.{All-contains, Contains-get_or}
use Rattle.elf_image.specs.Code.{is_code}
use Rattle.elf_image.specs.Faults.{IsImage}
use Rattle.elf_image.specs.Header.{entry}
use Rattle.elf_image.specs.Seeds.{rising, seeds}
use Rattle.elf_image.specs.Symbols.{Symbol, seed_symbols}
use Rattle.elf_image.proofs.Accepted.{entry_is_code}
use Rattle.elf_symbols.proofs.Codes.{code-seed_symbols}
use Rattle.elf_symbols.proofs.Members.{Contains-here, Contains-cons_cases, Contains-from_map}
use Rattle.elf_symbols.proofs.Rising.{increasing-from_ascends, rising-ascends, rising-keeps, rising-adds_none}
use Rattle.cfg_model.specs.Program.Reach.{AreSeeds}
use Rattle.code_view.specs.Program.{program_under}
use Rattle.code_view.proofs.Lawful.{code-program}

module _ (bytes : List ℕ) where
  -- The addresses whose rising list the seeds are.
  abbrev given : List ℕ
  given = entry bytes ∷ map (λ (s : Symbol). s.value) (seed_symbols bytes)

  seeds-are : seeds bytes ≡ rising given
  unfolding seeds
  seeds-are = refl

  rising-seeds : IsStrictlyIncreasing (seeds bytes)
  rising-seeds = subst IsStrictlyIncreasing (sym seeds-are) (increasing-from_ascends (rising given) (rising-ascends given))

  has-entry : Contains (seeds bytes) (entry bytes)
  has-entry = subst (λ xs. Contains xs (entry bytes)) (sym seeds-are) (rising-keeps given (entry bytes) (Contains-here (entry bytes) (map (λ (s : Symbol). s.value) (seed_symbols bytes))))

  module _ (accepted : IsImage bytes) where
    given-code : (a : ℕ) → Contains given a → is_code bytes a ≡ true
    given-code a there = ⊎_elim
        (λ same. subst (λ x. is_code bytes x ≡ true) same (entry_is_code bytes accepted))
        (λ later. let s = Contains-from_map (λ (s : Symbol). s.value) (seed_symbols bytes) a later in
        subst (λ x. is_code bytes x ≡ true) s.2 (All-contains (λ (s : Symbol). is_code bytes s.value ≡ true) (seed_symbols bytes) s.0 (code-seed_symbols bytes) s.1))
        (Contains-cons_cases (entry bytes) (map (λ (s : Symbol). s.value) (seed_symbols bytes)) a there)

    seed-code : (a : ℕ) → Contains (seeds bytes) a → is_code bytes a ≡ true
    seed-code a there = given-code a (rising-adds_none given a (subst (λ xs. Contains xs a) seeds-are there))

    pub are-seeds : (cuts : ℕ → Option ℕ) → AreSeeds (program_under bytes cuts) (seeds bytes)
    are-seeds cuts = record {
      rising = rising-seeds;
      some = let there = has-entry in omega (arith, there.1);
      known = λ i d within. code-program bytes cuts (get_or (seeds bytes) i d) (seed-code (get_or (seeds bytes) i d) (Contains-get_or (seeds bytes) i d within));
    }
