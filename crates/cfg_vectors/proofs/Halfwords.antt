-- The symbols of row 31, one more each time.
use Rattle.std.proofs.Common.{◌≡◌, ℕ, zero, suc, ◌+◌, ◌*◌, [], ◌∷◌, ◌++◌, ◌∙◌, refl, ap, arith}
use Rattle.std.specs.Prelude.{codes}
use Rattle.elf_maker.specs.declared.parts.MadeSymbol.{MadeSymbol}
use Rattle.cfg_vectors.specs.Rows.{each_halfword}

-- the function at an address
abbrev pub named_s : ℕ → MadeSymbol
named_s address = record { name = codes "s"; address = address }

-- one halfword more is the one behind the others
one_behind : (a n b : ℕ) → b ≡ a + 2 * n → each_halfword a (suc n) ≡ each_halfword a n ++ named_s b ∷ []
one_behind a zero b at = let same : a ≡ b = omega (arith, at) in ap (λ x. named_s x ∷ []) same
one_behind a (suc n) b at = ap (λ rest. named_s a ∷ rest) (one_behind (a + 2) n b (omega (arith, at)))

pub one_more : (a n : ℕ) → each_halfword a (n + 1) ≡ each_halfword a n ++ named_s (a + 2 * n) ∷ []
one_more a n = let next : n + 1 ≡ suc n = omega arith in ap (each_halfword a) next ∙ one_behind a n (a + 2 * n) refl
