-- The numbers of the code addresses of a file.
use Rattle.std.proofs.Common.{◌≡◌, ℕ, ◌<◌, ◌^◌, true, List, Option, is_some, IsSome, ap, sym, subst, arith, inl, inr}
use Rattle.std.proofs.lemmas.Bool.{cases_order}
use Rattle.elf_image.specs.Code.{is_code}
use Rattle.elf_image.specs.Faults.{IsImage}
use Rattle.chain_index.specs.Numbers.{codes_below, code_count}
use Rattle.chain_index.proofs.Counts.{code_numbered, numbers_rise, numbers_are_below}
use Rattle.code_view.specs.Program.{program_under}
use Rattle.code_view.proofs.Lawful.{code_of, program-at_code}
use Rattle.numbered.specs.Numbering.{IsNumbering, NumbersRise}

pub code-numbering : (bytes : List ℕ) (cuts : ℕ → Option ℕ) (count : ℕ) → IsImage bytes → count ≡ code_count bytes → IsNumbering (program_under bytes cuts) (codes_below bytes) count
code-numbering bytes cuts count accepted is = record {
  below = λ a has. subst (λ n. codes_below bytes a < n) (sym is) (numbers_are_below bytes a accepted (code_of bytes cuts a has));
  apart = λ a b a_has b_has same. elim (cases_order a b) [
    | inl one ↦ one
    | inr other ↦ elim other [
      | inl less ↦ let up = numbers_rise bytes a b (code_of bytes cuts a a_has) less in absurd (omega (arith, up, same))
      | inr more ↦ let up = numbers_rise bytes b a (code_of bytes cuts b b_has) more in absurd (omega (arith, up, same))
    ]
  ];
}

pub codes-rise : (bytes : List ℕ) (cuts : ℕ → Option ℕ) → NumbersRise (program_under bytes cuts) (codes_below bytes)
codes-rise bytes cuts = record { rise = λ a b a_has b_has less. numbers_rise bytes a b (code_of bytes cuts a a_has) less }

-- each number below the count is that of a code address, at which an instruction stands
pub numbered-code : (bytes : List ℕ) (n : ℕ) → n < code_count bytes → (a : ℕ) × (is_code bytes a ≡ true) × (n ≡ codes_below bytes a)
unfolding code_count
numbered-code bytes n less = code_numbered bytes n (2 ^ 64) less

pub stands : (bytes : List ℕ) (cuts : ℕ → Option ℕ) (a : ℕ) → is_code bytes a ≡ true → IsSome (program_under bytes cuts a)
stands bytes cuts a code = ap is_some (program-at_code bytes cuts a code)
