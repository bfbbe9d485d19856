use Rattle.std.proofs.Common.{◌≡◌, ℕ, ◌+◌, ◌-◌, ◌∙◌, take, drop, sym, ap, arith}
use Rattle.std.specs.List.{list_all}
use Rattle.elf_image.proofs.Numbers.{adds_nothing, kept-none, kept-some}
use Rattle.elf_image.proofs.attributes.uleb128.Goals as goal

pub returns-in_err-last-clause-number : goal.returns-in_err-last-clause-number
returns-in_err-last-clause-number c =
    c.from_residual.ensures ∙ sym (kept-none c.args.bytes.now (sym c.in_err-last.ensures))

less_one : (n : ℕ) → n + 1 - 1 ≡ n
less_one n = omega arith

pub returns-clause-number : goal.returns-clause-number
returns-clause-number c =
    sym (kept-some c.args.bytes.now c.in_ok-last.last c.adds_nothing.result (sym c.in_ok-last.ensures)
    (c.adds_nothing.ensures ∙ ap (λ n. list_all adds_nothing (take n (drop 1 c.args.bytes.now))) (less_one c.in_ok-last.last)))
