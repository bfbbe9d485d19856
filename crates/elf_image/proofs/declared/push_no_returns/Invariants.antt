use Rattle.std.proofs.Common.{◌≡◌, ◌+◌, ◌*◌, ◌++◌, map}
use Rattle.std.specs.List.{range_with_len}
use Rattle.elf_image.specs.Number.{u64_at}
use Rattle.elf_image.proofs.declared.push_no_returns.Given as goal

abbrev pub invariant-loop-i : goal.invariant-loop-i
invariant-loop-i l =
    l.found.items ≡ l.fn.found.items ++ map (λ i. u64_at l.bytes (l.s.offset + 8 * i)) (range_with_len 0 l.i)
