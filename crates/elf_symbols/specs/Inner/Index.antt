-- What `Seeds` keeps. No public clause names what stands here.
use Rattle.std.specs.Prelude.{◌≡◌}
use Rattle.std.specs.List.Sorted.{IsStrictlyIncreasing}
use Rattle.elf_symbols.specs.declared.seed.Seeds.TheInside.{Inside}
use Rattle.elf_symbols.specs.Seeds.{addresses_of}

-- the addresses stand beside the seeds to be searched, and rise
pub record IsIndexed (s : Inside) : Type 0 where
  pub addresses : s.addresses.items ≡ addresses_of s.seeds.items
  pub rising : IsStrictlyIncreasing s.addresses.items
