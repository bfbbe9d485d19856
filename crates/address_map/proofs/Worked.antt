-- The definitions, computed on a few values.
use Rattle.std.proofs.Common.{◌≡◌, refl, arith}
use Rattle.std.specs.Prelude.{Some, None}
use Rattle.address_map.specs.Least.{IsLeast, IsAbove, lesser_of}
use Rattle.address_map.specs.inner.Grouped.{chunk_of, page_of, region_of, place_of}

-- the lesser of two addresses
lesser_found : lesser_of (Some 0x10008) (Some 0x10004) ≡ Some 0x10004
lesser_found = refl

only_found : lesser_of None (Some 0x10004) ≡ Some 0x10004
only_found = refl

-- a number is the least above another only if it lies above it
least_above : IsLeast (λ k. (k ≡ 0x10004) × IsAbove (Some 0x10000) k) (Some 0x10004)
least_above = ((refl, omega arith), λ y is. omega (arith, is.0))

none_above : IsLeast (λ k. (k ≡ 0x10004) × IsAbove (Some 0x10004) k) None
none_above x is = omega (arith, is.0, is.1)

-- the last page of a chunk, the last chunk of a region, and what comes after them
last_page : page_of 0x3ffff ≡ 63
last_page = refl

next_chunk : chunk_of 0x40000 ≡ 1
next_chunk = refl

last_place : place_of 0x3ffffff ≡ 255
last_place = refl

next_region : region_of 0x4000000 ≡ 1
next_region = refl
