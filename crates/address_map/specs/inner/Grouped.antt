-- A map in groups: which group a key belongs to, and what the groups are together.
use Rattle.std.specs.Prelude.{◌≡◌, ◌≤◌, ◌==◌, ℕ, ◌/◌, ◌%◌, List, [], ◌∷◌, ◌++◌}
use Rattle.std.specs.Prelude.{Option, Some, None, ◌<◌, IsSome, slice_index_or, if◌then◌else◌}
use Rattle.std.specs.Ordering.{nat_cmp}
use Rattle.std.specs.FinMap as maps
use Rattle.std.specs.BTreeMap.{is_at}
use Rattle.std.specs.Map.{lookup}

-- The number of the chunk of 64 pages that k lies in, and of its page in there.
abbrev pub chunk_of : ℕ → ℕ
chunk_of k = k / 262144

abbrev pub page_of : ℕ → ℕ
page_of k = k / 4096 % 64

-- The number of the region of 256 chunks that k lies in, and the place of its chunk in there.
abbrev pub region_of : ℕ → ℕ
region_of k = k / 67108864

abbrev pub place_of : ℕ → ℕ
place_of k = k / 262144 % 256

-- 0 for a key of the region of this number, and 1 for one of another region.
abbrev pub side_of : ℕ → ℕ → ℕ
side_of number k = if region_of k == number then 0 else 1

-- Each of these parts of a map has only keys that are at home in it.
abbrev pub AreParts : {X : Type 0} → (ℕ → ℕ) → List (maps.FinMap nat_cmp X) → Type 0
AreParts home parts = (i a : ℕ) → IsSome (maps.get (slice_index_or parts i maps.empty) a) → home a ≡ i

-- The entries of all chunks, one chunk after the other.
abbrev pub chunk_entries : {X : Type 0} → List (ℕ × maps.FinMap nat_cmp X) → List (ℕ × X)
chunk_entries [] = []
chunk_entries (e ∷ es) = maps.entries e.1 ++ chunk_entries es

-- Each chunk has only keys of its number.
abbrev pub AreChunks : {X : Type 0} → List (ℕ × maps.FinMap nat_cmp X) → Type 0
AreChunks {X} chunks =
    (n : ℕ) (chunk : maps.FinMap nat_cmp X) → lookup (is_at (nat_cmp n)) chunks ≡ Some chunk
    → (a : ℕ) → IsSome (maps.get chunk a) → chunk_of a ≡ n

-- All keys lie in one chunk.
abbrev pub AreTogether : {X : Type 0} → maps.FinMap nat_cmp X → Type 0
AreTogether m = (x y : ℕ) → IsSome (maps.get m x) → IsSome (maps.get m y) → chunk_of x ≡ chunk_of y

-- All keys lie in the region of this number.
abbrev pub AreInRegion : {X : Type 0} → maps.FinMap nat_cmp X → ℕ → Type 0
AreInRegion m number = (x : ℕ) → IsSome (maps.get m x) → region_of x ≡ number

-- x does not lie before that page of the chunk at this place of a region.
abbrev pub IsFrom : ℕ → ℕ → ℕ → Type 0
IsFrom place page x = (place ≤ place_of x) × (place ≡ place_of x → page ≤ page_of x)

-- x is a key of the chunk of this number; it is the next one after a in the chunk of a.
abbrev pub IsInChunk : {X : Type 0} → maps.FinMap nat_cmp X → ℕ → ℕ → Type 0
IsInChunk m n x = IsSome (maps.get m x) × (chunk_of x ≡ n)

abbrev pub IsNextInChunk : {X : Type 0} → maps.FinMap nat_cmp X → Option ℕ → ℕ → Type 0
IsNextInChunk m None x = ⊥
IsNextInChunk m (Some a) x = IsSome (maps.get m x) × (chunk_of x ≡ chunk_of a) × (a < x)

-- x is a key above a in the page of a: in its chunk, and there in its page.
abbrev pub IsNextByPlace : {X : Type 0} → maps.FinMap nat_cmp X → ℕ → ℕ → Type 0
IsNextByPlace m a x =
    IsSome (maps.get m x) × (a < x) × (chunk_of x ≡ chunk_of a) × (page_of x ≡ page_of a)
