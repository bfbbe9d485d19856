-- Words of private functions, which no public contract cites.
use Rattle.std.specs.Prelude.{◌≡◌, ◌≢◌, ◌⊎◌, ℕ, ◌<◌, ◌≤◌, List, [], ◌∷◌, ◌++◌, length}
use Rattle.std.specs.Prelude.{Option, Some, None, IsSome, Contains, Bool, IsTrue, IsFalse, slice_index, slice_index_or, if◌then◌else◌}
use Rattle.cfg_model.specs.declared.graph.Block.{Block}
use Rattle.cfg_model.specs.declared.graph.Edge.{Edge}
use Rattle.cfg_model.specs.declared.graph.EdgeKind.TheVariants as kinds
use Rattle.cfg_model.specs.declared.live.Live.{Live}
use Rattle.mask_flow.specs.declared.ways.Way.{Way}
use Rattle.mask_flow.specs.Reaches.{has_bit}
use Rattle.rv_decode.specs.declared.instructions.Insn.{Insn}
use Rattle.rv_flow.specs.declared.placed.Placed.{Placed}
use Rattle.live_regs.specs.declared.effects.Effects.{Effects}
use Rattle.live_regs.specs.declared.effects.PlacedEffects.{PlacedEffects}
use Rattle.elf_image.specs.declared.extensions.Extensions.{Extensions}
use Rattle.live_regs.specs.Effects.{as_read, reads, writes}
use Rattle.live_regs.specs.declared.gather.Nodes.{Nodes}
use Rattle.live_regs.specs.Leaves.{LeadsOn, Leaves}
use Rattle.live_regs.specs.Run.{instructions_of, reads_first, run_writes}

-- What an instruction reads and writes.
pub record AreInsnEffects (insn : Option Insn) (effects : Effects) : Type 0 where
  pub some : IsSome insn
  pub reads : (r : ℕ) → r < 32 → has_bit effects.reads r ≡ reads insn r
  pub writes : (r : ℕ) → r < 32 → has_bit effects.writes r ≡ writes insn r

-- The same, where what is no instruction has none.
abbrev pub AreEffectsIf : Option Insn → Option Effects → Type 0
AreEffectsIf insn None = insn ≡ None
AreEffectsIf insn (Some effects) = AreInsnEffects insn effects

-- What an AUIPC that writes x0 reads and writes.
abbrev pub label_effects : Bool → Effects
label_effects named = record { reads = if named then 128 else 0; writes = 0 }

-- The length of an instruction in its place, and what it reads and writes.
pub record ArePlacedEffects (e : Extensions) (placed : Placed) (found : PlacedEffects) : Type 0 where
  pub length : found.length ≡ placed.length
  pub reads : (r : ℕ) → r < 32 → has_bit found.effects.reads r ≡ reads (as_read e placed) r
  pub writes : (r : ℕ) → r < 32 → has_bit found.effects.writes r ≡ writes (as_read e placed) r

-- One of these blocks starts at a.
abbrev pub HasBlockAt : List Block → ℕ → Type 0
HasBlockAt blocks a = (block : Block) × Contains blocks block × (block.start ≡ a)

-- The block of this number starts at a.
pub record IsNumber (blocks : List Block) (a number : ℕ) : Type 0 where
  pub within : number < length blocks
  pub starts : (d : Block) → (slice_index_or blocks number d).start ≡ a

-- This is the place of an address among these.
pub record IsPlace (addresses : List ℕ) (a place : ℕ) : Type 0 where
  pub within : place < length addresses
  pub at : slice_index addresses place ≡ a

-- The edges before this place leave lower addresses than a, and the others do not.
pub record IsFirst (edges : List Edge) (a first : ℕ) : Type 0 where
  pub within : first ≤ length edges
  pub before : (k : ℕ) (d : Edge) → k < first → (slice_index_or edges k d).from < a
  pub behind : (k : ℕ) (d : Edge) → first ≤ k → k < length edges
      → a ≤ (slice_index_or edges k d).from

-- Bit r of the mask of a block by itself, and of what stops there.
pub record IsNodeOf (bytes : List ℕ) (edges : List Edge) (body : List ℕ) (block : Block)
    (stop mask : ℕ) : Type 0 where
  pub stops : (r : ℕ) → r < 32 → has_bit stop r ≡ run_writes (instructions_of bytes block) r
  pub reads : (r : ℕ) → r < 32 → IsTrue (reads_first (instructions_of bytes block) r)
      → IsTrue (has_bit mask r)
  pub leaves : (r : ℕ) → 1 ≤ r → r < 32 → Leaves edges body block
      → IsFalse (run_writes (instructions_of bytes block) r) → IsTrue (has_bit mask r)
  pub only : (r : ℕ) → r < 32 → IsTrue (has_bit mask r)
      → IsTrue (reads_first (instructions_of bytes block) r)
      ⊎ ((1 ≤ r) × Leaves edges body block × IsFalse (run_writes (instructions_of bytes block) r))

-- An edge that is no call leads on within the body, from this place of it along this way.
pub record IsWayOf (body : List ℕ) (place : ℕ) (edge : Edge) (way : Way) : Type 0 where
  pub no_call : edge.kind ≢ kinds.Call
  pub from : way.from ≡ place
  pub target : IsPlace body edge.to way.to

-- The ways along these edges from a place of the body are added, and it is known whether another one
-- of these edges leaves the body.
pub record AddsWays (edges : List Edge) (body : List ℕ) (place : ℕ) (old new : List Way)
    (left : Bool) : Type 0 where
  pub kept : (way : Way) → Contains old way → Contains new way
  pub only : (way : Way) → Contains new way
      → Contains old way ⊎ ((edge : Edge) × Contains edges edge × IsWayOf body place edge way)
  pub added : (edge : Edge) → Contains edges edge → edge.kind ≢ kinds.Call → Contains body edge.to
      → (way : Way) × Contains new way × IsWayOf body place edge way
  pub leaves : IsTrue left → (edge : Edge) × Contains edges edge × (edge.kind ≢ kinds.Call)
      × (¬ Contains body edge.to)
  pub stays : (edge : Edge) → ¬ IsTrue left → Contains edges edge → edge.kind ≢ kinds.Call
      → Contains body edge.to

-- One more place of the body is added.
pub record AddsNode (bytes : List ℕ) (blocks : List Block) (edges : List Edge) (body : List ℕ)
    (place : ℕ) (old new : Nodes) : Type 0 where
  pub stop : ℕ
  pub mask : ℕ
  pub stops : new.stops.items ≡ old.stops.items ++ stop ∷ []
  pub masks : new.masks.items ≡ old.masks.items ++ mask ∷ []
  pub node : (block : Block) → Contains blocks block → block.start ≡ slice_index body place
      → IsNodeOf bytes edges body block stop mask
  pub some : (r : ℕ) → r < 32 → IsTrue (has_bit mask r) → HasBlockAt blocks (slice_index body place)
  pub kept : (way : Way) → Contains old.ways.items way → Contains new.ways.items way
  pub only : (way : Way) → Contains new.ways.items way → Contains old.ways.items way
      ⊎ ((way.from ≡ place) × HasBlockAt blocks (slice_index body place) × (way.to < length body)
      × LeadsOn edges (slice_index body place) (slice_index body way.to))
  pub all : (t : ℕ) → HasBlockAt blocks (slice_index body place)
      → LeadsOn edges (slice_index body place) t → Contains body t
      → (way : Way) × Contains new.ways.items way × (way.from ≡ place)
      × (slice_index body way.to ≡ t)

-- The first places of the body are added.
pub record HaveNodes (bytes : List ℕ) (blocks : List Block) (edges : List Edge) (body : List ℕ)
    (count : ℕ) (nodes : Nodes) : Type 0 where
  pub stops : length nodes.stops.items ≡ count
  pub masks : length nodes.masks.items ≡ count
  pub node : (i : ℕ) (block : Block) → i < count → Contains blocks block
      → block.start ≡ slice_index body i
      → IsNodeOf bytes edges body block (slice_index nodes.stops.items i)
      (slice_index nodes.masks.items i)
  pub some : (i r : ℕ) → i < count → r < 32 → IsTrue (has_bit (slice_index nodes.masks.items i) r)
      → HasBlockAt blocks (slice_index body i)
  pub only : (way : Way) → Contains nodes.ways.items way → (way.from < count)
      × HasBlockAt blocks (slice_index body way.from) × (way.to < length body)
      × LeadsOn edges (slice_index body way.from) (slice_index body way.to)
  pub all : (i t : ℕ) → i < count → HasBlockAt blocks (slice_index body i)
      → LeadsOn edges (slice_index body i) t → Contains body t
      → (way : Way) × Contains nodes.ways.items way × (way.from ≡ i) × (slice_index body way.to ≡ t)

-- Each address of the body with its mask.
pub record AreItemsOf (body masks : List ℕ) (items : List Live) : Type 0 where
  pub as_many : length items ≡ length body
  pub each : (i : ℕ) (d : Live) → i < length body
      → slice_index_or items i d ≡ record { block = slice_index body i; mask = slice_index masks i }
