-- Fronts of leaders: those of them that count where streams join.
use Rattle.std.specs.Prelude.{◌≡◌, ℕ, ◌+◌, ◌<◌, ◌≤◌, List, Some, All, Contains, Vec, length}
use Rattle.std.specs.Prelude.{slice_index_or}
use Rattle.std.specs.declared.alloc.Global.{Global}
use Rattle.cfg_model.specs.Program.Instructions.{InstructionMap, length_at}
use Rattle.cert_text.specs.declared.lines.LeadLine.{LeadLine}
use Rattle.cert_make.specs.declared.fronts.Source.{Source}
use Rattle.cert_make.specs.declared.runs.Run.{Run}
use Rattle.cert_make.specs.Inner.Runs.{IsUpstream, run_at}

-- A front as the maker keeps it.
abbrev pub KeptFront : Type 0
KeptFront = Vec Source Global

-- The first of two sources makes the second needless: it has no greater rank, and does not lie above.
abbrev pub Covers : Source → Source → Type 0
Covers one other = (one.rank ≤ other.rank) × (one.lead ≤ other.lead)

-- A front of these sources: some of them, so that each is covered.
pub record IsFrontOf (Among : Source → Type 0) (front : List Source) : Type 0 where
  pub among : (s : Source) → Contains front s → Among s
  pub covered : (s : Source) → Among s → (t : Source) × Contains front t × Covers t s

-- It is the source of a line, whose leader is one of these.
pub record IsSource (lines : List LeadLine) (Among : ℕ → Type 0) (s : Source) : Type 0 where
  pub line : LeadLine
  pub listed : Contains lines line
  pub rank : s.rank ≡ line.rank
  pub lead : s.lead ≡ line.at
  pub among : Among line.at

-- The least rank of these sources.
pub record IsLeastRank (sources : List Source) (rank : ℕ) : Type 0 where
  pub source : Source
  pub listed : Contains sources source
  pub is : source.rank ≡ rank
  pub least : All (λ s. rank ≤ s.rank) sources

-- Of the leaders among these sources that have this rank at most, this one is the least.
pub record IsLeastUpTo (sources : List Source) (rank lead : ℕ) : Type 0 where
  pub source : Source
  pub listed : Contains sources source
  pub low : source.rank ≤ rank
  pub is : source.lead ≡ lead
  pub least : All (λ s. s.rank ≤ rank → lead ≤ s.lead) sources

-- None of these sources has this rank at most.
abbrev pub NoneUpTo : List Source → ℕ → Type 0
NoneUpTo sources rank = All (λ s. ¬ (s.rank ≤ rank)) sources

-- The leader p lies upstream of one of the first so many blocks, that goes on into the block at
-- place j by an instruction of so many bytes.
pub record Falls (map : InstructionMap) (lines : List LeadLine) (runs : List Run)
    (count bytes j p : ℕ) : Type 0 where
  pub block : ℕ
  pub early : block < count
  pub into : (run_at runs block).into ≡ Some j
  pub size : length_at map (run_at runs block).last ≡ Some bytes
  pub upstream : IsUpstream lines runs block p

-- The fronts after this place, each of the leaders from which the first so many blocks go on into
-- the block at its place, by instructions of so many bytes.
pub record AreFrontsAfter (map : InstructionMap) (lines : List LeadLine) (runs : List Run)
    (bytes count after : ℕ) (fronts : List KeptFront) : Type 0 where
  pub as_many : length fronts ≡ length lines
  pub each :
      (j : ℕ) (d : KeptFront) → after ≤ j → j < length lines
      → IsFrontOf (IsSource lines (Falls map lines runs count bytes j)) (slice_index_or fronts j d).items

-- So far as the first so many blocks are done, and no further.
abbrev pub AreFallen : InstructionMap → List LeadLine → List Run → ℕ → ℕ → List KeptFront → Type 0
AreFallen map lines runs bytes count = AreFrontsAfter map lines runs bytes count count

-- The same, where the front of the next place is taken out.
abbrev pub AreOpen : InstructionMap → List LeadLine → List Run → ℕ → ℕ → List KeptFront → Type 0
AreOpen map lines runs bytes i = AreFrontsAfter map lines runs bytes i (i + 1)
