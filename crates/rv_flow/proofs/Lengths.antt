-- The length of a straight instruction at an address, by its bytes and the extensions that the file names.
use Rattle.std.proofs.Common.{◌≡◌, ◌≢◌, ℕ, ◌/◌, ◌%◌, ◌==◌, ◌||◌, Bool, true, false, not, cond, List, Option, Some, None, refl, sym, ap, ◌∙◌}
use Rattle.std.proofs.lemmas.Bool.{ne_eqb, eq-eqb}
use Rattle.std.specs.Bool.{then_some}
use Rattle.elf_image.specs.declared.extensions.Extensions.{Extensions}
use Rattle.elf_image.specs.Architecture.{extensions_of}
use Rattle.elf_image.specs.Code.{half_at, word_at}
use Rattle.rv_decode.specs.declared.instructions.Insn.{Insn}
use Rattle.rv_decode.specs.declared.instructions.Insn.TheVariants as insns
use Rattle.rv_decode.specs.declared.instructions.AwayKind.{AwayKind}
use Rattle.rv_decode.specs.declared.instructions.AwayKind.TheVariants as aways
use Rattle.rv_flow.specs.declared.raw.RawFlow.{RawFlow}
use Rattle.rv_flow.specs.declared.raw.RawFlow.TheVariants as raw
use Rattle.rv_flow.specs.Placed.{word_insn, compressed_insn, whole}
use Rattle.rv_flow.specs.Raw.{insn_flow, away_flow, raw_flow_by, jalr_flow, pair_target, is_unimp, is_stub}
use Rattle.rv_flow.specs.Straight.{length_where_straight, straight_length_at}
use Rattle.rv_flow.specs.Inner.{goes_on, goes_on_behind, short_goes_on}

-- a choice of two flows of which neither is straight
neither : (b : Bool) (f g : RawFlow) (n : ℕ) → length_where_straight f n ≡ None → length_where_straight g n ≡ None → length_where_straight (cond b f g) n ≡ None
neither true f g n first second = first
neither false f g n first second = second

no_jalr : (rd rs1 : ℕ) (imm : _) (target : Option ℕ) (n : ℕ) → length_where_straight (jalr_flow rd rs1 imm target) n ≡ None
no_jalr rd rs1 imm (Some target) n = neither (rd == 0) _ _ n refl refl
no_jalr rd rs1 imm None n =
    neither (rd == 0) _ _ n
    (neither ((rs1 == 1) || (rs1 == 5)) raw.Return (raw.RegisterJump rs1 imm) n refl refl)
    (neither (is_stub rd rs1) (raw.RegisterJump rs1 imm) raw.IndirectCall n refl refl)

csr_length : (b : Bool) (n : ℕ) → length_where_straight (cond b raw.Stop raw.Straight) n ≡ then_some (not b) n
csr_length true n = refl
csr_length false n = refl

away_length : (kind : AwayKind) (n : ℕ) → length_where_straight (away_flow kind) n ≡ None
away_length aways.Return n = refl
away_length aways.Unknown n = refl
away_length aways.Call n = refl

module _ (bytes : List ℕ) (a : ℕ) where
  insn_length : (i : Insn) (n : ℕ) → length_where_straight (insn_flow bytes a i) n ≡ then_some (goes_on i) n
  insn_length (insns.Jal rd offset) n = neither (rd == 0) _ _ n refl refl
  insn_length (insns.Jalr rd rs1 imm) n = no_jalr rd rs1 imm (pair_target bytes a rs1 imm) n
  insn_length (insns.Branch kind rs1 rs2 offset) n = refl
  insn_length insns.Ebreak n = refl
  insn_length (insns.Csr kind rd source csr) n = csr_length (is_unimp kind rd source csr) n
  insn_length (insns.Away kind reads writes) n = away_length kind n
  insn_length _ n = refl

  short_step : (o : Option Insn) → length_where_straight (raw_flow_by bytes a o) 2 ≡ then_some (goes_on_behind o) 2
  short_step None = refl
  short_step (Some i) = insn_length i 2

  module _ (e : Extensions) (half : ℕ) (word : Option ℕ) (names : extensions_of bytes ≡ e) (at_half : half_at bytes a ≡ Some half) (at_word : word_at bytes a ≡ word) where
    pub short_length : half % 4 ≢ 3 → straight_length_at bytes a ≡ then_some (short_goes_on e half) 2
    short_length short = rw (at_half, names, ne_eqb _ _ short) (short_step (compressed_insn e half))

    pub longer_length : half % 4 ≡ 3 → half / 4 % 8 ≡ 7 → straight_length_at bytes a ≡ None
    longer_length long longer = rw (at_half, long, longer) refl

  word_step : (o : Option Insn) → length_where_straight (raw_flow_by bytes a (whole o).insn) (whole o).length ≡ then_some (goes_on_behind o) 4
  word_step None = refl
  word_step (Some i) = insn_length i 4

  pub word_length : (e : Extensions) (half w : ℕ) → extensions_of bytes ≡ e → half_at bytes a ≡ Some half → word_at bytes a ≡ Some w → half % 4 ≡ 3 → half / 4 % 8 ≢ 7 → straight_length_at bytes a ≡ then_some (goes_on_behind (word_insn e w)) 4
  word_length e half w names at_half at_word long whole_form = rw (at_half, names, at_word, long, ne_eqb _ _ whole_form) (word_step (word_insn e w))
