-- An instruction by its bytes: what is told of it in its place.
use Rattle.std.specs.Prelude.{◌≡◌, ℕ, List, Some}
use Rattle.elf_image.specs.Code.{half_at, word_at}
use Rattle.rv_flow.specs.declared.insn_bytes.InsnBytes.{InsnBytes}
use Rattle.rv_flow.specs.declared.insn_bytes.PlacedFlow.{PlacedFlow}
use Rattle.rv_flow.specs.Placed.{placed_at}
use Rattle.rv_flow.specs.Raw.{raw_flow_at}

-- These are the bytes at a code address: its halfword, and its word if all four bytes are there.
pub record AreBytesAt (bytes : List ℕ) (a : ℕ) (read : InsnBytes) : Type 0 where
  pub half : half_at bytes a ≡ Some read.half
  pub word : word_at bytes a ≡ read.word

-- The length and the flow of the instruction at a code address.
abbrev pub placed_flow_at : List ℕ → ℕ → PlacedFlow
placed_flow_at bytes a = record { length = (placed_at bytes a).length; flow = raw_flow_at bytes a }
