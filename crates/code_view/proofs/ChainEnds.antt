-- Where a chain ends is told by the file alone: in the program under any cuts it ends there.
use Rattle.std.proofs.Common.{◌≡◌, ℕ, ◌+◌, ◌-◌, ◌<◌, ◌≤◌, true, List, Option, Some, None, refl, sym, ap, ◌∙◌, subst, arith, inl, inr}
use Rattle.std.proofs.lemmas.Option.{cond_some, none-some}
use Rattle.elf_image.specs.Code.{is_code}
use Rattle.rv_flow.specs.declared.raw.RawFlow.{RawFlow}
use Rattle.rv_flow.specs.declared.raw.RawFlow.TheVariants as raw
use Rattle.rv_flow.specs.Placed.{placed_at}
use Rattle.rv_flow.specs.Raw.{raw_flow_at}
use Rattle.rv_flow.specs.Straight.{length_where_straight}
use Rattle.jump_table.specs.declared.table.Table.{Table}
use Rattle.jump_table.specs.Table.{table_at}
use Rattle.chain_index.specs.Chain.{next_behind, next_of, IsChainEnd}
use Rattle.cfg_model.specs.declared.flow.Flow.{Flow}
use Rattle.cfg_model.specs.declared.flow.Flow.TheVariants as flows
use Rattle.cfg_model.specs.Program.Instructions.{flow_at}
use Rattle.cfg_model.specs.Program.Chain.{EndsChain, IsTerminatorOf, OnChain}
use Rattle.code_view.specs.Flow.{in_code, straight_flow, jump_flow, call_flow, call_fall, table_flow, flow_by}
use Rattle.code_view.specs.Program.{program_under}
use Rattle.code_view.proofs.Lawful.{placed-size, flow-program}

-- The way on by the file is that of the flow: straight on, or a flow that ends a chain.
module _ (bytes : List ℕ) (a n : ℕ) (cut : Option ℕ) (table : Option Table) where
  abbrev flow_of : RawFlow → Flow
  flow_of r = flow_by bytes (a + n) cut table r

  abbrev next_by : RawFlow → Option ℕ
  next_by r = next_behind bytes a (length_where_straight r n)

  straight-on : (r : RawFlow) (next : ℕ) → next_by r ≡ Some next → flow_of r ≡ flows.Straight next
  straight-on raw.Straight next is = ap straight_flow is
  straight-on (raw.Branch target) next is = absurd (none-some next is)
  straight-on (raw.Jump target) next is = absurd (none-some next is)
  straight-on (raw.Call target) next is = absurd (none-some next is)
  straight-on raw.IndirectCall next is = absurd (none-some next is)
  straight-on raw.Return next is = absurd (none-some next is)
  straight-on raw.Unknown next is = absurd (none-some next is)
  straight-on (raw.RegisterJump register offset) next is = absurd (none-some next is)
  straight-on raw.Stop next is = absurd (none-some next is)

  -- and it is the address behind the instruction
  straight-behind : (r : RawFlow) (next : ℕ) → next_by r ≡ Some next → a + n ≡ next
  straight-behind raw.Straight next is = (cond_some (is_code bytes (a + n)) (a + n) next is).1
  straight-behind (raw.Branch target) next is = absurd (none-some next is)
  straight-behind (raw.Jump target) next is = absurd (none-some next is)
  straight-behind (raw.Call target) next is = absurd (none-some next is)
  straight-behind raw.IndirectCall next is = absurd (none-some next is)
  straight-behind raw.Return next is = absurd (none-some next is)
  straight-behind raw.Unknown next is = absurd (none-some next is)
  straight-behind (raw.RegisterJump register offset) next is = absurd (none-some next is)
  straight-behind raw.Stop next is = absurd (none-some next is)

  jump-ends : (o : Option ℕ) → EndsChain (Some (jump_flow o))
  jump-ends None = tt
  jump-ends (Some target) = tt

  call-ends : (o fall : Option ℕ) → EndsChain (Some (call_flow o fall))
  call-ends None fall = tt
  call-ends (Some target) fall = tt

  table-ends : (o : Option Table) → EndsChain (Some (table_flow cut o))
  table-ends None = tt
  table-ends (Some t) = tt

  ends-here : (r : RawFlow) → next_by r ≡ None → EndsChain (Some (flow_of r))
  ends-here raw.Straight is = subst (λ o. EndsChain (Some (straight_flow o))) (sym is) tt
  ends-here (raw.Branch target) is = tt
  ends-here (raw.Jump target) is = jump-ends (in_code bytes target)
  ends-here (raw.Call target) is = call-ends (in_code bytes target) (call_fall bytes target (a + n))
  ends-here raw.IndirectCall is = tt
  ends-here raw.Return is = tt
  ends-here raw.Unknown is = tt
  ends-here (raw.RegisterJump register offset) is = table-ends table
  ends-here raw.Stop is = tt

  code-there : (r : RawFlow) (next : ℕ) → next_by r ≡ Some next → is_code bytes next ≡ true
  code-there raw.Straight next is =
      let parts = cond_some (is_code bytes (a + n)) (a + n) next is in
      subst (λ b. is_code bytes b ≡ true) parts.1 parts.0
  code-there (raw.Branch target) next is = absurd (none-some next is)
  code-there (raw.Jump target) next is = absurd (none-some next is)
  code-there (raw.Call target) next is = absurd (none-some next is)
  code-there raw.IndirectCall next is = absurd (none-some next is)
  code-there raw.Return next is = absurd (none-some next is)
  code-there raw.Unknown next is = absurd (none-some next is)
  code-there (raw.RegisterJump register offset) next is = absurd (none-some next is)
  code-there raw.Stop next is = absurd (none-some next is)

module _ (bytes : List ℕ) (cuts : ℕ → Option ℕ) where
  flow-here : (a : ℕ) → is_code bytes a ≡ true
      → flow_at (program_under bytes cuts) a ≡ Some (flow_by bytes (a + (placed_at bytes a).length) (cuts a) (table_at bytes a) (raw_flow_at bytes a))
  flow-here a code = flow-program bytes cuts a code (placed_at bytes a) refl

  -- what the file tells of an instruction behind which control goes straight on
  module _ (a next : ℕ) (code : is_code bytes a ≡ true) (is : next_of bytes a ≡ Some next) where
    pub next-flow : flow_at (program_under bytes cuts) a ≡ Some (flows.Straight next)
    next-flow = flow-here a code ∙ ap Some (straight-on bytes a (placed_at bytes a).length (cuts a) (table_at bytes a) (raw_flow_at bytes a) next is)

    apart : a + (placed_at bytes a).length ≡ next
    apart = straight-behind bytes a (placed_at bytes a).length (cuts a) (table_at bytes a) (raw_flow_at bytes a) next is

    pub next-size : (placed_at bytes a).length ≡ next - a
    next-size = omega (arith, apart)

    pub next-small : (a ≤ next) × (next - a < 256)
    next-small = elim (placed-size bytes a) [
      | inl short ↦ (omega (arith, apart), omega (arith, apart, short))
      | inr long ↦ (omega (arith, apart), omega (arith, apart, long))
    ]

  pub chain-end : (a k : ℕ) → is_code bytes a ≡ true → IsChainEnd bytes a k → IsTerminatorOf (program_under bytes cuts) a k
  chain-end a k code (IsChainEnd.here is) = record {
    reaches = OnChain.here;
    ends = subst EndsChain (sym (flow-here a code)) (ends-here bytes a (placed_at bytes a).length (cuts a) (table_at bytes a) (raw_flow_at bytes a) is);
  }
  chain-end a k code (IsChainEnd.on {next = next} is rest) =
      let there = code-there bytes a (placed_at bytes a).length (cuts a) (table_at bytes a) (raw_flow_at bytes a) next is in
      let end = chain-end next k there rest in
      record {
        reaches = OnChain.on (flow-here a code ∙ ap Some (straight-on bytes a (placed_at bytes a).length (cuts a) (table_at bytes a) (raw_flow_at bytes a) next is)) end.reaches;
        ends = end.ends;
      }
