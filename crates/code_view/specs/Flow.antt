-- The control flow of an instruction of a file under table cuts (Meng et al., PPoPP 2021; what
-- counts as outside the code, and what is dropped, is this project's profile).
use Rattle.std.specs.Prelude.{ℕ, ◌-◌, ◌==◌, ◌&&◌, List, [], Option, Some, None, take, unwrap_or}
use Rattle.std.specs.Prelude.{if◌then◌else◌, option_to_list}
use Rattle.std.specs.Option.{option_map_or, option_and_then}
use Rattle.elf_image.specs.Code.{is_code}
use Rattle.elf_symbols.specs.NoReturn.{is_no_return}
use Rattle.landing_pads.specs.Pad.{pad_at}
use Rattle.rv_flow.specs.declared.raw.RawFlow.{RawFlow}
use Rattle.rv_flow.specs.declared.raw.RawFlow.TheVariants as raw
use Rattle.jump_table.specs.declared.table.Table.{Table}
use Rattle.jump_table.specs.Table.{table_targets}
use Rattle.cfg_model.specs.declared.flow.Flow.{Flow}
use Rattle.cfg_model.specs.declared.flow.Flow.TheVariants as flow

-- An address, if it is one of code.
abbrev pub in_code : List ℕ → ℕ → Option ℕ
in_code bytes a = if is_code bytes a then Some a else None

-- Straight on to the next address, or a stop if no code is there.
abbrev pub straight_flow : Option ℕ → Flow
straight_flow None = flow.Stop
straight_flow (Some next) = flow.Straight next

-- A jump or a call, whose target is not known if it is outside the code.
abbrev pub jump_flow : Option ℕ → Flow
jump_flow None = flow.Unknown
jump_flow (Some target) = flow.Jump target

abbrev pub call_flow : Option ℕ → Option ℕ → Flow
call_flow None fall = flow.IndirectCall fall
call_flow (Some target) fall = flow.Call target fall

-- Where a call of a known address returns to: to the address behind it, if code is there, unless the
-- callee is a function of the code that does not return.
abbrev pub call_fall : List ℕ → ℕ → ℕ → Option ℕ
call_fall bytes target behind =
    if is_code bytes target && is_no_return bytes target then None else in_code bytes behind

-- How many entries are kept of a table: as many as its cut says, or all of them.
abbrev pub kept_entries : Option ℕ → Table → ℕ
kept_entries cut table = unwrap_or cut table.count

-- A jump through a table. It is full if all entries are kept that its bound allows, and open if it
-- has no bound test. A jump through a register without a table goes to an unknown target.
abbrev pub table_flow : Option ℕ → Option Table → Flow
table_flow cut None = flow.Unknown
table_flow cut (Some table) =
    flow.Table (kept_entries cut table) (kept_entries cut table == table.bound) table.is_open

-- The flow of an instruction that alone has this one: `behind` is the address after it, `table` and
-- `cut` are those of its address.
abbrev pub flow_by : List ℕ → ℕ → Option ℕ → Option Table → RawFlow → Flow
flow_by bytes behind cut table raw.Straight = straight_flow (in_code bytes behind)
flow_by bytes behind cut table (raw.Branch target) =
    flow.Branch (in_code bytes target) (in_code bytes behind)
flow_by bytes behind cut table (raw.Jump target) = jump_flow (in_code bytes target)
flow_by bytes behind cut table (raw.Call target) =
    call_flow (in_code bytes target) (call_fall bytes target behind)
flow_by bytes behind cut table raw.IndirectCall = flow.IndirectCall (in_code bytes behind)
flow_by bytes behind cut table raw.Return = flow.Return
flow_by bytes behind cut table (raw.RegisterJump register offset) = table_flow cut table
flow_by bytes behind cut table raw.Unknown = flow.Unknown
flow_by bytes behind cut table raw.Stop = flow.Stop

-- The landing pad of a call, if it is one of code: that of the last byte of the call, right before
-- the address where the call returns to.
abbrev pub pad_behind : List ℕ → ℕ → Option ℕ
pad_behind bytes behind = option_and_then (in_code bytes) (pad_at bytes (behind - 1))

-- The kept targets of a jump through a table, the first of its targets; the landing pad of a call;
-- none of any other instruction.
abbrev pub kept_by : List ℕ → ℕ → Option ℕ → Option Table → RawFlow → List ℕ
kept_by bytes behind cut table (raw.RegisterJump register offset) =
    option_map_or (λ table. take (kept_entries cut table) (table_targets bytes table)) table []
kept_by bytes behind cut table (raw.Call target) = option_to_list (pad_behind bytes behind)
kept_by bytes behind cut table raw.IndirectCall = option_to_list (pad_behind bytes behind)
kept_by bytes behind cut table _ = []
