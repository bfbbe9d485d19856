-- Frame records: Frame Description Entries (LSB Core, "The Frame Description Entry Format").
use Rattle.std.specs.Prelude.{ℕ, zero, suc, ◌+◌, ◌-◌, ◌==◌, nat_le, List, [], ◌++◌, length}
use Rattle.std.specs.Prelude.{if◌then◌else◌}
use Rattle.std.specs.Option.{option_map, option_map_or, option_and_then, option_to_list}
use Rattle.std.specs.declared.option.Option.{Option}
use Rattle.std.specs.declared.option.Option.TheVariants.{None, Some}
use Rattle.elf_image.specs.Number.{u32_at}
use Rattle.landing_pads.specs.declared.common.Common.{Common}
use Rattle.landing_pads.specs.declared.frame.Frame.{Frame}
use Rattle.landing_pads.specs.Place.{Place, fixed, passed}
use Rattle.landing_pads.specs.Number.{uleb128, number}
use Rattle.landing_pads.specs.Pointer.{pointer}
use Rattle.landing_pads.specs.Common.{body_at, common_at}

-- the address of the exception table; 0 is none
abbrev pub table_pointer : ℕ → Place → Option ℕ
table_pointer encoding p =
    if encoding == 0xFF then Some 0 else option_map (λ r. r.0) (pointer encoding p)

-- the frame after a link: where its code begins, two numbers that are passed over, and its table
unfoldable pub frame_from : Common → Place → Option Frame
frame_from c p =
    option_and_then
    (λ start. option_map (λ table. record { start = start.0; table = table })
    (option_and_then (table_pointer c.table)
    (option_and_then (λ q. passed (uleb128 q)) (passed (number c.code start.1)))))
    (pointer c.code p)

-- the common record of a link that stands at a place of a section: so many bytes before it
unfoldable pub linked : Place → ℕ → ℕ → Option Common
linked section at link = if nat_le link at then common_at section (at - link) else None

-- the frame record that begins at a place of a section: its link is not 0
unfoldable pub frame_at : Place → ℕ → Place → Option Frame
frame_at section at body =
    option_and_then
    (λ link. if link.0 == 0 then None
    else option_and_then (λ c. frame_from c link.1) (linked section (at + 4) link.0))
    (fixed 4 u32_at body)

-- the frames of the first n records from a place of a section on, up to one that is not whole
abbrev pub frames_from : ℕ → Place → ℕ → List Frame
frames_from zero section at = []
frames_from (suc n) section at =
    option_map_or
    (λ body. option_to_list (frame_at section at body)
    ++ frames_from n section (at + 4 + length body.bytes))
    (body_at section at) []

-- all of them: each record takes four bytes at least
unfoldable pub frames : Place → List Frame
frames section = frames_from (length section.bytes) section 0
