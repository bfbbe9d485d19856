-- The text on small certificates, by computation.
use Rattle.std.specs.Prelude.{◌≡◌, refl, [], ◌∷◌, Some, None, codes}
use Rattle.std.specs.Fmt.{digits}
use Rattle.graph_report.specs.Number.{hex_digits}
use Rattle.cert_text.specs.declared.lines.ReturnWhy.TheVariants.{Itself, To, CallBoth}
use Rattle.cert_text.specs.declared.lines.LeadWhy.TheVariants.{Seed, From, Join}
use Rattle.cert_text.specs.declared.certificate.Part.{Part}
use Rattle.cert_text.specs.Line.{return_line, lead_line}
use Rattle.cert_text.specs.Text.{certificate_text}

-- a program that is one return, at 10000
abbrev one_return : Part
one_return = record {
  returns = record { at = 0x10000; rank = 0; why = Itself } ∷ [];
  leads = record { at = 0x10000; rank = 0; why = Seed } ∷ [];
}

one_return_text : certificate_text (record { part = one_return; second = None }) ≡ codes "cfg-cert 1\npart none\nret 0000000000010000 0 self\nlead 0000000000010000 0 seed\nend\n"
unfolding hex_digits digits
one_return_text = refl

-- the same part twice
two_parts_text : certificate_text (record { part = one_return; second = Some one_return }) ≡ codes "cfg-cert 1\npart none\nret 0000000000010000 0 self\nlead 0000000000010000 0 seed\npart cuts\nret 0000000000010000 0 self\nlead 0000000000010000 0 seed\nend\n"
unfolding hex_digits digits
two_parts_text = refl

-- no lines at all
no_lines_text : certificate_text (record { part = record { returns = []; leads = [] }; second = None }) ≡ codes "cfg-cert 1\npart none\nend\n"
no_lines_text = refl

-- the other forms of lines
to_line : return_line (record { at = 0x10004; rank = 1; why = To 0x10008 }) ≡ codes "ret 0000000000010004 1 to 0000000000010008\n"
unfolding hex_digits digits
to_line = refl

call_line : return_line (record { at = 0xfedcba9876543210; rank = 18446744073709551615; why = CallBoth }) ≡ codes "ret fedcba9876543210 18446744073709551615 call\n"
unfolding hex_digits digits
call_line = refl

from_line : lead_line (record { at = 0x10002; rank = 10; why = From 0x10000 }) ≡ codes "lead 0000000000010002 10 from 0000000000010000\n"
unfolding hex_digits digits
from_line = refl

join_line : lead_line (record { at = 0x10004; rank = 2; why = Join 0x10002 0x10000 }) ≡ codes "lead 0000000000010004 2 join 0000000000010002 0000000000010000\n"
unfolding hex_digits digits
join_line = refl
