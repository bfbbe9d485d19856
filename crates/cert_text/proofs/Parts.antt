-- Parts, and the whole text.
use Rattle.std.proofs.Common.{◌≡◌, ℕ, List, [], ◌∷◌, ◌++◌, Option, Some, None, refl, sym, ap, subst, ◌∙◌, append_assoc}
use Rattle.std.specs.Prelude.{codes}
use Rattle.std.specs.List.{flat_map}
use Rattle.cert_text.specs.declared.lines.ReturnLine.{ReturnLine}
use Rattle.cert_text.specs.declared.lines.LeadLine.{LeadLine}
use Rattle.cert_text.specs.declared.certificate.Part.{Part}
use Rattle.cert_text.specs.declared.certificate.Certificate.{Certificate}
use Rattle.cert_text.specs.Line.{return_line, lead_line}
use Rattle.cert_text.specs.Text.{ReturnFits, LeadFits, part_text, cut_text, certificate_text, IsTextOf}
use Rattle.cert_text.specs.Reading.{after, return_at, lead_at}
use Rattle.cert_text.specs.Sections.{IsReturns, IsLeads, IsPart, IsCut, StopsLines}
use Rattle.cert_text.proofs.Fields.{some, some_is, after_takes, after_again}
use Rattle.cert_text.proofs.LineForms.{return_takes, return_again, lead_takes, lead_again}
use Rattle.cert_text.proofs.Sections.{IsForm, ends_here}

pub return_form : IsForm ReturnLine (codes "ret") return_line ReturnFits return_at
return_form = record { takes = return_takes; again = return_again }

pub lead_form : IsForm LeadLine (codes "lead") lead_line LeadFits lead_at
lead_form = record { takes = lead_takes; again = lead_again }

abbrev pub part_of : List ReturnLine → List LeadLine → Part
part_of returns leads = record { returns = returns; leads = leads }

-- the lists of a part make it up
pub part_found : (bytes : List ℕ) (returns : List ReturnLine) (between : List ℕ) (leads : List LeadLine) (rest : List ℕ) → IsReturns bytes returns between → IsLeads between leads rest → IsPart bytes (part_of returns leads) rest
part_found bytes returns between leads rest one other = record {
  text = one.text ∙ ap (λ (x : List ℕ). flat_map return_line returns ++ x) other.text ∙ sym (append_assoc (flat_map return_line returns) (flat_map lead_line leads) rest);
  rises = record { returns = one.rises; leads = other.rises };
  fits = record { returns = one.fits; leads = other.fits };
}

-- no return stands where the leaders do
leads_stop : (leads : List LeadLine) (rest : List ℕ) → after (codes "ret") rest ≡ None → after (codes "ret") (flat_map lead_line leads ++ rest) ≡ None
unfolding after
leads_stop [] rest over = over
leads_stop (l ∷ leads) rest over = refl

-- the lists that make up a part
pub part_returns : (bytes : List ℕ) (part : Part) (rest : List ℕ) → IsPart bytes part rest → StopsLines rest → IsReturns bytes part.returns (flat_map lead_line part.leads ++ rest) × (after (codes "ret") (flat_map lead_line part.leads ++ rest) ≡ None)
part_returns bytes part rest of stops = (
  record {
    text = of.text ∙ append_assoc (flat_map return_line part.returns) (flat_map lead_line part.leads) rest;
    rises = of.rises.returns;
    fits = of.fits.returns;
  },
  leads_stop part.leads rest stops.no_return,
)

pub part_leads : (bytes : List ℕ) (part : Part) (rest : List ℕ) → IsPart bytes part rest → IsLeads (flat_map lead_line part.leads ++ rest) part.leads rest
part_leads bytes part rest of = record { text = refl; rises = of.rises.leads; fits = of.fits.leads }

-- what was read as the returns of a part is its returns, and its leaders stand there
pub after_returns : (bytes : List ℕ) (returns : List ReturnLine) (between : List ℕ) (part : Part) (rest : List ℕ) → IsPart bytes part rest → between ≡ flat_map lead_line part.leads ++ rest → IsLeads between part.leads rest
after_returns bytes returns between part rest of text = subst (λ (x : List ℕ). IsLeads x part.leads rest) (sym text) (part_leads bytes part rest of)

pub part_same : (returns : List ReturnLine) (leads : List LeadLine) (part : Part) → returns ≡ part.returns → leads ≡ part.leads → part_of returns leads ≡ part
part_same returns leads part one other =
    ap (λ (r : List ReturnLine). part_of r leads) one ∙ ap (λ (l : List LeadLine). part_of part.returns l) other

-- ---- the second part

abbrev pub none : Option Part
none = None

pub no_cut_found : (bytes : List ℕ) → IsCut bytes None bytes
no_cut_found bytes = record { text = refl; rises = tt; fits = tt }

pub cut_found : (bytes rest : List ℕ) (part : Part) (end : List ℕ) → after (codes "part cuts\n") bytes ≡ Some rest → IsPart rest part end → IsCut bytes (Some part) end
cut_found bytes rest part end heading of = record {
  text = after_takes (codes "part cuts\n") bytes rest heading ∙ ap (λ (x : List ℕ). codes "part cuts\n" ++ x) of.text;
  rises = of.rises;
  fits = of.fits;
}

-- a text with a second part has its heading, and one without has not
heading_stands : (bytes : List ℕ) (part : Part) (end : List ℕ) → bytes ≡ cut_text (Some part) ++ end → after (codes "part cuts\n") bytes ≡ Some (part_text part ++ end)
heading_stands bytes part end text = ap (after (codes "part cuts\n")) text ∙ after_again (codes "part cuts\n") (part_text part ++ end)

end_is_no_heading : (bytes : List ℕ) → bytes ≡ codes "end\n" → after (codes "part cuts\n") bytes ≡ None
unfolding after
end_is_no_heading bytes text = ap (after (codes "part cuts\n")) text

pub no_cut_only : (bytes : List ℕ) (cut : Option Part) → after (codes "part cuts\n") bytes ≡ None → IsCut bytes cut (codes "end\n") → (none ≡ cut) × (bytes ≡ codes "end\n")
no_cut_only bytes None missing of = (refl, of.text)
no_cut_only bytes (Some part) missing of = let stands = heading_stands bytes part (codes "end\n") of.text in absurd cc

pub cut_only : (bytes rest : List ℕ) (cut : Option Part) → after (codes "part cuts\n") bytes ≡ Some rest → IsCut bytes cut (codes "end\n") → (part : Part) × (cut ≡ Some part) × IsPart rest part (codes "end\n")
cut_only bytes rest None heading of = let missing = end_is_no_heading bytes of.text in absurd cc
cut_only bytes rest (Some part) heading of =
    let stands = heading_stands bytes part (codes "end\n") of.text in
    let same : part_text part ++ codes "end\n" ≡ rest = some_is (part_text part ++ codes "end\n") rest (sym stands ∙ heading) in
    (part, refl, record { text = sym same; rises = of.rises; fits = of.fits })

-- ---- the whole

pub end_stops : StopsLines (codes "end\n")
unfolding after
end_stops = record { no_return = refl; no_lead = refl }

pub cut_stops : (cut : Option Part) → StopsLines (cut_text cut ++ codes "end\n")
unfolding after
cut_stops None = record { no_return = refl; no_lead = refl }
cut_stops (Some part) = record { no_return = refl; no_lead = refl }

abbrev pub heading : List ℕ
heading = codes "cfg-cert 1\npart none\n"

abbrev pub certificate_of : Part → Option Part → Certificate
certificate_of plain cut = record { part = plain; second = cut }

text_parts : (c : Certificate) → certificate_text c ≡ heading ++ (part_text c.part ++ (cut_text c.second ++ codes "end\n"))
text_parts c =
    append_assoc (heading ++ part_text c.part) (cut_text c.second) (codes "end\n")
    ∙ append_assoc heading (part_text c.part) (cut_text c.second ++ codes "end\n")

pub text_found : (bytes rest between end : List ℕ) (plain : Part) (cut : Option Part) → after heading bytes ≡ Some rest → IsPart rest plain between → IsCut between cut end → end ≡ codes "end\n" → IsTextOf bytes (certificate_of plain cut)
text_found bytes rest between end plain cut first part second finish =
    let tail : between ≡ cut_text cut ++ codes "end\n" = second.text ∙ ap (λ (x : List ℕ). cut_text cut ++ x) finish in
    record {
      text = after_takes heading bytes rest first ∙ ap (λ (x : List ℕ). heading ++ x) (part.text ∙ ap (λ (x : List ℕ). part_text plain ++ x) tail) ∙ sym (text_parts (certificate_of plain cut));
      rises = record { part = part.rises; second = second.rises };
      fits = record { part = part.fits; second = second.fits };
    }

pub certificate_same : (plain : Part) (cut : Option Part) (c : Certificate) → plain ≡ c.part → cut ≡ c.second → certificate_of plain cut ≡ c
certificate_same plain cut c one other =
    ap (λ (p : Part). certificate_of p cut) one ∙ ap (λ (x : Option Part). certificate_of c.part x) other

-- the heading of a text stands, and its first part after it
pub text_begins : (bytes : List ℕ) (c : Certificate) → IsTextOf bytes c → after heading bytes ≡ Some (part_text c.part ++ (cut_text c.second ++ codes "end\n"))
text_begins bytes c of = ap (after heading) (of.text ∙ text_parts c) ∙ after_again heading (part_text c.part ++ (cut_text c.second ++ codes "end\n"))

pub text_plain : (bytes rest : List ℕ) (c : Certificate) → after heading bytes ≡ Some rest → IsTextOf bytes c → IsPart rest c.part (cut_text c.second ++ codes "end\n")
text_plain bytes rest c first of =
    let same : part_text c.part ++ (cut_text c.second ++ codes "end\n") ≡ rest = some_is (part_text c.part ++ (cut_text c.second ++ codes "end\n")) rest (sym (text_begins bytes c of) ∙ first) in
    record { text = sym same; rises = of.rises.part; fits = of.fits.part }

pub text_cut : (bytes : List ℕ) (c : Certificate) (between : List ℕ) → IsTextOf bytes c → between ≡ cut_text c.second ++ codes "end\n" → IsCut between c.second (codes "end\n")
text_cut bytes c between of text = record { text = text; rises = of.rises.second; fits = of.fits.second }

pub no_heading : (bytes : List ℕ) (c : Certificate) → after heading bytes ≡ None → IsTextOf bytes c → ⊥
no_heading bytes c missing of = let stands = text_begins bytes c of in cc

-- ---- a text has one certificate

parts_same : (bytes : List ℕ) (p q : Part) (r s : List ℕ) → IsPart bytes p r → StopsLines r → IsPart bytes q s → StopsLines s → (p ≡ q) × (r ≡ s)
parts_same bytes p q r s one stop other over =
    let a = part_returns bytes p r one stop in
    let b = part_returns bytes q s other over in
    let returns = ends_here (codes "ret") return_line (λ l. l.at) ReturnFits return_at return_form bytes p.returns q.returns (flat_map lead_line p.leads ++ r) (flat_map lead_line q.leads ++ s) a.0 a.1 b.0 b.1 in
    let there : IsLeads (flat_map lead_line p.leads ++ r) q.leads s = subst (λ (x : List ℕ). IsLeads x q.leads s) (sym returns.1) (part_leads bytes q s other) in
    let leads = ends_here (codes "lead") lead_line (λ l. l.at) LeadFits lead_at lead_form (flat_map lead_line p.leads ++ r) p.leads q.leads r s (part_leads bytes p r one) stop.no_lead there over.no_lead in
    (ap (λ (x : List ReturnLine). part_of x p.leads) returns.0 ∙ ap (λ (x : List LeadLine). part_of q.returns x) leads.0, leads.1)

cuts_same : (bytes : List ℕ) (c d : Option Part) → IsCut bytes c (codes "end\n") → IsCut bytes d (codes "end\n") → c ≡ d
cuts_same bytes None None one other = refl
cuts_same bytes None (Some q) one other =
    let missing = end_is_no_heading bytes one.text in let stands = heading_stands bytes q (codes "end\n") other.text in absurd cc
cuts_same bytes (Some p) None one other =
    let missing = end_is_no_heading bytes other.text in let stands = heading_stands bytes p (codes "end\n") one.text in absurd cc
cuts_same bytes (Some p) (Some q) one other =
    let rest = part_text p ++ codes "end\n" in
    let first : IsPart rest p (codes "end\n") = record { text = refl; rises = one.rises; fits = one.fits } in
    let both : part_text p ++ codes "end\n" ≡ part_text q ++ codes "end\n" = some_is (part_text p ++ codes "end\n") (part_text q ++ codes "end\n") (sym (heading_stands bytes p (codes "end\n") one.text) ∙ heading_stands bytes q (codes "end\n") other.text) in
    let second : IsPart rest q (codes "end\n") = record { text = both; rises = other.rises; fits = other.fits } in
    ap some (parts_same rest p q (codes "end\n") (codes "end\n") first end_stops second end_stops).0

pub certificates_same : (bytes : List ℕ) (c d : Certificate) → IsTextOf bytes c → IsTextOf bytes d → c ≡ d
certificates_same bytes c d one other =
    let rest = part_text c.part ++ (cut_text c.second ++ codes "end\n") in
    let first = text_begins bytes c one in
    let plain = parts_same rest c.part d.part (cut_text c.second ++ codes "end\n") (cut_text d.second ++ codes "end\n") (text_plain bytes rest c first one) (cut_stops c.second) (text_plain bytes rest d first other) (cut_stops d.second) in
    let cut = cuts_same (cut_text c.second ++ codes "end\n") c.second d.second (text_cut bytes c (cut_text c.second ++ codes "end\n") one refl) (text_cut bytes d (cut_text c.second ++ codes "end\n") other plain.1) in
    ap (λ (p : Part). certificate_of p c.second) plain.0 ∙ ap (λ (x : Option Part). certificate_of d.part x) cut
