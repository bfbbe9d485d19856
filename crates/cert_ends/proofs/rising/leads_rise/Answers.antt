use Rattle.std.proofs.Common.{Bool, ltb, rules}
use Rattle.std.proofs.lemmas.List.Sorted.{answers_always}
use Rattle.cert_text.specs.declared.lines.LeadLine.{LeadLine}
use Rattle.cert_ends.proofs.Adjacent.{told}
use Rattle.cert_ends.proofs.Placed.{no_lead}
use Rattle.cert_ends.proofs.rising.leads_rise.Goals as goal

-- the test of a pair
below : LeadLine → LeadLine → Bool
below one other = ltb one.at other.at

pub returns : goal.returns
unfolding below
returns c =
    told (λ (l : LeadLine). l.at) c.args.leads.now no_lead _ (c.is_sorted_by.ensures.cases below (answers_always _ _ _ (λ f a r g h. search rules)))
