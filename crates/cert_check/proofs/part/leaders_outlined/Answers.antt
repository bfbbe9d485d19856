use Rattle.std.proofs.Common.{List, Option, sym, subst}
use Rattle.std.specs.Prelude.{MatchOption}
use Rattle.cert_text.specs.declared.lines.LeadLine.{LeadLine}
use Rattle.cert_laws.specs.Valid.{BlocksAreApart}
use Rattle.cert_check.specs.declared.blocks.Blocks.{Blocks}
use Rattle.cert_check.specs.Inner.Blocks.{AreBlocks, owner_by}
use Rattle.cert_check.proofs.Walked.{owned_apart}
use Rattle.cert_check.proofs.Decided.{match_on}
use Rattle.cert_check.proofs.part.leaders_outlined.Goals as goal

pub returns-in_ok-found-in-Some : goal.returns-in_ok-found-in-Some
returns-in_ok-found-in-Some g c =
    let map = g.C.Chains.map c.args.code.now in
    let number = g.C.Numbered.number c.args.code.now in
    let found : AreBlocks map number c.as_slice.result.now c.in-Some.blocks =
    subst (λ (o : Option Blocks). MatchOption o (¬ BlocksAreApart map c.as_slice.result.now) (AreBlocks map number c.as_slice.result.now)) c.in-Some.is c.in_ok-blocks.ensures in
    let are : AreBlocks map number c.args.part.now.leads c.in-Some.blocks =
    subst (λ (leads : List LeadLine). AreBlocks map number leads c.in-Some.blocks) c.as_slice.ensures found in
    match_on c.in_ok-found-in-Some.found c.in_ok-found-in-Some.ensures (λ none right. none right.leads)
    (λ outline made. (record { apart = owned_apart map c.args.part.now.leads (owner_by number c.in-Some.blocks.owners.places.items) are.owned; leads = made.0 }, made.1))

pub returns-in-None : goal.returns-in-None
returns-in-None g c =
    let map = g.C.Chains.map c.args.code.now in
    let number = g.C.Numbered.number c.args.code.now in
    let shared : ¬ BlocksAreApart map c.as_slice.result.now =
    subst (λ (o : Option Blocks). MatchOption o (¬ BlocksAreApart map c.as_slice.result.now) (AreBlocks map number c.as_slice.result.now)) c.in-None.is c.in_ok-blocks.ensures in
    λ right. shared (subst (BlocksAreApart map) (sym c.as_slice.ensures) right.apart)
