use Rattle.std.proofs.Common.{subst}
use Rattle.core_state.specs.Least.{IsLeast}
use Rattle.address_map.specs.Keys.{IsNextInPage}
use Rattle.core_state.proofs.terms.TermsKeys.after_in_page.Goals as goal

pub returns : goal.returns
returns c = subst (λ m. IsLeast (IsNextInPage m c.args.a) c.after_in_page.result) c.self.view_is c.after_in_page.ensures
