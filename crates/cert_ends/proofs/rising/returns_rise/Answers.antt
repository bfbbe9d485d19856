use Rattle.std.proofs.Common.{Bool, ltb, rules}
use Rattle.std.proofs.lemmas.List.Sorted.{answers_always}
use Rattle.cert_text.specs.declared.lines.ReturnLine.{ReturnLine}
use Rattle.cert_ends.proofs.Adjacent.{told}
use Rattle.cert_ends.proofs.Placed.{no_return}
use Rattle.cert_ends.proofs.rising.returns_rise.Goals as goal

-- the test of a pair
below : ReturnLine → ReturnLine → Bool
below one other = ltb one.at other.at

pub returns : goal.returns
unfolding below
returns c =
    told (λ (l : ReturnLine). l.at) c.args.returns.now no_return _ (c.is_sorted_by.ensures.cases below (answers_always _ _ _ (λ f a r g h. search rules)))
