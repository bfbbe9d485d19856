use Rattle.std.proofs.Common.{◌∙◌, sym}
use Rattle.std.specs.List.{flat_map}
use Rattle.parallel.specs.Lists.{all_in, made_in}
use Rattle.report_crew.proofs.Parts.{texts_of_parts, if_made_of}
use Rattle.report_crew.proofs.sharing.text_by.Goals as goal

pub returns : goal.returns
returns g c =
    let parts = c.in_ok-parts.parts.items in
    let texts = c.in_ok-texts.texts in
    record {
      text = if_made_of (λ made. all_in made.items) (flat_map made_in texts.items) c.args.lines c.if_made.result c.if_made.ensures.made c.if_made.ensures.texts (λ made.
          texts_of_parts parts texts.items (sym texts.ok.0 ∙ (rw c.deref.ensures.value at c.in_ok-texts.ensures.as_many))
          (rw c.deref.ensures.value at c.in_ok-texts.ensures.each) made
          ∙ c.in_ok-parts.ensures);
    }
