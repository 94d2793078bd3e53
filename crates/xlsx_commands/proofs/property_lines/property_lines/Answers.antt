use Rattle.std.proofs.Common.{◌∙◌, ap, ℕ, List, Option, Some, Vec, Global}
use mathlib.Core.Path.{fun_ext}
use Rattle.xlsx_properties.specs.Kept.{held, custom_texts}
use Rattle.xlsx_properties.specs.Parts.{properties_with}
use Rattle.xlsx_commands.proofs.PropertiesListed.{held_is_listed}
use Rattle.xlsx_commands.proofs.property_lines.property_lines.Goals as goal

pub returns-clause-ok : goal.returns-clause-ok
returns-clause-ok c =
    let kept = c.in_ok-properties.properties in
    let has = c.in_ok-properties.ensures.ok in
    record {
      texts = λ own. held own kept;
      customs = custom_texts kept;
      opens = has.opens;
      say = has.say
          ∙ ap (λ (named : List ℕ → Option (List ℕ)).
          Some (properties_with (λ own. held own kept) named))
          (fun_ext (λ name. held_is_listed name kept.custom_properties.entries));
      by_name = c.in_ok-lines_of_properties.ensures.by_name;
      listed = ap (λ (own : Vec ℕ Global). own.items) c.into_bytes.ensures.value
          ∙ c.in_ok-lines_of_properties.ensures.lines;
    }
