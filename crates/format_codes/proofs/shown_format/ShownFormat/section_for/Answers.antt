use Rattle.std.proofs.Common.{◌∙◌, ap, map, sym}
use Rattle.std.specs.Option.{option_map}
use Rattle.format_codes.specs.ShownFormats.{kept_section_for, section_kept, sections_kept}
use Rattle.format_codes.proofs.Kept.{number_told}
use Rattle.format_codes.proofs.shown_format.ShownFormat.section_for.Goals as goal

pub returns-in-Some : goal.returns-in-Some
returns-in-Some c = λ code same.
    c.section_for.ensures
    ∙ (ap (λ n. kept_section_for n (map section_kept c.in-Some.sections.numbers.items))
    c.parts_of.ensures
    ∙ number_told code _ c.in-Some.sections
    (sym (ap (option_map sections_kept) c.in-Some.is) ∙ same))
