use Rattle.std.proofs.Common.{sym, ◌∙◌, ap}
use Rattle.std.specs.Option.{option_map}
use Rattle.format_codes.specs.ShownFormats.{kept_section, section_kept}
use Rattle.format_codes.proofs.NumbersKept.{one_fails}
use Rattle.format_codes.proofs.shown_format.keep_numbers.Goals as goal

pub returns-in_default : goal.returns-in_default
returns-in_default c =
    one_fails c.args.sections.now c.loop-section.section-index c.section-item.result
    c.loop-section-test.true c.section-item.is
    (ap (option_map section_kept) (sym c.in_default.is)
    ∙ (c.in_ok-number.ensures ∙ ap kept_section c.deref.ensures.value))
