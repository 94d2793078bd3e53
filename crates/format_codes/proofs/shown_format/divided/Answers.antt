use Rattle.std.proofs.Common.{◌∙◌}
use Rattle.format_codes.proofs.Divided.{all_divided}
use Rattle.format_codes.proofs.shown_format.divided.Goals as goal

pub returns-in_default : goal.returns-in_default
returns-in_default c =
    all_divided _ _ _ _ _ _ c.in_ok-push.ensures.items c.section_size.ensures.value
    (c.in_ok-copy_of.ensures ∙ c.split_at.ensures.front) c.split_at.ensures.back
    c.in_default.ensures.cases
    ∙ c.loop-sections.invariant
