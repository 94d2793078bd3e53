use Rattle.part_events.proofs.StoredTexts.{Extends-trans}
use Rattle.part_events.proofs.stored.push_texts.Goals as goal

pub returns-in_ok-attributes-in-Start-clause-extends
    : goal.returns-in_ok-attributes-in-Start-clause-extends
returns-in_ok-attributes-in-Start-clause-extends c =
    Extends-trans _ _ _ c.in_ok-name-in-Start.ensures.extends
    c.in_ok-attributes-in-Start.ensures.extends
