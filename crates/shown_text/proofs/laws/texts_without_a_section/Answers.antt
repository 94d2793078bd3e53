use Rattle.shown_text.proofs.TextLaws.{text_kept}
use Rattle.shown_text.proofs.laws.texts_without_a_section.Goals as goal

pub returns : goal.returns
returns c = text_kept
