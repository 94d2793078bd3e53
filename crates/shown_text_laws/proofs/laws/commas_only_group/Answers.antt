use Rattle.shown_text_laws.proofs.Grouped.{grouped}
use Rattle.shown_text_laws.proofs.laws.commas_only_group.Goals as goal

pub returns : goal.returns
returns c = grouped
