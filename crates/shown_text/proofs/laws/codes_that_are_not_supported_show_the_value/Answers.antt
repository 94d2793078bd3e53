use Rattle.shown_text.proofs.TextLaws.{number_unsupported, text_unsupported}
use Rattle.shown_text.proofs.laws.codes_that_are_not_supported_show_the_value.Goals as goal

pub returns : goal.returns
returns c = record { numbers = number_unsupported; texts = text_unsupported }
