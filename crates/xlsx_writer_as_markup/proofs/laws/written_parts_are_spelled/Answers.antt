use Rattle.xlsx_writer_as_markup.proofs.PartsFit.{parts_spelled}
use Rattle.xlsx_writer_as_markup.proofs.laws.written_parts_are_spelled.Goals as goal

pub returns : goal.returns
returns c = parts_spelled
