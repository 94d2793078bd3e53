use Rattle.xlsx_writer_as_markup.proofs.PartsFit.{parts_cut_back, ranges_cut_back}
use Rattle.xlsx_writer_as_markup.proofs.laws.written_parts_are_cut_back.Goals as goal

pub returns : goal.returns
returns c = record { placed = parts_cut_back; ranges = ranges_cut_back }
