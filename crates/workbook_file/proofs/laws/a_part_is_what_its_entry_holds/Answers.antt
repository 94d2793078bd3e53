use Rattle.workbook_file.proofs.NamedParts.{by_name}
use Rattle.workbook_file.proofs.laws.a_part_is_what_its_entry_holds.Goals as goal

pub returns : goal.returns
returns c = by_name
