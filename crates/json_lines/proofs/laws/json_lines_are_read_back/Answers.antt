use Rattle.json.proofs.Printed.Trees.{document-print}
use Rattle.json_lines.proofs.laws.json_lines_are_read_back.Goals as goal

pub returns : goal.returns
returns c = record { back = document-print }
