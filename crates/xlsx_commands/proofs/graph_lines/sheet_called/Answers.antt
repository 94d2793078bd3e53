use Rattle.std.proofs.Common.{◌∙◌, rules, sym, string_bytes}
use Rattle.std.specs.Str.{bytes_eq}
use Rattle.std.proofs.lemmas.Iterator.{YieldsList-from_slice}
use Rattle.std.proofs.lemmas.Iterator.Adapters.{position_from-zero}
use Rattle.std.proofs.lemmas.Iterator.Search.{position_from_yields_List}
use Rattle.book_names.proofs.Looking.{position_from-map}
use Rattle.xlsx_workbook.specs.declared.sheet.Sheet.{Sheet}
use Rattle.xlsx_commands.proofs.graph_lines.sheet_called.Goals as goal

pub returns : goal.returns
returns c =
    let test = λ (sheet : Sheet). bytes_eq (string_bytes sheet.name) c.args.name.now in
    position_from_yields_List test _ _ c.position.result c.position.ensures.ran
    (YieldsList-from_slice _ c.iter.ensures.rest) (λ x b q called. search rules)
    ∙ position_from-zero test c.args.sheets.now
    ∙ sym (position_from-map (λ (sheet : Sheet). string_bytes sheet.name)
    (λ own. bytes_eq own c.args.name.now) 0 c.args.sheets.now)
