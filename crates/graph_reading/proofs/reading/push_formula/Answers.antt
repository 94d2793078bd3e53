use Rattle.std.proofs.Common.{◌<◌, ap, arith, length, string_bytes}
use Rattle.std.proofs.lemmas.List.{length-map}
use Rattle.xlsx_core.specs.Words.{formula_read}
use Rattle.graph_reading.proofs.FormulasPushed.{refused_one}
use Rattle.graph_reading.proofs.reading.push_formula.Goals as goal

pub returns-clause-large : goal.returns-clause-large
returns-clause-large c =
    let formula = c.args.formula.now in
    let book = c.args.book.now in
    let size = length-map c.sheet_names.result.now string_bytes in
    let within : formula.sheet < length book.sheets =
    omega (arith, size, ap length c.sheet_names.ensures, c.if-formula-sheet_names.false) in
    refused_one book (formula_read formula) c.args.graph.now c.push.new.self c.push.result within
    c.requires.measured (rw c.as_str.ensures.value at c.push.ensures.gives)
