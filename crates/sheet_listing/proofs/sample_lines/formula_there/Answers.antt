use Rattle.std.proofs.Common.{◌∙◌, Some, None}
use Rattle.cell_data.specs.Words.{cells_of}
use Rattle.sheet_listing.proofs.SheetListingLemmas.{formula_found}
use Rattle.sheet_listing.proofs.sample_lines.formula_there.Goals as goal

pub returns-in-Some : goal.returns-in-Some
returns-in-Some c =
    c.as_str.ensures.value
    ∙ formula_found c.args.position (cells_of c.args.formulas.now) (Some c.in-Some.formula.now)
    c.in-Some.ensures

pub returns-in-None : goal.returns-in-None
returns-in-None c =
    formula_found c.args.position (cells_of c.args.formulas.now) None c.in-None.ensures
