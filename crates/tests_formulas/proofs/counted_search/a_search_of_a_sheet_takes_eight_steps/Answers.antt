use Rattle.std.proofs.Common.{refl}
use Rattle.formula_shift.specs.Areas.{area_named}
use Rattle.formula_shift.specs.References.{corner_of, word_reference}
use Rattle.formula_shift.specs.Pieces.{pieces, pieces_behind, string_length, quoted_length}
use Rattle.formula_shift.specs.Pieces.{group_length}
use Rattle.formula_shift.specs.Relocation.{piece_reference}
use Rattle.xlsx_precedents.specs.Precedents.{areas, steps_within}
use Rattle.tests_formulas.proofs.counted_search.a_search_of_a_sheet_takes_eight_steps.Goals as goal

pub returns : goal.returns
unfolding areas pieces pieces_behind string_length quoted_length group_length piece_reference
    word_reference corner_of area_named steps_within
returns c = refl
