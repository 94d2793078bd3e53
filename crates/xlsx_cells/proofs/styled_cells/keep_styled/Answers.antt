use Rattle.std.proofs.lemmas.List.Elements.{All-push}
use Rattle.cell_data.specs.Words.{IsPlacedInSheet, cells_gathered}
use Rattle.xlsx_cells.proofs.styled_cells.keep_styled.Goals as goal

pub returns-clause-inside : goal.returns-clause-inside
returns-clause-inside c =
    rw c.in_ok-push.ensures.ok
    (All-push IsPlacedInSheet (cells_gathered c.args.cells.now) (c.args.pos, c.args.own)
    c.requires.inside (c.requires.row, c.requires.column))
