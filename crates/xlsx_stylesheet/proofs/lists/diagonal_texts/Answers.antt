use Rattle.xlsx_stylesheet.proofs.lists.diagonal_texts.Goals as goal

pub returns : goal.returns
returns c = rw c.attributes_raw.ensures at c.two_values.ensures
