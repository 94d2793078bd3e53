use Rattle.xlsx_formats.proofs.formatting.formatting_texts.Goals as goal

pub returns : goal.returns
returns c = rw c.attributes_raw.ensures at c.four_values.ensures
