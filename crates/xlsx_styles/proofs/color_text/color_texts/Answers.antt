use Rattle.xlsx_styles.proofs.color_text.color_texts.Goals as goal

pub returns : goal.returns
returns c = rw c.attributes_raw.ensures at c.four_values.ensures
