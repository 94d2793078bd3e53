use Rattle.xlsx_styles.proofs.alignment.alignment_texts.Goals as goal

pub returns : goal.returns
returns c = rw c.attributes_raw.ensures at c.six_values.ensures
