use Rattle.xlsx_tables.proofs.table_start.table_texts.Goals as goal

pub returns : goal.returns
returns c = rw c.attributes_raw.ensures at c.four_values.ensures
