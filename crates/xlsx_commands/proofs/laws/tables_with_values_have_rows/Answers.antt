use Rattle.xlsx_commands.proofs.OutputLemmas.{records_of_values, values_by_records, values_by_area}
use Rattle.xlsx_commands.proofs.laws.tables_with_values_have_rows.Goals as goal

pub returns : goal.returns
returns c = record {
  onward = records_of_values;
  back = values_by_records;
  large = values_by_area;
}
