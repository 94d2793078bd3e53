use Rattle.std.proofs.Common.{◌∙◌, ap, ℕ, Vec, Global}
use Rattle.cell_data.specs.declared.range.Range.{Range}
use Rattle.cell_data.specs.declared.value.Data.{Data}
use Rattle.sheet_listing.specs.SheetListing.{value_lines}
use Rattle.cell_data.specs.Words.{value_pairs}
use Rattle.xlsx_commands.proofs.table_lines.table_value_lines.Goals as goal

pub returns-clause-ok : goal.returns-clause-ok
returns-clause-ok c = record {
  table = c.in_ok-table.table;
  has = c.in_ok-table.ensures.ok;
  listed = ap (λ (own : Vec ℕ Global). own.items) c.into_bytes.ensures.value
      ∙ c.in_ok-value_lines_of.ensures
      ∙ ap (λ (range : Range Data). value_lines (value_pairs range)) c.data.ensures;
}
