use Rattle.std.proofs.Common.{◌≡◌, ◌∷◌, ◌∙◌, ap, sym, map, drop, arith, ℕ, List, add-one}
use Rattle.std.proofs.Common.{append-nil, string_bytes, ◌++◌}
use Rattle.xlsx_tables.specs.Tables.{SheetTable}
use Rattle.xlsx_core.specs.Words.{loaded_tables, table_names_left}
use Rattle.xlsx_commands.specs.TableLists.{table_lines, line_of_table}
use Rattle.xlsx_commands.proofs.TablesListed.{name_said, next_table, lines_more, none_left}
use Rattle.xlsx_commands.proofs.table_lines.lines_of_tables.Goals as goal

pub tables-preserved : goal.tables-preserved
tables-preserved c =
    let tables = loaded_tables c.args.xlsx.now in
    let index = c.tables.index in
    let name = c.in-Some.name.now in
    let rest = table_names_left c.next.new.self in
    let now = c.tables.invariant in
    let left : table_names_left c.tables.name-iterator ≡ name ∷ rest = c.in-Some.ensures.steps in
    let next = next_table tables index name rest (sym now.names ∙ left) in
    let pushed : string_bytes c.push_table.new.out
    ≡ string_bytes c.tables.out ++ line_of_table c.args.form next.own =
    c.in_ok-push_table.ensures next.own next.there next.named in
    record {
      within = omega (arith, next.within);
      names = sym next.others ∙ ap (λ (n : ℕ). map name_said (drop n tables)) (sym (add-one index));
      listed = ap (λ (n : ℕ). string_bytes c.push_table.new.out
          ++ table_lines c.args.form (drop n tables))
          (add-one index)
          ∙ lines_more c.args.form tables index next.own (string_bytes c.tables.out)
          (string_bytes c.push_table.new.out) (table_lines c.args.form tables) next.first pushed
          now.listed;
    }

pub returns : goal.returns
returns c =
    let tables = loaded_tables c.args.xlsx.now in
    let now = c.tables.invariant in
    let none = none_left (drop c.tables.index tables) (sym now.names ∙ c.in-None.ensures.steps.0) in
    sym (append-nil (string_bytes c.tables.out))
    ∙ ap (λ (left : List SheetTable). string_bytes c.tables.out
    ++ table_lines c.args.form left) (sym none)
    ∙ now.listed
