use Rattle.std.proofs.Common.{sym, ap, ◌∙◌, subst, string_bytes, arith}
use Rattle.std.specs.Prelude.{map}
use Rattle.std.proofs.lemmas.List.{length-map}
use Rattle.book_names.specs.Numbers.{FindsFirstNumbers, FindsAt, FindsColumns}
use Rattle.book_names.specs.Told.{name_told, table_told}
use Rattle.book_names.proofs.Looking.{names_of_tables}
use Rattle.book_names.proofs.book.BookNames.new.Goals as goal

pub invariant_of-result : goal.invariant_of-result
invariant_of-result c =
    let found = c.in_ok-defined_numbers.defined_numbers in record {
      sheets_found = subst
          (λ l. FindsFirstNumbers c.in_ok-sheet_numbers.sheet_numbers 0 (map string_bytes l))
          c.deref.ensures.value c.in_ok-sheet_numbers.ensures;
      scopes = omega (
        arith,
        c.in_ok-defined_numbers.ensures.0,
        c.len.ensures,
        length-map c.args.sheets.items string_bytes,
        c.args.sheets.ok.0,
        found.ok.0,
      );
      names_found = subst (λ l. FindsAt found.items 0 (map name_told l)) c.deref-2.ensures.value
          c.in_ok-defined_numbers.ensures.1;
      tables_found = subst (FindsFirstNumbers c.in_ok-table_numbers.table_numbers 0)
          (ap (map (λ t. string_bytes t.name)) c.deref-3.ensures.value
          ∙ sym (names_of_tables c.args.tables.items)) c.in_ok-table_numbers.ensures;
      columns_found = subst
          (λ l. FindsColumns c.in_ok-column_numbers.column_numbers.items (map table_told l))
          c.deref-4.ensures.value c.in_ok-column_numbers.ensures;
    }
