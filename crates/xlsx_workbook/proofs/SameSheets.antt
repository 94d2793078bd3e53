-- Comparisons of sheets, and of a workbook's sheets and names, hold exactly of those with the same
-- texts, types and states.
use Rattle.std.proofs.Common.{rules}
use Rattle.std.specs.Prelude.{string_bytes, string_eq}
use Rattle.std.specs.declared.alloc.Global.{Global}
use Rattle.std.proofs.lemmas.Slice.Eq.{bytes_eq-Decides}
use Rattle.equalities.specs.Equality.{IsEquality, IsEqualityBy}
use Rattle.equalities.proofs.Equality.{of_pairs, of_lists, of_seen_pairs}
use Rattle.xlsx_workbook.specs.KeptContents.{sheet_seen, metadata_seen}
use Rattle.xlsx_workbook.specs.contracts.sheet.MetadataPartialEq.TheImpl as metadata
use Rattle.xlsx_workbook.specs.contracts.sheet.SheetPartialEq.TheImpl as sheet
use Rattle.xlsx_workbook.specs.contracts.sheet.SheetTypePartialEq.TheImpl as typ
use Rattle.xlsx_workbook.specs.contracts.sheet.SheetVisiblePartialEq.TheImpl as visible

of_string : IsEqualityBy (string_bytes {Z = Global}) string_eq
of_string a b = bytes_eq-Decides (string_bytes a) (string_bytes b)

of_type : IsEquality typ.ghosts.eq
of_type a b = search rules

of_state : IsEquality visible.ghosts.eq
of_state a b = search rules

pub of_sheet : IsEqualityBy sheet_seen sheet.ghosts.eq
of_sheet a b = of_seen_pairs of_string (of_pairs of_type of_state)
    (a.name, (a.typ, a.visible)) (b.name, (b.typ, b.visible))

pub of_metadata : IsEqualityBy metadata_seen metadata.ghosts.eq
of_metadata a b = of_seen_pairs (of_lists of_sheet) (of_lists (of_seen_pairs of_string of_string))
    (a.sheets.items, a.names.items) (b.sheets.items, b.names.items)
