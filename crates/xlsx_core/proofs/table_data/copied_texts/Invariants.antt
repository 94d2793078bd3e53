use Rattle.std.proofs.Common.{◌≡◌, map, string_bytes, take}
use Rattle.xlsx_core.proofs.table_data.copied_texts.Given as goal

abbrev pub invariant-texts : goal.invariant-texts
invariant-texts l =
    map string_bytes l.copy.items ≡ map string_bytes (take l.text-index l.fn.texts)
