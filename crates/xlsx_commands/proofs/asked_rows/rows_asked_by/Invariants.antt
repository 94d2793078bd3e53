use Rattle.std.proofs.Common.{◌≡◌, map, drop, string_bytes}
use Rattle.xlsx_commands.specs.AskedRows.{options_asked, plain_rows}
use Rattle.xlsx_commands.proofs.asked_rows.rows_asked_by.Given as goal

abbrev pub invariant-words : goal.invariant-words
invariant-words l =
    options_asked l.asked (map string_bytes (drop l.i l.words))
    ≡ options_asked plain_rows (map string_bytes l.words)
