-- What one pass over a text finds. Its numbers stop one past the limits of a worksheet.
use Rattle.std.specs.Prelude.{ℕ, ◌+◌, min, List}
use Rattle.std.specs.Char.{is_ascii_alphabetic}
use Rattle.std.specs.List.{prefix_len}
use Rattle.std.specs.Str.Parse.{digits_value}
use Rattle.cell_refs.specs.declared.position.Scan.{Scan}
use Rattle.cell_refs.specs.A1.{row_limit, column_limit, letters_value, letters_of, behind_letters}

-- what a scan of a text keeps; a number stays at one more than its limit, once it passes that
abbrev pub scan_of : List ℕ → Scan
scan_of text = record {
  column = min (letters_value (letters_of text)) (column_limit + 1);
  letters = prefix_len is_ascii_alphabetic text;
  row = min (digits_value 10 (behind_letters text)) (row_limit + 1);
}
