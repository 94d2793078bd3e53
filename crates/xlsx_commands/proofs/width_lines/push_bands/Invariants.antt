use Rattle.std.proofs.Common.{◌≡◌, ◌++◌, drop, map, string_bytes}
use Rattle.xlsx_widths.specs.Widths.{band_kept}
use Rattle.xlsx_commands.specs.SheetLists.{band_lines}
use Rattle.xlsx_commands.proofs.width_lines.push_bands.Given as goal

abbrev pub invariant-loop-band : goal.invariant-loop-band
invariant-loop-band l =
    string_bytes l.out ++ band_lines l.form (map band_kept (drop l.band-index l.bands))
    ≡ string_bytes l.fn.out ++ band_lines l.form (map band_kept l.bands)
