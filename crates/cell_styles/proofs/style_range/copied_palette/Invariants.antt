use Rattle.std.proofs.Common.{◌≡◌, take}
use Rattle.cell_styles.proofs.style_range.copied_palette.Given as goal

abbrev pub invariant-loop-style : goal.invariant-loop-style
invariant-loop-style l = l.copy.items ≡ take l.style-index l.palette
