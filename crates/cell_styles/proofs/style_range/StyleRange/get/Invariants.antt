use Rattle.cell_styles.proofs.style_range.StyleRange.get.Given as goal

abbrev pub ghosts-get_uncounted : goal.ghosts-get_uncounted
ghosts-get_uncounted a = record { name = a.blank.name; parts = a.blank.parts }
