use Rattle.cell_styles.proofs.Equality.{of_borders, of_font, of_alignment, of_fill, of_style}
use Rattle.cell_styles.proofs.laws.equality_is_by_all_fields.Goals as goal

pub returns-clause-borders : goal.returns-clause-borders
returns-clause-borders c = of_borders

pub returns-clause-font : goal.returns-clause-font
returns-clause-font c = of_font

pub returns-clause-alignment : goal.returns-clause-alignment
returns-clause-alignment c = of_alignment

pub returns-clause-fill : goal.returns-clause-fill
returns-clause-fill c = of_fill

pub returns-clause-style : goal.returns-clause-style
returns-clause-style c = of_style
