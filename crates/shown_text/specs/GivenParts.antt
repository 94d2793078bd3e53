-- The parts of a section of fractions as they are held.
use Rattle.shown_text.specs.declared.fraction_parts.GivenParts.{GivenParts}
use Rattle.shown_text.specs.FractionTexts.{FractionParts}

-- the pieces of each part of a section that shows fractions
abbrev pub part_pieces : GivenParts → FractionParts
part_pieces parts = record {
  whole = parts.whole.now;
  between = parts.between.now;
  over = parts.over.now;
  before = parts.before.now;
  behind = parts.behind.now;
  under = parts.under.now;
  rest = parts.rest.now;
}
