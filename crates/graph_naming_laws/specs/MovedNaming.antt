-- What a formula names in its workbook, item by item, where it says no defined name.
use Rattle.std.specs.Prelude.{true, List, [], ◌∷◌}
use Rattle.std.specs.List.{flat_map}
use Rattle.formula_tokens.specs.Items.{ItemText, says, calls, unread}
use Rattle.book_names.specs.Book.{Book}
use Rattle.xlsx_graph.specs.Naming.{OpenText, MeaningText, means_nothing, means_area, means_open}
use Rattle.xlsx_graph.specs.Naming.{mention_meaning, function_meaning}
use Rattle.xlsx_graph.specs.NamingLaws.{formula_reader}
use Rattle.xlsx_graph.specs.declared.named.BookArea.{BookArea}
use Rattle.xlsx_graph.specs.declared.named.Cause.TheVariants.{NotRead}
use Rattle.xlsx_graph.specs.declared.named.Standing.{Standing}

-- what an item means in the formula of a cell
abbrev pub item_meaning : Book → Standing → ItemText → MeaningText
item_meaning book cell (says place named) =
    mention_meaning book (formula_reader cell) place named
item_meaning book cell (calls place w) = function_meaning book (formula_reader cell) place w
item_meaning book cell (unread text) = means_open NotRead text
item_meaning book cell _ = means_nothing

-- an area on its sheets, be its values needed or its place alone
abbrev pub valued : BookArea → BookArea
valued a = record { first = a.first; last = a.last; area = a.area; is_valued = true }

-- the area that is meant, if one is
abbrev pub meant_areas : MeaningText → List BookArea
meant_areas (means_area area) = valued area ∷ []
meant_areas _ = []

-- the word that is meant and left open, if one is
abbrev pub meant_words : MeaningText → List OpenText
meant_words (means_open cause text) = record { cause = cause; text = text } ∷ []
meant_words _ = []

-- the areas that items mean in the formula of a cell, in order
abbrev pub areas_meant : Book → Standing → List ItemText → List BookArea
areas_meant book cell items = flat_map (λ i. meant_areas (item_meaning book cell i)) items

-- the words that items leave open there, in order
abbrev pub words_meant : Book → Standing → List ItemText → List OpenText
words_meant book cell items = flat_map (λ i. meant_words (item_meaning book cell i)) items
