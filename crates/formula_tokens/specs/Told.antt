-- What the code finds, as the definitions have it.
use Rattle.std.specs.Prelude.{ℕ, false, Bool, List, ◌∷◌, ◌++◌}
use Rattle.formula_tokens.specs.declared.token.Token.{Token}
use Rattle.formula_tokens.specs.declared.token.Token.TheVariants as token
use Rattle.formula_tokens.specs.declared.token.Tokens.{Tokens}
use Rattle.formula_tokens.specs.declared.item.Item.{Item}
use Rattle.formula_tokens.specs.declared.item.Item.TheVariants as item
use Rattle.formula_tokens.specs.declared.item.Name.{Name}
use Rattle.formula_tokens.specs.declared.item.Name.TheVariants as name_as
use Rattle.formula_tokens.specs.declared.item.Named.{Named}
use Rattle.formula_tokens.specs.declared.item.Named.TheVariants as named
use Rattle.formula_tokens.specs.declared.item.Place.{Place}
use Rattle.formula_tokens.specs.declared.item.Place.TheVariants as place
use Rattle.formula_tokens.specs.declared.items.Items.{Items}
use Rattle.formula_tokens.specs.declared.prefix.Prefix.{Prefix}
use Rattle.formula_tokens.specs.declared.word.ItemCut.{ItemCut}
use Rattle.formula_tokens.specs.Tokens.{TokenText, word, quotes, brackets, lost, failure, literal}
use Rattle.formula_tokens.specs.Tokens.{blank, stray, sign, tokens}
use Rattle.formula_tokens.specs.Items.{ItemText, says, calls, opens, closes, colon, apart, unread}
use Rattle.formula_tokens.specs.Items.{PlaceText, here, on_sheet, on_sheets, in_book, elsewhere}
use Rattle.formula_tokens.specs.Items.{NamedText, cells, lost_cells, name, table, own_table}
use Rattle.formula_tokens.specs.Items.{PrefixText, ItemCutText, kept_bytes, is_of_file, place_text}
use Rattle.formula_tokens.specs.Items.{items_behind}

-- a token that lies in a text, by its bytes
abbrev pub token_text : Token → TokenText
token_text (token.Word text) = word text.now
token_text (token.Quotes text) = quotes text.now
token_text (token.Brackets text) = brackets text.now
token_text token.Lost = lost
token_text token.Failure = failure
token_text token.Literal = literal
token_text token.Blank = blank
token_text (token.Stray text) = stray text.now
token_text (token.Sign byte) = sign byte

-- the text that an iterator over tokens has left
abbrev pub text_behind : Tokens → List ℕ
text_behind t = t.rest.now

-- the tokens that an iterator has still to give
abbrev pub tokens_left : Tokens → List TokenText
tokens_left t = tokens (text_behind t)

-- the text that a name stands for
abbrev pub name_text : Name → List ℕ
name_text (name_as.Plain text) = text.now
name_text (name_as.Quoted text) = kept_bytes text.now

-- the place that the code tells
abbrev pub place_told : Place → PlaceText
place_told place.Here = here
place_told (place.OnSheet sheet) = on_sheet (name_text sheet)
place_told (place.OnSheets first last) = on_sheets (name_text first) (name_text last)
place_told place.InBook = in_book
place_told (place.InFile book sheet) = elsewhere (91 ∷ book.now ++ (93 ∷ name_text sheet))
place_told (place.Elsewhere text) = elsewhere (name_text text)

-- what the code finds named
abbrev pub named_told : Named → NamedText
named_told (named.Cells first second) = cells first second
named_told named.Lost = lost_cells
named_told (named.Name text) = name text.now
named_told (named.Table text inside) = table text.now inside.now
named_told (named.OwnTable inside) = own_table inside.now

-- the item that the code finds
abbrev pub item_text : Item → ItemText
item_text (item.Says at what) = says (place_told at) (named_told what)
item_text (item.Calls at function) = calls (place_told at) function.now
item_text item.Opens = opens
item_text item.Closes = closes
item_text item.Colon = colon
item_text item.Apart = apart
item_text (item.Unread text) = unread (name_text text)
item_text (item.Alone at) = unread (place_text (place_told at))

-- a name is of another file
abbrev pub name_is_of_file : Name → Bool
name_is_of_file (name_as.Plain text) = false
name_is_of_file (name_as.Quoted text) = is_of_file text.now

-- a place that the code tells, and how many tokens tell it
abbrev pub prefix_told : Prefix → PrefixText
prefix_told found = record { place = place_told found.place; size = found.size }

-- an item that the code finds, and how many tokens it has
abbrev pub cut_told : ItemCut → ItemCutText
cut_told found = record { item = item_text found.item; size = found.size }

-- the items that an iterator has still to give
abbrev pub formula_items_left : Items → List ItemText
formula_items_left it = items_behind 0 (tokens_left it.tokens)
