-- What the code finds, as the definitions have it.
use Rattle.std.specs.Prelude.{ℕ, Bool, ◌==◌, List, ◌∷◌, ◌++◌, string_bytes}
use Rattle.formula_tokens.specs.Told.{name_text}
use Rattle.xlsx_graph.specs.declared.named.OpenWord.{OpenWord}
use Rattle.xlsx_graph.specs.declared.meaning.Meaning.{Meaning}
use Rattle.xlsx_graph.specs.declared.meaning.Meaning.TheVariants as meaning
use Rattle.xlsx_graph.specs.declared.sheets.Sheets.{Sheets}
use Rattle.xlsx_graph.specs.declared.sheets.Sheets.TheVariants as sheets
use Rattle.xlsx_graph.specs.declared.word.Word.{Word}
use Rattle.xlsx_graph.specs.declared.word.Word.TheVariants as word
use Rattle.xlsx_graph.specs.Naming.{OpenText, in_brackets, SheetsText, from_to, unknown_sheet}
use Rattle.xlsx_graph.specs.Naming.{other_file, MeaningText, means_nothing, means_area, means_open}
use Rattle.xlsx_graph.specs.Naming.{means_name}

-- a byte is an apostrophe
abbrev pub is_apostrophe : ℕ → Bool
is_apostrophe b = b == 39

-- the text of a word that is left open, as it is kept
abbrev pub word_text : Word → List ℕ
word_text (word.Name own) = name_text own
word_text (word.InFile book sheet) = 91 ∷ book.now ++ (93 ∷ name_text sheet)
word_text (word.Brackets table inside) = in_brackets table.now inside.now

-- an open word that is kept, as definitions see it
abbrev pub open_told : OpenWord → OpenText
open_told open_word =
    record { cause = open_word.cause; text = string_bytes open_word.text }

-- the sheets that the code finds
abbrev pub sheets_told : Sheets → SheetsText
sheets_told (sheets.FromTo first last) = from_to first last
sheets_told (sheets.Unknown own) = unknown_sheet (word_text own)
sheets_told (sheets.OtherFile own) = other_file (word_text own)

-- what the code finds that a mention means
abbrev pub meaning_told : Meaning → MeaningText
meaning_told meaning.Nothing = means_nothing
meaning_told (meaning.Area area) = means_area area
meaning_told (meaning.Open cause own) = means_open cause (word_text own)
meaning_told (meaning.Name number sheet own) = means_name number sheet own.now
