-- The error that a text names, and the text of an error.
use Rattle.std.specs.Prelude.{ℕ, if◌then◌else◌, List, codes, Option, Some, None}
use Rattle.std.specs.Str.{bytes_eq}
use Rattle.cell_data.specs.declared.value.CellErrorType.{CellErrorType}
use Rattle.cell_data.specs.declared.value.CellErrorType.TheVariants.{Div0, NA, Name, Null, Num, Ref}
use Rattle.cell_data.specs.declared.value.CellErrorType.TheVariants.{Value, GettingData}

-- the error that a text names
abbrev pub cell_error : List ℕ → Option CellErrorType
cell_error text =
    if bytes_eq text (codes "#DIV/0!") then Some Div0
    else (if bytes_eq text (codes "#N/A") then Some NA
    else (if bytes_eq text (codes "#NAME?") then Some Name
    else (if bytes_eq text (codes "#NULL!") then Some Null
    else (if bytes_eq text (codes "#NUM!") then Some Num
    else (if bytes_eq text (codes "#REF!") then Some Ref
    else (if bytes_eq text (codes "#VALUE!") then Some Value
    else None))))))

-- the text that names an error; no text names that of data that is still being fetched
abbrev pub cell_error_text : CellErrorType → List ℕ
cell_error_text Div0 = codes "#DIV/0!"
cell_error_text NA = codes "#N/A"
cell_error_text Name = codes "#NAME?"
cell_error_text Null = codes "#NULL!"
cell_error_text Num = codes "#NUM!"
cell_error_text Ref = codes "#REF!"
cell_error_text Value = codes "#VALUE!"
cell_error_text GettingData = codes "#DATA!"
