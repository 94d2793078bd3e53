-- The codes of number formats, by their ids (ECMA-376 part 1, section 18.8.30).
use Rattle.std.specs.Prelude.{◌≡◌, ℕ, List, [], ◌∷◌, ◌++◌, Bool, if◌then◌else◌, codes, Option, Some}
use Rattle.std.specs.Prelude.{None, option_map, Result, Ok, Err, String, string_bytes, IsOkAnd}
use Rattle.std.specs.BTreeMap.{get_by_text}
use Rattle.std.specs.Option.{option_or}
use Rattle.std.specs.Str.{bytes_eq}
use Rattle.std.specs.declared.alloc.Global.{Global}
use Rattle.attr_text.specs.Words.{lookup}
use Rattle.attr_text.specs.declared.fault.AttrFault.{AttrFault}
use Rattle.part_events.specs.Words.{Tag, Event, PlacedTag, starts_by, is_named}
use Rattle.xlsx_sections.specs.Words.{some_answers, with_two, Refusal, plain, lookup_fault}
use Rattle.xlsx_sections.specs.Words.{decoded_at}
use Rattle.xlsx_formats.specs.declared.format_codes.FormatCodes.{FormatCodes}
use Rattle.xlsx_formats.specs.declared.kept_code.KeptCode.{KeptCode}

-- a number format as a start writes it: its id, which is the text of the attribute, and its code,
-- which is decoded
pub record WrittenFormat : Type 0 where
  pub id : List ℕ
  pub code : List ℕ

-- a written format with its code, once that is resolved
abbrev pub with_code : List ℕ → Result (List ℕ) Refusal → Result (Option WrittenFormat) Refusal
with_code id (Ok code) = Ok (Some (record { id = id; code = code }))
with_code id (Err refusal) = Err refusal

-- the format that a start writes by its id and its code; one that lacks one of them writes none
abbrev pub written_by :
    ℕ → Option (List ℕ) → Option (List ℕ) → Result (Option WrittenFormat) Refusal
written_by behind None code = Ok None
written_by behind (Some id) None = Ok None
written_by behind (Some id) (Some code) = with_code id (decoded_at behind code)

-- the format that the texts of its attributes tell, if both are there
abbrev pub written_if :
    ℕ → Result (List (Option (List ℕ))) AttrFault → Result (Option WrittenFormat) Refusal
written_if behind (Ok texts) = with_two (written_by behind) (Ok None) texts
written_if behind (Err fault) = Err (plain (lookup_fault fault))

-- the attributes that tell a written format
abbrev pub written_keys : List (List ℕ)
written_keys = codes "numFmtId" ∷ codes "formatCode" ∷ []

-- the format that a start writes
abbrev pub written_format : PlacedTag → Result (Option WrittenFormat) Refusal
written_format start = written_if start.behind (lookup written_keys start.tag.attributes)

-- a start of the element `numFmt`, a written number format
abbrev pub is_number_format : Tag → Bool
is_number_format tag = is_named (codes "numFmt" ∷ []) tag

-- the formats that an element of number formats writes, by what stands in it: those of its starts,
-- in order
abbrev pub formats_written : List Event → Result (List WrittenFormat) Refusal
formats_written inside = some_answers written_format (starts_by is_number_format inside)

-- formats, and one more if there is one
abbrev pub with_written : List WrittenFormat → Option WrittenFormat → List WrittenFormat
with_written formats None = formats
with_written formats (Some format) = formats ++ format ∷ []

-- the code of a format, if it has this id
abbrev pub code_if : List ℕ → WrittenFormat → Option (List ℕ)
code_if id format = if bytes_eq format.id id then Some format.code else None

-- the code of the last format of this id
abbrev pub code_written : List ℕ → List WrittenFormat → Option (List ℕ)
code_written id [] = None
code_written id (format ∷ formats) = option_or (code_written id formats) (code_if id format)

-- the code of a written format
abbrev pub code_of : KeptCode → List ℕ
code_of kept = string_bytes kept.code

-- the code that is kept of this id
abbrev pub code_kept : FormatCodes → List ℕ → Option (List ℕ)
code_kept kept id = option_map code_of (get_by_text kept.by_id id)

-- the formats of a map's entries, the first one last
abbrev pub formats_at : List (String Global × KeptCode) → List WrittenFormat
formats_at [] = []
formats_at (entry ∷ entries) =
    formats_at entries ++ record { id = string_bytes entry.0; code = code_of entry.1 } ∷ []

-- formats whose codes are kept, one of each id
abbrev pub formats_kept : FormatCodes → List WrittenFormat
formats_kept kept = formats_at kept.by_id.entries

-- the codes that are kept are those of these formats, in the order in which they were written
abbrev pub AreCodes : List WrittenFormat → FormatCodes → Type 0
AreCodes formats kept = (id : List ℕ) → code_kept kept id ≡ code_written id formats

-- the codes of what a front of these starts writes were kept, behind those that were kept before
pub record KeepsFront (starts : List PlacedTag) (old new : FormatCodes) : Type 0 where
  pub front : List PlacedTag
  pub left : List PlacedTag
  pub all : front ++ left ≡ starts
  pub kept :
      IsOkAnd (some_answers written_format front) (λ formats. (earlier : List WrittenFormat) →
      AreCodes earlier old → AreCodes (earlier ++ formats) new)
