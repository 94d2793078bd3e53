-- The text of a string element, and the shared strings of a workbook.
use Rattle.std.specs.Prelude.{◌≡◌, ℕ, ◌-◌, List, [], ◌∷◌, take, drop, length, Bool, true, false}
use Rattle.std.specs.Prelude.{◌==◌, ◌||◌, if◌then◌else◌, codes, Option, Some, None, Result, Ok, Err}
use Rattle.std.specs.Prelude.{IsSomeAnd, MatchOption, ◌⊎◌, ⊤}
use Rattle.std.specs.List.{prefix_len, suffix_len, flat_map}
use Rattle.std.specs.Str.{bytes_eq}
use Rattle.attr_text.specs.Words.{value_of, unescaped}
use Rattle.attr_text.specs.declared.fault.AttrFault.{AttrFault}
use Rattle.part_events.specs.Words.{Tag, Event, Part, part_of, Element, is_named}
use Rattle.part_events.specs.declared.fault.XmlFault.TheVariants.{Break, Entity}
use Rattle.xlsx_error.specs.declared.error.XlsxError.{XlsxError}
use Rattle.xlsx_error.specs.declared.error.XlsxError.TheVariants.{OutOfMemory, Io, Xml, XmlAttr}
use Rattle.xlsx_error.specs.declared.error.XlsxError.TheVariants.{XmlEof}
use Rattle.xlsx_sections.specs.Words.{list_said, end_in_list, end_among, element_text}
use Rattle.xlsx_sections.specs.Words.{closed_section_of, Refusal, plain, lookup_fault}

-- a byte is a blank: a space, a tab, CR or LF
abbrev pub is_blank : ℕ → Bool
is_blank b = b == 32 || (b == 9 || (b == 13 || b == 10))

-- the text without blanks at its front and its end
abbrev pub trimmed : List ℕ → List ℕ
trimmed written =
    let behind = drop (prefix_len is_blank written) written in
    take (length behind - suffix_len is_blank behind) behind

-- what `xml:space` says of the blanks of a text
abbrev pub is_preserved : Option (List ℕ) → Bool
is_preserved None = false
is_preserved (Some space) = bytes_eq space (codes "preserve")

-- whether a text keeps the blanks at its ends, by its attributes
abbrev pub keeps_blanks : Result (Option (List ℕ)) AttrFault → Result Bool AttrFault
keeps_blanks (Ok space) = Ok (is_preserved space)
keeps_blanks (Err fault) = Err fault

-- a start keeps the blanks around its text
abbrev pub blanks_kept : Tag → Result Bool AttrFault
blanks_kept tag = keeps_blanks (value_of (codes "xml:space") tag.attributes)

-- a text with the blanks around it, or without them
abbrev pub spaced : Bool → List ℕ → List ℕ
spaced kept written = if kept then written else trimmed written

-- the text of an element, its blanks kept or not, and its escapes resolved
abbrev pub all_spaced : Bool → Result (List ℕ) Refusal → Result (List ℕ) Refusal
all_spaced kept (Ok written) = Ok (unescaped (spaced kept written))
all_spaced kept (Err refusal) = Err refusal

-- the text of an element, by what its start says of blanks
abbrev pub text_by : List Event → Result Bool AttrFault → Result (List ℕ) Refusal
text_by inside (Ok kept) = all_spaced kept (element_text true inside)
text_by inside (Err fault) = Err (plain (lookup_fault fault))

-- the text of an element of this start, by what stands in it
abbrev pub text_within : Tag → List Event → Result (List ℕ) Refusal
text_within tag inside = text_by inside (blanks_kept tag)

-- a start of the element `t`, a text
abbrev pub is_text : Tag → Bool
is_text tag = is_named (codes "t" ∷ []) tag

-- a start of a text `t`, or of what is said of its pronunciation, which isn't read
abbrev pub is_text_or_phonetic : Tag → Bool
is_text_or_phonetic tag = is_named (codes "t" ∷ codes "rPh" ∷ []) tag

-- what a `t`, or what is said of a pronunciation, adds to its string
abbrev pub piece_of : Tag → List Event → Result (List ℕ) Refusal
piece_of tag inside = if is_text tag then text_within tag inside else Ok []

-- the texts one behind another
abbrev pub all_joined : Result (List (List ℕ)) Refusal → Result (List ℕ) Refusal
all_joined (Ok texts) = Ok (flat_map (λ (text : List ℕ). text) texts)
all_joined (Err refusal) = Err refusal

-- the text of a string element, by what stands in it: its outermost texts, those of its
-- pronunciation left aside
abbrev pub string_of : List Event → Result (List ℕ) Refusal
string_of inside = all_joined (list_said is_text_or_phonetic piece_of inside)

-- a start of the element `si`, a shared string
abbrev pub is_string : Tag → Bool
is_string tag = is_named (codes "si" ∷ []) tag

-- the text of a shared string
abbrev pub string_said : Tag → List Event → Result (List ℕ) Refusal
string_said tag inside = string_of inside

-- the strings of the section of shared strings, in order
abbrev pub strings_in : List Event → Result (List (List ℕ)) Refusal
strings_in inside = list_said is_string string_said inside

-- the end of the part in a text is told as `t`, and elsewhere in a string by the empty text
abbrev pub end_in_piece : Tag → List Event → Option (List ℕ)
end_in_piece tag inside = if is_text tag then Some (codes "t") else Some []

-- the end that is told missing in a piece of a shared string
abbrev pub end_in_piece_element : Element → Option (List ℕ)
end_in_piece_element element = end_in_piece element.tag element.inside

-- the end that is told missing in a shared string
abbrev pub end_in_string : List Event → Option (List ℕ)
end_in_string inside = end_among is_text_or_phonetic [] end_in_piece_element inside

-- the end that is told missing in the shared strings
abbrev pub end_in_strings : List Event → Option (List ℕ)
end_in_strings inside = end_in_list is_string (codes "sst") end_in_string inside

-- the shared strings of the part at a path; an absent part has none
abbrev pub HasStrings : List Part → List ℕ → List (List ℕ) → Type 0
HasStrings parts path strings =
    MatchOption (part_of parts path) (strings ≡ [])
    (λ _. IsSomeAnd (closed_section_of (codes "sst") path parts)
    (λ inside. strings_in inside ≡ Ok strings))

-- the refusals that reading a string can have, whatever the package tells
abbrev pub IsStringError : XlsxError → Type 0
IsStringError Io = ⊤
IsStringError OutOfMemory = ⊤
IsStringError (Xml (Break at why)) = ⊤
IsStringError (Xml (Entity at)) = ⊤
IsStringError (XmlAttr fault) = ⊤
IsStringError (XmlEof element) = (element.now ≡ codes "t") ⊎ (element.now ≡ [])
IsStringError _ = ⊥

-- how the end of the part is told in shared strings
abbrev pub IsStringsEnd : List ℕ → Type 0
IsStringsEnd name = (name ≡ codes "sst") ⊎ ((name ≡ codes "t") ⊎ (name ≡ []))

-- the refusals that reading the shared strings can have
abbrev pub AreStringsError : XlsxError → Type 0
AreStringsError Io = ⊤
AreStringsError OutOfMemory = ⊤
AreStringsError (Xml (Break at why)) = ⊤
AreStringsError (Xml (Entity at)) = ⊤
AreStringsError (XmlAttr fault) = ⊤
AreStringsError (XmlEof element) = IsStringsEnd element.now
AreStringsError _ = ⊥
