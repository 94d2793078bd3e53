-- The text that the bytes of a part are, and so their events.
use Rattle.std.specs.Prelude.{ℕ, Bool, false, ◌==◌, not, List, [], ◌∷◌, take, drop, if◌then◌else◌}
use Rattle.std.specs.Prelude.{Option, None, Some, codes, option_map, option_and_then}
use Rattle.std.specs.List.{list_any}
use Rattle.std.specs.Str.{is_utf8, str_eq_ignore_ascii_case}
use Rattle.std.specs.Option.{option_map_or}
use Rattle.std.specs.Result.{result_ok}
use Rattle.attr_text.specs.Words.{value_of}
use Rattle.part_events.specs.Words.{Event, leaf, flaw}
use Rattle.part_events.specs.declared.flaw.Flaw.TheVariants.{NotText}
use Rattle.markup.specs.Words.{begins_with, first_place_of, markup_events}

-- the bytes of a part without the byte order mark with which they may begin
abbrev pub without_mark : List ℕ → List ℕ
without_mark bytes = if begins_with (239 ∷ 187 ∷ 191 ∷ []) bytes then drop 3 bytes else bytes

-- names of encodings whose bytes are read, in letters of either case
abbrev pub is_read : List ℕ → Bool
is_read name = list_any (str_eq_ignore_ascii_case name)
    (codes "utf-8" ∷ codes "utf8" ∷ codes "utf-16" ∷ codes "utf16" ∷ codes "us-ascii" ∷ [])

-- the attribute text of the declaration with which a text begins: what stands between its first
-- word and its end
abbrev pub declaration : List ℕ → Option (List ℕ)
declaration text =
    if begins_with (codes "<?xml ") text
    then option_map (λ size. take size (drop 5 text)) (first_place_of (codes "?>") (drop 5 text))
    else None

-- the encoding that the attribute text of a declaration names, if it names one
abbrev pub encoding_of : List ℕ → Option (List ℕ)
encoding_of attributes =
    option_and_then (λ name. name) (result_ok (value_of (codes "encoding") attributes))

-- the attribute text of a declaration names an encoding whose bytes aren't read
abbrev pub names_other : List ℕ → Bool
names_other attributes = option_map_or (λ name. not (is_read name)) (encoding_of attributes) false

-- the text begins with a declaration of another encoding
abbrev pub declares_other : List ℕ → Bool
declares_other text = option_map_or names_other (declaration text) false

-- the text that a part's bytes are, where they are UTF-8, have no character 0 and declare no other
-- encoding
abbrev pub text_in : List ℕ → Option (List ℕ)
text_in bytes =
    let text = without_mark bytes in
    if not (is_utf8 bytes) then None
    else (if list_any (λ b. b == 0) bytes then None
    else (if declares_other text then None else Some text))

-- the events of the text that a part is: a flaw alone where it is none
abbrev pub events_in : Option (List ℕ) → List Event
events_in None = leaf (flaw NotText) ∷ []
events_in (Some text) = markup_events text

-- the events that the bytes of a part are cut into
abbrev pub part_markup : List ℕ → List Event
part_markup bytes = events_in (text_in bytes)
