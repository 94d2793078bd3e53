-- Texts and attributes as they are written, so that they read back.
use Rattle.std.specs.Prelude.{◌≡◌, ⊤, ℕ, zero, suc, ◌==◌, ◌||◌, ◌&&◌, ◌/◌, ◌%◌, not, nat_lt, Bool}
use Rattle.std.specs.Prelude.{true, false, if◌then◌else◌, List, [], ◌∷◌, ◌++◌, codes, Option, Some}
use Rattle.std.specs.Prelude.{None, is_some}
use Rattle.std.specs.Char.{is_ascii_whitespace, digit_value}
use Rattle.std.specs.Fmt.{digit_glyph}
use Rattle.std.specs.List.{flat_map, list_any}
use Rattle.std.specs.Option.{option_map_or}
use Rattle.attr_text.specs.Words.{is_equals_sign}
use Rattle.part_events.specs.Words.{Event, leaf, text, entity_ref}
use Rattle.written_markup.specs.Markup.{attribute}

-- a byte stands in the text
abbrev pub has_byte : ℕ → List ℕ → Bool
has_byte byte bytes = list_any (λ b. b == byte) bytes

-- ---- attributes

-- an attribute, where it has a value
abbrev pub attribute_if : List ℕ → Option (List ℕ) → List ℕ
attribute_if key None = []
attribute_if key (Some value) = attribute key value

-- the attributes of keys and values, one behind another
abbrev pub attributes_of : List (List ℕ × List ℕ) → List ℕ
attributes_of [] = []
attributes_of (pair ∷ pairs) = attribute pair.0 pair.1 ++ attributes_of pairs

-- the pair of a key and its value, where it has one
abbrev pub pair_if : List ℕ → Option (List ℕ) → List (List ℕ × List ℕ)
pair_if key None = []
pair_if key (Some value) = (key, value) ∷ []

-- white space, or `=`: neither stands in a key
abbrev pub is_no_key_byte : ℕ → Bool
is_no_key_byte b = is_ascii_whitespace b || is_equals_sign b

-- a key without white space and `=`, and a value without `"`
pub record IsWritablePair (pair : List ℕ × List ℕ) : Type 0 where
  pub key : list_any is_no_key_byte pair.0 ≡ false
  pub value : has_byte 34 pair.1 ≡ false

-- each of these pairs is one that can be written
abbrev pub AreWritablePairs : List (List ℕ × List ℕ) → Type 0
AreWritablePairs [] = ⊤
AreWritablePairs (pair ∷ pairs) = IsWritablePair pair × AreWritablePairs pairs

-- ---- escapes

-- `&`, `"` and `<` as references, and each other byte as it is
abbrev pub encoded_byte : ℕ → List ℕ
encoded_byte b =
    if b == 38 then codes "&amp;"
    else (if b == 34 then codes "&quot;" else (if b == 60 then codes "&lt;" else b ∷ []))

-- a text as it stands between quotes, where references count
abbrev pub encoded : List ℕ → List ℕ
encoded bytes = flat_map encoded_byte bytes

-- `_` as its escape, and each other byte as it is
abbrev pub escaped_underscore : ℕ → List ℕ
escaped_underscore b = if b == 95 then codes "_x005F_" else b ∷ []

-- a text as it stands where `_xHHHH_` counts
abbrev pub underscores_escaped : List ℕ → List ℕ
underscores_escaped bytes = flat_map escaped_underscore bytes

-- a byte that no text of XML has: below 32, and neither tab, LF nor CR (XML 1.0, 2.2)
abbrev pub is_control : ℕ → Bool
is_control b = nat_lt b 32 && not (b == 9 || (b == 10 || b == 13))

-- the escape `_x00HH_` of a byte that no text of XML has, with two hexadecimal digits
abbrev pub control_escape : ℕ → List ℕ
control_escape b =
    codes "_x00" ++ (digit_glyph true (b / 16) ∷ digit_glyph true (b % 16) ∷ codes "_")

-- so many hexadecimal digits, and behind them a byte that is written with `_` in front
abbrev pub digits_then_mark : ℕ → List ℕ → Bool
digits_then_mark n [] = false
digits_then_mark zero (b ∷ bytes) = b == 95 || is_control b
digits_then_mark (suc n) (b ∷ bytes) = nat_lt (digit_value b) 16 && digits_then_mark n bytes

-- what stands behind a `_`, as it is written, makes it the first byte of an escape
abbrev pub makes_escape : List ℕ → Bool
makes_escape [] = false
makes_escape (b ∷ bytes) = b == 120 && digits_then_mark 4 bytes

-- a byte as it is written in front of what stands behind it: as an escape where it is one that no
-- text of XML has, or a `_` that would be read as the first byte of an escape, and else as it is
abbrev pub least_escaped_byte : ℕ → List ℕ → List ℕ
least_escaped_byte b behind =
    if is_control b then control_escape b
    else (if b == 95 && makes_escape behind then codes "_x005F_" else b ∷ [])

-- a text as it stands where `_xHHHH_` counts, with no more escapes than it needs
abbrev pub least_escaped : List ℕ → List ℕ
least_escaped [] = []
least_escaped (b ∷ bytes) = least_escaped_byte b bytes ++ least_escaped bytes

-- ---- texts as events

-- The name of the reference that a byte is written as in a text, where it is one: CR, which would
-- be read as LF, `&` and `<`, which begin markup, and `>`, since no text has `]]>` (XML 1.0, 2.4).
abbrev pub reference_name : ℕ → Option (List ℕ)
reference_name b =
    if b == 13 then Some (codes "#13")
    else (if b == 38 then Some (codes "amp")
    else (if b == 60 then Some (codes "lt")
    else (if b == 62 then Some (codes "gt") else None)))

-- a byte is written as a reference
abbrev pub is_referenced : ℕ → Bool
is_referenced b = is_some (reference_name b)

-- the event of a run of a text; of an empty one there is none
abbrev pub run_events : List ℕ → List Event
run_events [] = []
run_events (b ∷ bs) = leaf (text (b ∷ bs)) ∷ []

-- the events of a text behind a run of it that is written as it is
abbrev pub events_behind_run : List ℕ → List ℕ → List Event
events_behind_run run [] = run_events run
events_behind_run run (b ∷ bytes) =
    option_map_or (λ name. run_events run ++ (leaf (entity_ref name) ∷ events_behind_run [] bytes))
    (reference_name b) (events_behind_run (run ++ b ∷ []) bytes)

-- the events of a text: references, and the runs between them
abbrev pub text_events : List ℕ → List Event
text_events bytes = events_behind_run [] bytes
