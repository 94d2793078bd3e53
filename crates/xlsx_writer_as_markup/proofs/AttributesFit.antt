-- Which attribute texts a start can have.
use Rattle.std.proofs.Common.{◌≡◌, ℕ, suc, ◌+◌, ◌-◌, Bool, true, false, List, [], ◌∷◌, ◌++◌, length}
use Rattle.std.proofs.Common.{Option, Some, None, refl, sym, ap, ◌∙◌, subst, arith, length-append}
use Rattle.std.proofs.Common.{append_assoc, append-nil}
use Rattle.std.specs.Prelude.{◌==◌, not}
use Rattle.std.specs.List.{list_any}
use Rattle.std.proofs.lemmas.Bool.{or_parts, and_from, eq-eqb, cond-false}
use Rattle.std.proofs.Math.Seq.{get_or-append_seam}
use Rattle.part_events.specs.Words.{start}
use Rattle.markup.specs.Words.{is_space, ends_name, byte_at, one, last_byte_or_zero, is_tag_name}
use Rattle.markup.specs.Words.{is_attribute_text, is_spellable}
use Rattle.markup.specs.Marks.{bracket_place}
use Rattle.markup.proofs.Runs.{bracket_over}
use Rattle.text_package.specs.PartSpelling.{IsPartText}
use Rattle.written_markup.specs.Words.{attribute, has_byte, attribute_if, encoded}
use Rattle.written_markup.proofs.TextsReadBack.{encoded_without_quote}
use Rattle.xlsx_writer_as_markup.proofs.Texts.{is_word, word_text, word_without, no_text, joined}
use Rattle.xlsx_writer_as_markup.proofs.Texts.{ascii_text, encoded_text}

-- ---- values

-- a value that stands between quotes, and is a text where the sheet's texts are known to be
pub record IsValue (Known : Type 0) (value : List ℕ) : Type 0 where
  pub no_quote : has_byte 34 value ≡ false
  pub text : Known → IsPartText value

pub word_value : (Known : Type 0) (value : List ℕ) → is_word value ≡ true → IsValue Known value
word_value Known value are = record {
  no_quote = word_without 34 value (omega arith) are;
  text = λ known. word_text value are;
}

pub encoded_value : (Known : Type 0) (value : List ℕ) → (Known → IsPartText value)
    → IsValue Known (encoded value)
encoded_value Known value own = record {
  no_quote = encoded_without_quote value;
  text = λ known. encoded_text value (own known);
}

-- a quoted value is passed over up to its quote
quoted : (value more : List ℕ) → has_byte 34 value ≡ false
    → bracket_place (Some 34) (value ++ 34 ∷ more) ≡ length value + 1 + bracket_place None more
unfolding bracket_place
quoted [] more none = omega arith
quoted (b ∷ value) more none =
    let tests = or_parts (b == 34) (has_byte 34 value) none in
    let later = quoted value more tests.1 in
    let here : bracket_place (Some 34) (b ∷ (value ++ 34 ∷ more))
    ≡ suc (bracket_place (Some 34) (value ++ 34 ∷ more)) =
    ap (λ (quote : Option ℕ). suc (bracket_place quote (value ++ 34 ∷ more)))
    (cond-false _ _ _ tests.0) in
    here ∙ omega arith

-- ---- attributes

-- a text is empty or begins with white space
abbrev pub begins_spaced : List ℕ → Bool
begins_spaced [] = true
begins_spaced (b ∷ bytes) = is_space b

-- What a start can have behind its name, in front of more of it: it begins with white space, what
-- searches for the end of the tag passes over it, no `/` ends it, and it is a text.
pub record IsAttributes (Known : Type 0) (bytes : List ℕ) : Type 0 where
  pub begins : begins_spaced bytes ≡ true
  pub place : (more : List ℕ)
      → bracket_place None (bytes ++ more) ≡ length bytes + bracket_place None more
  pub ends : (front : List ℕ) → (last_byte_or_zero front == 47) ≡ false
      → (last_byte_or_zero (front ++ bytes) == 47) ≡ false
  pub text : Known → IsPartText bytes

pub no_attributes : (Known : Type 0) → IsAttributes Known []
no_attributes Known = record {
  begins = refl;
  place = λ more. omega arith;
  ends = λ front slash.
      subst (λ (bytes : List ℕ). (last_byte_or_zero bytes == 47) ≡ false)
      (sym (append-nil front)) slash;
  text = λ known. no_text;
}

-- the last byte of a text behind which a quote stands
last_quote : (bytes : List ℕ) → (last_byte_or_zero (bytes ++ 34 ∷ []) == 47) ≡ false
last_quote bytes =
    let before : length (bytes ++ 34 ∷ []) - 1 ≡ length bytes =
    omega (arith, length-append bytes (34 ∷ [])) in
    ap (λ b. b == 47) (ap (byte_at (bytes ++ 34 ∷ [])) before ∙ get_or-append_seam bytes 34 [] 0)

-- an attribute in front of its last quote
abbrev unended : List ℕ → List ℕ → List ℕ
unended key value = 32 ∷ (key ++ 61 ∷ 34 ∷ value)

ended : (key value : List ℕ) → attribute key value ≡ unended key value ++ 34 ∷ []
ended key value =
    ap (λ (bytes : List ℕ). 32 ∷ bytes) (sym (append_assoc key (61 ∷ 34 ∷ value) (34 ∷ [])))

attribute_ends : (key value front : List ℕ)
    → (last_byte_or_zero (front ++ attribute key value) == 47) ≡ false
attribute_ends key value front =
    ap (λ (bytes : List ℕ). last_byte_or_zero bytes == 47)
    (ap (λ (bytes : List ℕ). front ++ bytes) (ended key value)
    ∙ sym (append_assoc front (unended key value) (34 ∷ [])))
    ∙ last_quote (front ++ unended key value)

attribute_place : (key value more : List ℕ) → list_any ends_name key ≡ false
    → has_byte 34 value ≡ false
    → bracket_place None (attribute key value ++ more)
    ≡ length (attribute key value) + bracket_place None more
unfolding bracket_place
attribute_place key value more plain none =
    let behind : List ℕ = 61 ∷ 34 ∷ (value ++ 34 ∷ []) in
    let whole : List ℕ = 61 ∷ 34 ∷ (value ++ 34 ∷ more) in
    let apart : (key ++ behind) ++ more ≡ key ++ whole =
    append_assoc key behind more
    ∙ ap (λ (bytes : List ℕ). key ++ 61 ∷ 34 ∷ bytes) (append_assoc value (34 ∷ []) more) in
    let first : bracket_place None (attribute key value ++ more)
    ≡ suc (bracket_place None (key ++ whole)) =
    ap (λ (bytes : List ℕ). suc (bracket_place None bytes)) apart in
    let over : bracket_place None (key ++ whole) ≡ length key + bracket_place None whole =
    bracket_over key whole plain in
    let last : bracket_place None whole ≡ suc (suc (length value + 1 + bracket_place None more)) =
    ap (λ n. suc (suc n)) (quoted value more none) in
    let long : length (attribute key value) ≡ suc (length key + length behind) =
    omega (arith, length-append key behind) in
    let inner : length behind ≡ suc (suc (length value + 1)) =
    omega (arith, length-append value (34 ∷ [])) in
    omega arith

attribute_text : (key value : List ℕ) → is_word key ≡ true → IsPartText value
    → IsPartText (attribute key value)
attribute_text key value are own =
    let quote = ascii_text (34 ∷ []) refl refl in
    joined (32 ∷ []) (key ++ 61 ∷ 34 ∷ (value ++ 34 ∷ [])) (ascii_text (32 ∷ []) refl refl)
    (joined key (61 ∷ 34 ∷ (value ++ 34 ∷ [])) (word_text key are)
    (joined (61 ∷ []) (34 ∷ (value ++ 34 ∷ [])) (word_text (61 ∷ []) refl)
    (joined (34 ∷ []) (value ++ 34 ∷ []) quote (joined value (34 ∷ []) own quote))))

pub attribute_fits : (Known : Type 0) (key value : List ℕ) → list_any ends_name key ≡ false
    → is_word key ≡ true → IsValue Known value → IsAttributes Known (attribute key value)
attribute_fits Known key value plain are own = record {
  begins = refl;
  place = λ more. attribute_place key value more plain own.no_quote;
  ends = λ front slash. attribute_ends key value front;
  text = λ known. attribute_text key value are (own.text known);
}

begins_in_row : (first second : List ℕ) → begins_spaced first ≡ true
    → begins_spaced second ≡ true → begins_spaced (first ++ second) ≡ true
begins_in_row [] second a b = b
begins_in_row (c ∷ first) second a b = a

pub attributes_in_row : (Known : Type 0) (first second : List ℕ) → IsAttributes Known first
    → IsAttributes Known second → IsAttributes Known (first ++ second)
attributes_in_row Known first second a b = record {
  begins = begins_in_row first second a.begins b.begins;
  place = λ more.
      ap (bracket_place None) (append_assoc first second more)
      ∙ omega (arith, a.place (second ++ more), b.place more, length-append first second);
  ends = λ front slash.
      subst (λ (bytes : List ℕ). (last_byte_or_zero bytes == 47) ≡ false) (append_assoc front
      first second)
      (b.ends (front ++ first) (a.ends front slash));
  text = λ known. joined first second (a.text known) (b.text known);
}

-- a text that may be absent is a word
abbrev pub is_word_if : Option (List ℕ) → Bool
is_word_if None = true
is_word_if (Some bytes) = is_word bytes

pub attribute_if_fits : (Known : Type 0) (key : List ℕ) (value : Option (List ℕ))
    → list_any ends_name key ≡ false → is_word key ≡ true → is_word_if value ≡ true
    → IsAttributes Known (attribute_if key value)
attribute_if_fits Known key None plain are own = no_attributes Known
attribute_if_fits Known key (Some value) plain are own =
    attribute_fits Known key value plain are (word_value Known value own)

-- ---- tags

is_attributes : (Known : Type 0) (bytes : List ℕ) → IsAttributes Known bytes
    → is_attribute_text bytes ≡ true
unfolding bracket_place
is_attributes Known [] own = refl
is_attributes Known (b ∷ bytes) own =
    let none : bracket_place None (62 ∷ []) ≡ 0 = refl in
    and_from _ _ own.begins (eq-eqb _ _ (own.place (62 ∷ []) ∙ omega arith))

-- a start of this name with such attributes
pub start_fits : (Known : Type 0) (name attributes : List ℕ) → is_tag_name name ≡ true
    → IsAttributes Known attributes
    → is_spellable (one (start (record { name = name; attributes = attributes }))) ≡ true
start_fits Known name attributes is own =
    and_from _ _ (and_from _ _ is (is_attributes Known attributes own))
    (ap not (own.ends [] refl))
