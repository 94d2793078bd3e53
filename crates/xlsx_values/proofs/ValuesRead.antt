-- How the value of a cell is read, and how one that is refused makes its element refused.
use Rattle.std.proofs.Common.{◌≡◌, ℕ, ◌+◌, ◌-◌, ◌<◌, List, [], ◌∷◌, length, true, false, None, Ok}
use Rattle.std.proofs.Common.{Err, sym, ◌∙◌, ap, arith, codes}
use Rattle.part_events.specs.Words.{Event, starts_in, ends_in, Reading, IsReadingElement, ahead}
use Rattle.part_events.specs.Words.{content, section_ahead, TakesInside}
use Rattle.part_events.specs.declared.fault.XmlFault.TheVariants.{Break, Unclosed, Entity}
use Rattle.xlsx_error.specs.declared.error.XlsxError.{XlsxError}
use Rattle.xlsx_error.specs.declared.error.XlsxError.TheVariants.{OutOfMemory, Io, Xml, XmlEof}
use Rattle.xlsx_error.specs.declared.error.XlsxError.TheVariants.{Unexpected, Unrecognized}
use Rattle.xlsx_error.specs.declared.error.XlsxError.TheVariants.{CellError, ParseFloat}
use Rattle.xlsx_error.specs.declared.error.XlsxError.TheVariants.{CellTAttribute}
use Rattle.xlsx_sections.specs.Words.{IsTextError, IsEndError, element_text, always, inside_of}
use Rattle.xlsx_sections.specs.Words.{section_left, Refusal, ElementFails, ElementReadFails}
use Rattle.xlsx_sections.specs.Words.{IsInsideRefused}
use Rattle.xlsx_sections.proofs.ElementsRead.{own_inside}
use Rattle.xlsx_sections.proofs.Refused.{event_refused, refused_as}
use Rattle.xlsx_values.specs.CellType.{CellKind}
use Rattle.xlsx_strings.specs.Strings.{string_of, end_in_string}
use Rattle.cell_data.specs.CellValue as value
use Rattle.xlsx_values.specs.Value.{of_joined, value_of_joined, joined_value, inline_value}
use Rattle.xlsx_values.specs.ValueContext.{IsTextValueError, IsValueError}

pub text_value : (error : XlsxError) → IsTextValueError error → IsValueError error
text_value OutOfMemory is = tt
text_value (Unexpected text) is = is
text_value (Unrecognized typ val) is = is
text_value (CellError written) is = tt
text_value (ParseFloat written) is = tt
text_value (CellTAttribute typ) is = tt
text_value _ is = absurd is

pub joined_text : (error : XlsxError) → IsTextError (codes "v") error → IsValueError error
joined_text OutOfMemory is = tt
joined_text Io is = tt
joined_text (Xml (Break at why)) is = tt
joined_text (Xml (Entity at)) is = tt
joined_text (XmlEof element) is = is
joined_text _ is = absurd is

pub skipped : (error : XlsxError) → IsEndError None error → IsValueError error
skipped OutOfMemory is = tt
skipped Io is = tt
skipped (Xml (Break at why)) is = tt
skipped (Xml (Unclosed at)) is = tt
skipped _ is = absurd is

pub ruleset value_errors = (text_value, joined_text, skipped)

-- the first event of the element at whose start a reader stood
pub first_event : {depth : ℕ} {event : Event} {old new : Reading} → depth ≡ length old.names
    → event ≡ new.source.current → TakesInside depth old new
    → inside_of (section_left (length old.names) old) ≡ event ∷ section_ahead depth new
first_event {depth = depth} {old = old} {new = new} deep current takes =
    ap (λ (n : ℕ). section_ahead n old) (sym deep) ∙ takes.events
    ∙ ap (λ (next : Event). next ∷ section_ahead depth new) (sym current)

some_past : (past : List Event) (n : ℕ) → n + ends_in past ≡ starts_in past → 0 < n
    → 0 < length past
some_past [] n same some = absurd (omega (arith, same, some))
some_past (event ∷ past) n same some = omega arith

-- the start of an element was taken
started : (old : Reading) → IsReadingElement old → old.source.is_visible ≡ true → 0 < old.at
started old is told =
    let tracked = is.reading.tracked told in
    omega (
      arith,
      tracked.at,
      some_past old.source.past (length old.names) tracked.depth (is.reading.element is.element),
    )

-- the joined text of the element at whose start a reader stood has no value
pub joined_refused : (kind : CellKind) (old new : Reading) (text : List ℕ) (error : XlsxError)
    → IsReadingElement old
    → (old.source.is_visible ≡ true → element_text false (content 0 (ahead old)) ≡ Ok text)
    → ((at behind : ℕ) → ElementFails (value_of_joined kind text) at behind error)
    → ElementReadFails (always (codes "v")) (joined_value kind) old new error
joined_refused kind old new text error is read fails =
    let inside = content 0 (ahead old) in
    event_refused (length old.names) (old.at - 1) (length inside) old (always (codes "v"))
    (λ (refusal : Refusal). value_of_joined kind text ≡ Err refusal)
    (IsInsideRefused (joined_value kind)) new error
    (λ told. omega (arith, started old is told, ap length (own_inside old)))
    (λ told refusal refuses.
    ap (joined_value kind) (own_inside old) ∙ ap (of_joined (value_of_joined kind)) (read told)
    ∙ refuses)
    (fails (old.at - 1) (length inside))

-- the string of an element can't be read, and neither can it as a value
pub inline_refused : (old new : Reading) (error : XlsxError)
    → ElementReadFails end_in_string string_of old new error
    → ElementReadFails end_in_string inline_value old new error
inline_refused old new error fails =
    refused_as (length old.names) old end_in_string (IsInsideRefused string_of)
    (IsInsideRefused inline_value) new error
    (λ refusal refuses. ap (of_joined (λ (written : List ℕ). Ok (value.text written))) refuses)
    fails
