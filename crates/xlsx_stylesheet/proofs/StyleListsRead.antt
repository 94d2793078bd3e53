-- How the lists of a section of styles are read one by one.
use Rattle.std.proofs.Common.{◌≡◌, ℕ, List, [], ◌∷◌, length, true, false, Result, Ok, refl, sym}
use Rattle.std.proofs.Common.{◌∙◌, ap, subst, inl, inr, codes}
use Rattle.std.specs.Prelude.{IfErr}
use Rattle.std.proofs.lemmas.Bool.{cases_Bool}
use Rattle.std.proofs.lemmas.Result.{MatchResult-weaker}
use Rattle.part_events.specs.Words.{Tag, Event, start, Reading, PassesElement, ahead, content}
use Rattle.part_events.specs.Words.{outermost, section_ahead, element_at}
use Rattle.xlsx_error.specs.declared.error.XlsxError.{XlsxError}
use Rattle.cell_styles.specs.declared.color.Color.{Color}
use Rattle.xlsx_sections.specs.Words.{prepended, all_answers, all_changes, element_said}
use Rattle.xlsx_sections.specs.Words.{KeepsElements, ElementReadFails, IsInsideRefused}
use Rattle.xlsx_sections.specs.Words.{SectionFails, inside_of, section_left, Refusal, in_element}
use Rattle.xlsx_sections.proofs.ElementsRead.{IsElementFound, element_passed, element_refused}
use Rattle.xlsx_sections.proofs.ElementsRead.{own_inside}
use Rattle.xlsx_sections.proofs.Kept.{change_further, change_refused}
use Rattle.xlsx_sections.proofs.Refused.{refused_as}
use Rattle.xlsx_sections.proofs.SectionsRead.{same_tag}
use Rattle.xlsx_formats.specs.FormatCodes.{WrittenFormat, AreCodes, formats_kept}
use Rattle.xlsx_formats.specs.Formattings.{formatting_of}
use Rattle.xlsx_formats.proofs.CodesWritten.{codes_written}
use Rattle.xlsx_formats.proofs.FormattingsRead.{formatting_same}
use Rattle.xlsx_stylesheet.specs.Lists.{is_format, formattings_in}
use Rattle.xlsx_stylesheet.specs.StyleSheet.{ListsSaid, with_list, list_of, list_read, list_change}
use Rattle.xlsx_stylesheet.specs.StyleSheet.{is_style_list, lists_in, list_end, list_element_end}
use Rattle.xlsx_stylesheet.specs.StyleSheet.{end_in_styles, lists_said, IsListRead}
use Rattle.xlsx_stylesheet.specs.declared.style_lists.StyleList.{StyleList}
use Rattle.xlsx_stylesheet.specs.declared.style_lists.StyleLists.{StyleLists}

answers_same : {X A : Type 0} (first second : X → Result A Refusal)
    → ((x : X) → first x ≡ second x) → (xs : List X)
    → all_answers first xs ≡ all_answers second xs
answers_same first second same [] = refl
answers_same first second same (x ∷ xs) = rw (same x, answers_same first second same xs) refl

-- the cell formats of a list, by all written formats whose codes are the ones that are kept
pub formattings_same : (formats : List WrittenFormat) (lists : StyleLists)
    → AreCodes formats lists.codes → (inside : List Event)
    → formattings_in (lists_said (formats_kept lists.codes) lists).named inside
    ≡ formattings_in (lists_said formats lists).named inside
formattings_same formats lists are inside =
    let kept = formats_kept lists.codes in
    let own = (lists_said formats lists).named in
    answers_same (element_said (formatting_of (lists_said kept lists).named))
    (element_said (formatting_of own))
    (λ element. ap (in_element element)
    (formatting_same kept formats lists.codes own (codes_written lists.codes) are element.tag
    element.inside))
    (outermost is_format inside)

-- the lists of a section were read up to here
pub record KeepsLists (theme : List Color) (base : ℕ) (lists : StyleLists) (first now : Reading)
    : Type 0 where
  pub keeps : KeepsElements is_style_list base first now
  pub formats : List WrittenFormat
  pub codes : AreCodes formats lists.codes
  pub said :
      first.source.is_visible ≡ true →
      all_changes (list_change theme) (outermost is_style_list (section_ahead base now))
      (lists_said formats lists)
      ≡ lists_in theme (section_ahead base first)

-- an element is refused, and so is the section
pub lists_refused : {theme : List Color} {base place : ℕ} {tag : Tag} {first old new : Reading}
    {lists : StyleLists} (last : Reading) (error : XlsxError)
    → KeepsLists theme base lists first old
    → IsElementFound is_style_list base tag place first old new
    → ((formats : List WrittenFormat) → AreCodes formats lists.codes
    → ElementReadFails (list_end (list_of tag))
    (list_read theme (list_of tag) (lists_said formats lists)) new last error)
    → SectionFails end_in_styles (IsInsideRefused (lists_in theme)) base first last error
lists_refused {theme = theme} {base = base} {tag = tag} {new = new} {lists =
    lists} last error kept found fails =
    let before = lists_said kept.formats lists in
    let here = element_at base tag new in
    let meaning : List Event → Result ListsSaid Refusal = list_read theme (list_of tag) before in
    element_refused (codes "styleSheet") list_element_end (list_end (list_of tag))
    (IsInsideRefused meaning) (IsInsideRefused (lists_in theme)) last error found (λ _. refl)
    (λ told refusal refuses. change_refused (list_change theme) before (found.next told).elements
    (ap (in_element here) (sym (ap meaning (own_inside new)) ∙ refuses)) (kept.said told))
    (fails kept.formats kept.codes)

-- an element was read to its end, and made the lists longer
pub lists_lengthened : {theme : List Color} {base place : ℕ} {tag : Tag}
    {first old new after : Reading} {lists longer : StyleLists}
    → KeepsLists theme base lists first old
    → IsElementFound is_style_list base tag place first old new → PassesElement new after
    → (new.source.is_visible ≡ true → (formats : List WrittenFormat) → AreCodes formats lists.codes
    → IsListRead theme tag lists longer (content 0 (ahead new)) formats)
    → KeepsLists theme base longer first after
lists_lengthened {theme = theme} {base = base} {tag = tag} {first = first} {new = new} {lists =
    lists} {longer = longer} kept found passes read =
    let passed = element_passed found passes in
    let here = element_at base tag new in
    elim (cases_Bool first.source.is_visible) [
      | inl is ↦
          let one = read (found.read.reads.moves.parts.is_visible ∙ is) kept.formats kept.codes in
          record {
            keeps = passed.keeps;
            formats = one.later;
            codes = one.codes;
            said = λ told. change_further (list_change theme) (lists_said kept.formats lists)
                (passed.elements told) (ap (in_element here) one.said) (kept.said told);
          }
      | inr is_not ↦
          record {
            keeps = passed.keeps;
            formats = formats_kept longer.codes;
            codes = codes_written longer.codes;
            said = λ told. let never : true ≡ false = sym told ∙ is_not in absurd (cc);
          }
    ]

-- a list that is refused refuses the element that it is
pub list_fails : {A : Type 0} {kind : StyleList} (theme : List Color) (said : ListsSaid)
    (place : List A → ListsSaid) (kept : List A) (meaning : List Event → Result (List A) Refusal)
    (tag : Tag) (old new : Reading) (error : XlsxError) → kind ≡ list_of tag
    → ((inside : List Event)
    → list_read theme kind said inside ≡ with_list place (prepended kept (meaning inside)))
    → ElementReadFails (list_end kind) meaning old new error
    → ElementReadFails (list_end (list_of tag)) (list_read theme (list_of tag) said) old new error
list_fails {A = A} {kind = kind} theme said place kept meaning tag old new error named same
    fails =
    subst (λ (kind : StyleList).
    ElementReadFails (list_end kind) (list_read theme kind said) old new error) named
    (refused_as (length old.names) old (list_end kind) (IsInsideRefused meaning)
    (IsInsideRefused (list_read theme kind said)) new error
    (λ refusal refuses. same (inside_of (section_left (length old.names) old))
    ∙ ap (λ (answer : Result (List A) Refusal). with_list place (prepended kept answer)) refuses)
    fails)

-- and one that was read makes it longer
pub list_lengthened : {theme : List Color} {kind : StyleList} {old new : StyleLists}
    {inside : List Event} {formats : List WrittenFormat} (tag : Tag) (later : List WrittenFormat)
    → kind ≡ list_of tag → AreCodes later new.codes
    → list_read theme kind (lists_said formats old) inside ≡ Ok (lists_said later new)
    → IsListRead theme tag old new inside formats
list_lengthened {theme = theme} {old = old} {new = new} {inside = inside} {formats =
    formats} tag later named are said =
    record {
      later = later;
      codes = are;
      said = subst (λ (kind : StyleList). list_read theme kind (lists_said formats old) inside
          ≡ Ok (lists_said later new)) named said;
    }

-- the list of the start at which a reader stands
pub list_there : {own tag : Tag} {event : Event} {found kind : StyleList} → found ≡ kind
    → found ≡ list_of own → start own ≡ event → start tag ≡ event → kind ≡ list_of tag
list_there is named here there =
    sym is ∙ named ∙ ap list_of (same_tag (here ∙ sym there))

-- a list that is refused refuses the element at whose start the reader stands
pub arm_refused : {A T : Type 0} {kind found : StyleList} {own : Tag} {event : Event}
    (theme : List Color) (lists : StyleLists) (place : ListsSaid → List A → ListsSaid)
    (kept : ListsSaid → List A) (meaning : List Event → Result (List A) Refusal)
    (old new : Reading) (result : Result T XlsxError) → found ≡ kind
    → found ≡ list_of own → start own ≡ event → ((said : ListsSaid) (inside : List Event)
    → list_read theme kind said inside
    ≡ with_list (place said) (prepended (kept said) (meaning inside)))
    → IfErr result (ElementReadFails (list_end kind) meaning old new)
    → IfErr result (λ error. (tag : Tag) (formats : List WrittenFormat) → start tag ≡ event
    → AreCodes formats lists.codes → ElementReadFails (list_end (list_of tag))
    (list_read theme (list_of tag) (lists_said formats lists)) old new error)
arm_refused theme lists place kept meaning old new result found named here same refused =
    MatchResult-weaker result refused (λ _ holds. holds)
    (λ error fails tag formats there are.
    let said = lists_said formats lists in
    list_fails theme said (place said) (kept said) meaning tag old new error
    (list_there found named here there) (same said) fails)
