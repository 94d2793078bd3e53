-- How what is kept of a workbook's section goes on with the events that are taken.
use Rattle.std.proofs.Common.{◌≡◌, ℕ, suc, ◌+◌, ◌≤◌, List, ◌∷◌, ◌++◌, length, Bool, true, false}
use Rattle.std.proofs.Common.{Option, Some, None, Result, Ok, Err, refl, sym, ◌∙◌, ap, inl, inr}
use Rattle.std.proofs.Common.{append_assoc, string_bytes, String, Global, [], if◌then◌else◌}
use Rattle.std.specs.List.{flat_map}
use Rattle.std.specs.Prelude.{is_some, option_map}
use Rattle.part_events.specs.Words.{Tag, Event, start, end, leaf, is_start, joined_text, event_text}
use Rattle.part_events.specs.Words.{is_unknown, unknown_entity, Reading, TakesEvent, StepsAhead}
use Rattle.part_events.specs.Words.{ahead, Element, content, section_ahead, section_end}
use Rattle.part_events.specs.Words.{section_behind}
use Rattle.part_events.specs.declared.fault.XmlFault.TheVariants.{Entity}
use Rattle.part_events.proofs.Walking.{next_element}
use Rattle.xlsx_error.specs.declared.error.XlsxError.{XlsxError}
use Rattle.xlsx_error.specs.declared.error.XlsxError.TheVariants.{OutOfMemory, Xml}
use Rattle.xlsx_sections.specs.Words.{some_answers, and_others_if, or_earlier, prepended}
use Rattle.xlsx_sections.specs.Words.{PartSection, inside_of, Refusal, RefusedAt, no_character}
use Rattle.xlsx_sections.specs.Words.{placed_at, name_by}
use Rattle.xlsx_workbook.specs.DefinedNames.{name_with_text, defined_name, is_defined_name}
use Rattle.xlsx_workbook.specs.DefinedNames.{names_in, behind_in_section, scope_of, scope_said}
use Rattle.xlsx_workbook.specs.DefinedNames.{scope_where_named, scopes_in}
use Rattle.xlsx_relationships.specs.Words.{Related}
use Rattle.xlsx_workbook.specs.Sheets.{is_sheet, is_properties, sheet_of, epoch_of, sheets_in}
use Rattle.xlsx_workbook.specs.Sheets.{epoch_in}
use Rattle.xlsx_workbook.specs.Workbook.{KeepsSheets, AreSheetsRefused, AreContentsRefused}
use Rattle.xlsx_workbook.specs.Workbook.{TextRefused, KeepsName, sheets_of, names_of}
use Rattle.xlsx_workbook.specs.declared.name_scope.NameScope.{NameScope}
use Rattle.xlsx_workbook.specs.declared.workbook.WorkbookContents.{WorkbookContents}

-- sheets, names and dates that are kept, with what the events say that are left
pub record KeepsContents (folder : List ℕ) (related : List ℕ
    → Option Related) (all : List Event) (found : WorkbookContents) (left : List Event) : Type 0
  where
    pub sheets : prepended (sheets_of found) (sheets_in folder related left)
        ≡ sheets_in folder related all
    pub names : prepended (names_of found) (names_in left) ≡ names_in all
    pub scopes : found.scopes.items ++ scopes_in left ≡ scopes_in all
    pub epoch : or_earlier found.epoch (epoch_in left) ≡ epoch_in all

pub sheets_further : {folder : List ℕ} {related : List ℕ
    → Option Related} {first found last : WorkbookContents} {all events left : List Event}
    → KeepsSheets folder related first all found events
    → KeepsSheets folder related found events last left
    → KeepsSheets folder related first all last left
sheets_further one two = record { sheets = two.sheets ∙ one.sheets; epoch = two.epoch ∙ one.epoch }

-- what is refused later is refused from the start
pub refused_earlier : {folder : List ℕ} {related : List ℕ
    → Option Related} {first found : WorkbookContents} {all events : List Event} (refusal : Refusal)
    → KeepsSheets folder related first all found events
    → AreSheetsRefused folder related found events refusal
    → AreSheetsRefused folder related first all refusal
refused_earlier refusal one (inl is) = inl (sym one.sheets ∙ is)
refused_earlier refusal one (inr is) = inr (sym one.epoch ∙ is)

pub sheet_refused : (folder : List ℕ) (related : List ℕ
    → Option Related) (tag : Tag) (refusal : Refusal) (found : WorkbookContents)
    (others : List Event) → is_sheet tag ≡ true
    → sheet_of folder related (placed_at tag (length others)) ≡ Err refusal
    → AreSheetsRefused folder related found (start tag ∷ others) refusal
sheet_refused folder related tag refusal found others sheet is = inl (rw (sheet, is) refl)

pub epoch_refused : (folder : List ℕ) (related : List ℕ
    → Option Related) (tag : Tag) (refusal : Refusal) (found : WorkbookContents)
    (others : List Event) → is_properties tag ≡ true → epoch_of (placed_at tag (length others))
    ≡ Err refusal → AreSheetsRefused folder related found (start tag ∷ others) refusal
epoch_refused folder related tag refusal found others properties is = inr (rw (properties, is) refl)

-- one event of those that are left was taken
pub event_taken : {folder : List ℕ} {related : List ℕ
    → Option Related} {found last : WorkbookContents} {event : Event} {events left : List Event}
    → events ≡ event ∷ left
    → ((others : List Event) → KeepsSheets folder related found (event ∷ others) last others)
    → KeepsSheets folder related found events last left
event_taken {left = left} same takes = rw same (takes left)

-- the text of an element so far, with that of the events that are left of it
pub record JoinsText (all : List Event) (written : List ℕ) (left : List Event) : Type 0 where
  pub text : written ++ joined_text false left ≡ joined_text false all
  pub known : unknown_entity left ≡ unknown_entity all

pub joins_further : {all : List Event} {written more : List ℕ} {event : Event}
    {events left : List Event} → events ≡ event ∷ left → more ≡ written ++ event_text false event
    → is_unknown event ≡ false → JoinsText all written events → JoinsText all more left
joins_further {written = written} {event = event} {events = events} {left =
    left} same adds known joins =
    let rest : unknown_entity events ≡ unknown_entity left = rw (same, known) refl in
    record {
      text = ap (λ (front : List ℕ). front ++ joined_text false left) adds
          ∙ append_assoc written (event_text false event) (joined_text false left)
          ∙ ap (λ (next : List Event). written ++ joined_text false next) (sym same) ∙ joins.text;
      known = sym rest ∙ joins.known;
    }

-- a reference without a character comes next
pub unknown_first : {all : List Event} {written : List ℕ} {event : Event} {events left : List Event}
    → events ≡ event ∷ left → is_unknown event ≡ true → JoinsText all written events
    → unknown_entity all ≡ Some (length left)
unknown_first {events = events} {left = left} same is joins =
    let here : unknown_entity events ≡ Some (length left) = rw (same, is) refl in sym joins.known
    ∙ here

pub unknown_text : (name : Option (String Global)) (all : List Event) (behind within : ℕ)
    → is_some name ≡ true → unknown_entity all ≡ Some within
    → name_with_text all behind (Ok (option_map string_bytes name))
    ≡ Err (no_character (behind_in_section all behind within))
unknown_text None all behind within some is = absurd (cc)
unknown_text (Some own) all behind within some is = rw is refl

-- the text of an event can't be joined, and so the text of its element can't
pub text_refused : (Told : Type 0) (name : Option (String Global)) (all : List Event)
    (behind within place : ℕ) (wanted : Bool) (event : Event) (error : XlsxError)
    → (wanted ≡ true → is_some name ≡ true)
    → (Told → wanted ≡ true → is_unknown event ≡ true → unknown_entity all ≡ Some within)
    → TextRefused wanted event place error
    → RefusedAt (λ (refusal : Refusal). Told
    → name_with_text all behind (Ok (option_map string_bytes name))
    ≡ Err refusal) place (behind_in_section all behind within) error
text_refused Told name all behind within place wanted event (Xml (Entity at)) some unknown fails = (
  behind_in_section all behind within,
  ap (λ (n : ℕ). n + suc (behind_in_section all behind within)) fails.0,
  λ told. unknown_text name all behind within (some fails.1) (unknown told fails.1 fails.2),
)
text_refused Told name all behind within place wanted event OutOfMemory some unknown fails = tt
text_refused Told name all behind within place wanted event _ some unknown fails = absurd fails

-- an event that is no start says nothing of sheets and dates
pub no_sheet : {folder : List ℕ} {related : List ℕ
    → Option Related} (found : WorkbookContents) (event : Event) (others : List Event)
    → is_start event ≡ false → KeepsSheets folder related found (event ∷ others) found others
no_sheet found (start tag) others is = absurd (cc)
no_sheet found (end name) others is = record { sheets = refl; epoch = refl }
no_sheet found (leaf kind) others is = record { sheets = refl; epoch = refl }

-- a sheet that is refused behind what is kept is refused in the whole section
pub contents_refused : {folder : List ℕ} {related : List ℕ
    → Option Related} {found : WorkbookContents} {left : List Event} (s : PartSection)
    (refusal : Refusal) → KeepsContents folder related (inside_of s) found left
    → AreSheetsRefused folder related found left refusal
    → AreContentsRefused folder related s refusal
unfolding AreContentsRefused
contents_refused s refusal keeps (inl is) = inl (sym keeps.sheets ∙ is)
contents_refused s refusal keeps (inr is) = inr (inr (sym keeps.epoch ∙ is))

-- the start of a defined name comes next
abbrev pub IsNameNext : Tag → List Event → List Event → ℕ → List Event → Type 0
IsNameNext tag events inside behind others =
    names_in events ≡ and_others_if (name_with_text inside behind (name_by (placed_at tag behind)))
    (names_in others)

pub name_next : (base : ℕ) (tag : Tag) (old new : Reading) → TakesEvent old new
    → StepsAhead true old new → start tag ≡ new.source.current → base ≤ length old.names
    → section_end base old ≡ section_end base new → is_defined_name tag ≡ true
    → IsNameNext tag (section_ahead base old) (content 0 (ahead new))
    (length (section_ahead base new)) (section_behind base new)
name_next base tag old new takes steps current was ends is =
    ap (λ (elements : List Element). some_answers defined_name elements)
    (next_element is_defined_name base tag old new takes steps current was ends is).elements

-- and its scope, if it has a name
pub scope_next : (base : ℕ) (tag : Tag) (old new : Reading) → TakesEvent old new
    → StepsAhead true old new → start tag ≡ new.source.current → base ≤ length old.names
    → section_end base old ≡ section_end base new → is_defined_name tag ≡ true
    → scopes_in (section_ahead base old)
    ≡ scope_where_named (scope_of tag) (name_by (placed_at tag (length (section_ahead base new))))
    ++ scopes_in (section_behind base new)
scope_next base tag old new takes steps current was ends is =
    ap (flat_map scope_said)
    (next_element is_defined_name base tag old new takes steps current was ends is).elements

-- the scope of a name was taken, if there is a name
pub scope_taken : (all left others : List Event) (scope : NameScope)
    (own : Result (Option (List ℕ)) Refusal) (name : Option (String Global))
    (found last : List NameScope) → found ++ scopes_in left ≡ scopes_in all
    → scopes_in left ≡ scope_where_named scope own ++ scopes_in others
    → own ≡ Ok (option_map string_bytes name)
    → last ≡ found ++ (if is_some name then scope ∷ [] else [])
    → last ++ scopes_in others ≡ scopes_in all
scope_taken all left others scope own None found last keeps next same taken =
    ap (λ (front : List NameScope). front ++ scopes_in others) taken
    ∙ append_assoc found [] (scopes_in others)
    ∙ ap (λ (more : List NameScope). found ++ more) (sym (rw same at next)) ∙ keeps
scope_taken all left others scope own (Some text) found last keeps next same taken =
    ap (λ (front : List NameScope). front ++ scopes_in others) taken
    ∙ append_assoc found (scope ∷ []) (scopes_in others)
    ∙ ap (λ (more : List NameScope). found ++ more) (sym (rw same at next)) ∙ keeps

pub name_refused : {folder : List ℕ} {related : List ℕ
    → Option Related} {found : WorkbookContents} (s : PartSection) (tag : Tag)
    (left inside others : List Event) (behind : ℕ) (name : Result (Option (List ℕ)) Refusal)
    (refusal : Refusal) → KeepsContents folder related (inside_of s) found left
    → IsNameNext tag left inside behind others → name_by (placed_at tag behind) ≡ name
    → name_with_text inside behind name ≡ Err refusal → AreContentsRefused folder related s refusal
unfolding AreContentsRefused
name_refused {found = found} s tag left inside others behind name refusal keeps next same refuses =
    let here : prepended (names_of found) (names_in left) ≡ Err refusal =
    rw (next, same, refuses) refl in
    inr (inl (sym keeps.names ∙ here))

-- the element of a defined name was taken
pub name_taken : (all : List Event) (found last : WorkbookContents) (tag : Tag)
    (left inside others : List Event) (behind : ℕ) (after : WorkbookContents)
    (name : Option (List ℕ)) → prepended (names_of found) (names_in left) ≡ names_in all
    → names_of after ≡ names_of found → IsNameNext tag left inside behind others
    → name_by (placed_at tag behind) ≡ Ok name
    → KeepsName name inside behind (names_of after) (names_of last)
    → prepended (names_of last) (names_in others) ≡ names_in all
name_taken all found last tag left inside others behind after name keeps same next named taken =
    taken (names_in others)
    ∙ ap (λ (names : List (List ℕ × List ℕ)). prepended names
    (and_others_if (name_with_text inside behind (Ok name)) (names_in others))) same
    ∙ ap (λ (own : Result (Option (List ℕ)) Refusal). prepended (names_of found)
    (and_others_if (name_with_text inside behind own) (names_in others))) (sym named)
    ∙ ap (prepended (names_of found)) (sym next) ∙ keeps
