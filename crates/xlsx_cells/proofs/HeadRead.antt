-- How the head of a sheet's part is read.
use Rattle.std.proofs.Common.{◌≡◌, ℕ, List, [], ◌∷◌, Bool, true, false, Option, Some, None, Result}
use Rattle.std.proofs.Common.{Ok, Err, refl, sym, ◌∙◌, ap, subst, codes}
use Rattle.std.specs.Prelude.{if◌then◌else◌, ◌||◌}
use Rattle.std.specs.Option.{option_or}
use Rattle.std.specs.Str.{bytes_eq}
use Rattle.attr_text.specs.Words.{local_name_of}
use Rattle.cell_refs.specs.declared.dimensions.Dimensions.{Dimensions}
use Rattle.part_events.specs.Words.{Tag, Event, start, end, leaf, whole, Reading, ahead, events_of}
use Rattle.part_events.specs.Words.{behind_start}
use Rattle.part_events.specs.declared.fault.XmlFault.TheVariants.{Break}
use Rattle.xlsx_error.specs.declared.error.XlsxError.{XlsxError}
use Rattle.xlsx_error.specs.declared.error.XlsxError.TheVariants.{OutOfMemory, Io, Xml, XmlEof}
use Rattle.xlsx_error.specs.declared.error.XlsxError.TheVariants.{NotAWorksheet}
use Rattle.xlsx_sections.specs.Words.{or_earlier, or_later, Refusal}
use Rattle.xlsx_sections.proofs.Kept.{or_earlier-None}
use Rattle.xlsx_sections.proofs.Refused.{refused_weaker, never_refused}
use Rattle.xlsx_cells.specs.Counting.{IsRefused}
use Rattle.xlsx_cells.specs.Head.{is_sheet_data, starts_data, dimension_area, dimensions_by}
use Rattle.xlsx_cells.specs.Head.{dimensions_in, dimensions_at, other_in, other_name}
use Rattle.xlsx_cells.specs.Head.{IsHeadStartRefused, LacksData, HasNoData, HasSoundDimensions}
use Rattle.xlsx_cells.specs.Head.{HeadCause, HeadFails, IfNoWorksheet}
use Rattle.xlsx_cells.specs.declared.head.Head.{Head}

-- what is kept of the events before `left`, with what these say, is what all of them say
pub record KeepsHead (all : List Event) (head : Head) (left : List Event) : Type 0 where
  pub found : behind_start is_sheet_data left ≡ behind_start is_sheet_data all
  pub dimensions : or_earlier head.dimensions (dimensions_in left) ≡ dimensions_in all
  pub other : option_or (other_name head) (other_in left) ≡ other_in all

-- ---- one event more

dimensions_event : (event : Event) (events : List Event) → starts_data event ≡ false
    → dimensions_in (event ∷ events) ≡ or_later (dimensions_at event) (dimensions_in events)
dimensions_event (start tag) events none = rw none refl
dimensions_event (end name) events none = sym (or_earlier-None (dimensions_in events))
dimensions_event (leaf kind) events none = sym (or_earlier-None (dimensions_in events))

option_or_None : {A : Type 0} (a : Option A) → option_or a None ≡ a
option_or_None None = refl
option_or_None (Some x) = refl

-- ---- the start of the data

-- ---- refusals

named_dimension : (b : Bool) (tag : Tag) → b ≡ true
    → (if b || false then dimension_area tag else Ok None) ≡ dimension_area tag
named_dimension true tag is = refl
named_dimension false tag is = absurd (cc)

-- a start of this name tells the dimensions
pub tells_dimensions : (tag : Tag) → bytes_eq (local_name_of tag.name) (codes "dimension") ≡ true
    → dimensions_by tag ≡ dimension_area tag
tells_dimensions tag is =
    named_dimension (bytes_eq (local_name_of tag.name) (codes "dimension")) tag is

pub start_refused : (answer : Result (Option Dimensions) Refusal) (error : XlsxError)
    → IsRefused (λ (refusal : Refusal). answer ≡ Err refusal) error
    → IsHeadStartRefused answer error
start_refused answer OutOfMemory refuses = tt
start_refused answer error refuses = refuses

pub dimensions_refused : {all left events : List Event} {event : Event} {head : Head}
    {refusal : Refusal} → KeepsHead all head left → left ≡ event ∷ events
    → starts_data event ≡ false → dimensions_at event ≡ Err refusal
    → dimensions_in all ≡ Err refusal
dimensions_refused {events = events} {event = event} {head = head} keeps same none is =
    sym keeps.dimensions
    ∙ ap (or_earlier head.dimensions) (ap dimensions_in same ∙ dimensions_event event events none
    ∙ ap (λ (answer : Result (Option Dimensions) Refusal). or_later answer (dimensions_in events))
    is)

-- a start before the data doesn't tell that the part is no worksheet
pub start_tells : (fact : Type 0) (answer : Result (Option Dimensions) Refusal) (error : XlsxError)
    → IsHeadStartRefused answer error → IfNoWorksheet fact error
start_tells fact answer (NotAWorksheet name) refuses = absurd (refuses 0)
start_tells fact answer _ refuses = tt

pub tells_with : {fact : Type 0} (error : XlsxError) → fact → IfNoWorksheet fact error
tells_with (NotAWorksheet name) is = is
tells_with _ is = tt

pub tells_weaker : {one two : Type 0} (error : XlsxError) → (one → two)
    → IfNoWorksheet one error → IfNoWorksheet two error
tells_weaker (NotAWorksheet name) goes is = goes is
tells_weaker _ goes is = tt

-- a start before the data is refused, and so is the head
pub head_refused : (old new : Reading) (answer : Result (Option Dimensions) Refusal)
    (error : XlsxError) → IsHeadStartRefused answer error
    → (old.source.is_visible ≡ true → (refusal : Refusal) → answer ≡ Err refusal
    → dimensions_in (ahead old) ≡ Err refusal) → HeadFails old new error
head_refused old new answer Io refuses all = absurd (refuses 0)
head_refused old new answer OutOfMemory refuses all = tt
head_refused old new answer (Xml (Break at why)) refuses all = absurd (refuses 0)
head_refused old new answer (XmlEof element) refuses all = absurd (refuses 0)
head_refused old new answer (NotAWorksheet name) refuses all = absurd (refuses 0)
head_refused old new answer error refuses all = λ told.
    refused_weaker 0 0 (λ (refusal : Refusal). dimensions_in (ahead old) ≡ Err refusal)
    (λ (refusal : Refusal). answer ≡ Err refusal) error (all told) refl (refuses 0)

-- the part ends before the data
pub head_ends : (old new : Reading) (other : Option (List ℕ)) (error : XlsxError)
    → LacksData other error
    → (old.source.is_visible ≡ true → (whole (events_of old) ≡ events_of old)
    × HasNoData (ahead old) × HasSoundDimensions (ahead old)
    × (other ≡ other_in (ahead old))) → HeadFails old new error
head_ends old new other (XmlEof element) lacks ended = λ told.
    let (nested, none, sound, is) = ended told in (
      nested,
      none,
      sound,
      subst (λ (own : Option (List ℕ)). LacksData own (XmlEof element)) is lacks,
    )
head_ends old new other (NotAWorksheet name) lacks ended = λ told.
    let (nested, none, sound, is) = ended told in (
      nested,
      none,
      sound,
      subst (λ (own : Option (List ℕ)). LacksData own (NotAWorksheet name)) is lacks,
    )
head_ends old new other _ lacks ended = absurd lacks

-- nothing is ahead of what was kept
pub no_data : {all left : List Event} {head : Head} → KeepsHead all head left → left ≡ []
    → HasNoData all
no_data keeps same = sym keeps.found ∙ ap (behind_start is_sheet_data) same

pub sound_kept : {all left : List Event} {head : Head} → KeepsHead all head left → left ≡ []
    → HasSoundDimensions all
sound_kept {head = head} keeps same = (
  head.dimensions,
  sym keeps.dimensions
      ∙ ap (λ (events : List Event). or_earlier head.dimensions (dimensions_in events)) same,
)

pub other_kept : {all left : List Event} {head : Head} → KeepsHead all head left → left ≡ []
    → other_name head ≡ other_in all
other_kept {head = head} keeps same =
    sym (option_or_None (other_name head))
    ∙ ap (λ (events : List Event). option_or (other_name head) (other_in events)) (sym same)
    ∙ keeps.other

-- ---- for the reader of a whole part

-- a part with a sheet's data, none of whose dimensions are refused, has no cause to be refused
pub no_head_cause : (events ahead after : List Event) (dimensions : Option Dimensions)
    (error : XlsxError) → behind_start is_sheet_data ahead ≡ Some after
    → dimensions_in ahead ≡ Ok dimensions → HeadCause events ahead error → ⊥
no_head_cause events ahead after dimensions (Xml (Break at why)) found sound cause =
    let none = cause.1 in
    absurd (cc)
no_head_cause events ahead after dimensions (XmlEof element) found sound cause =
    let none = cause.1 in
    absurd (cc)
no_head_cause events ahead after dimensions (NotAWorksheet name) found sound cause =
    let none = cause.1 in
    absurd (cc)
no_head_cause events ahead after dimensions error found sound cause =
    never_refused 0 (λ (refusal : Refusal). dimensions_in ahead ≡ Err refusal) error
    (λ refusal is. let other : Ok dimensions ≡ Err refusal = sym sound ∙ is in absurd (cc)) cause
