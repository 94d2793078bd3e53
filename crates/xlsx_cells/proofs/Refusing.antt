-- How the refusals of marks pass on to their section.
use Rattle.std.proofs.Common.{◌≡◌, ℕ, List, [], ◌∷◌, ◌++◌, Bool, true, false, Option, Err, refl}
use Rattle.std.specs.Prelude.{if◌then◌else◌}
use Rattle.part_events.specs.Words.{Tag, Event, start, end, leaf, Reading, Element}
use Rattle.part_events.specs.declared.fault.XmlFault.TheVariants.{Break, Unclosed}
use Rattle.xlsx_error.specs.declared.error.XlsxError.{XlsxError}
use Rattle.xlsx_error.specs.declared.error.XlsxError.TheVariants.{OutOfMemory, Io, Xml, XmlEof}
use Rattle.xlsx_error.specs.declared.error.XlsxError.TheVariants.{Failed}
use Rattle.xlsx_sections.specs.Words.{PartSection, SectionFails, section_left, last_of, Refusal}
use Rattle.xlsx_sections.proofs.Refused.{refused_weaker}
use Rattle.xlsx_cells.specs.Counting.{IsRefused, IsStartRefused, IsRowRefused}
use Rattle.xlsx_cells.specs.Ends.{end_in_data}
use Rattle.xlsx_cells.specs.Finding.{IsMarkRefused, IsStepRefused, IsCutOff}
use Rattle.xlsx_cells.specs.Marks.{Mark, row_start, is_row, marks_of}
use Rattle.xlsx_cells.specs.Position.{row_named, NoCell}
use Rattle.xlsx_cells.specs.Stream.{Stream, IsGoing, PassingFails}
use Rattle.xlsx_cells.specs.declared.children.Wants.{Wants}

pub is_refused_weaker : (after before : Refusal → Type 0) (error : XlsxError)
    → ((refusal : Refusal) → after refusal → before refusal) → IsRefused after error
    → IsRefused before error
is_refused_weaker after before error weaker refuses =
    λ last. refused_weaker last last before after error weaker refl (refuses last)

-- a start of a section is refused, where memory may be wanting too, and so is the section
pub start_refused : (base : ℕ) (first : Reading) (ending : List Event → Option (List ℕ))
    (own : Refusal → Type 0) (refused : PartSection → Refusal → Type 0) (new : Reading)
    (error : XlsxError)
    → (first.source.is_visible ≡ true → (refusal : Refusal) → own refusal
    → refused (section_left base first) refusal) → IsStartRefused own error
    → SectionFails ending refused base first new error
start_refused base first ending own refused new Io weaker is = absurd (is 0)
start_refused base first ending own refused new OutOfMemory weaker is = tt
start_refused base first ending own refused new (Xml (Break at why)) weaker is = absurd (is 0)
start_refused base first ending own refused new (Xml (Unclosed at)) weaker is = absurd (is 0)
start_refused base first ending own refused new (XmlEof element) weaker is = absurd (is 0)
start_refused base first ending own refused new error weaker is = λ told.
    let last = last_of (section_left base first) in
    refused_weaker last last (refused (section_left base first)) own error (weaker told) refl
    (is last)

pub or_memory : (own : Refusal → Type 0) (error : XlsxError) → IsRefused own error
    → IsStartRefused own error
or_memory own OutOfMemory is = tt
or_memory own error is = is

row_refused_if : (refused : List Mark → Element → Refusal → Type 0) (b : Bool) (tag : Tag)
    (before others : List Mark) (refusal : Refusal) → b ≡ true → row_named tag ≡ Err refusal
    → IsMarkRefused NoCell refused before ((if b then row_start tag ∷ [] else []) ++ others)
    refusal
row_refused_if refused true tag before others refusal is named = rw named refl
row_refused_if refused false tag before others refusal is named = absurd (cc)

-- the next mark is the start of a row, which is refused
pub row_refused : (refused : List Mark → Element → Refusal → Type 0) (event : Event)
    (before others : List Mark) (refusal : Refusal) → IsRowRefused event refusal
    → IsMarkRefused NoCell refused before (marks_of event ++ others) refusal
row_refused refused (start tag) before others refusal is =
    row_refused_if refused (is_row tag) tag before others refusal is.0 is.1
row_refused refused (end name) before others refusal is = absurd is
row_refused refused (leaf kind) before others refusal is = absurd is

-- a step that goes on is refused by what it takes
pub step_fails : (passes : List Mark → Element → Type 0)
    (refused : List Mark → Element → Refusal → Type 0) (wants : Wants) (old : Stream)
    (new : Reading) (error : XlsxError) → (error ≡ Failed → ⊥) → IsGoing old
    → SectionFails (end_in_data wants) (IsStepRefused passes refused old.counters) old.base
    old.reading new error
    → IsCutOff passes old.counters old.base old.reading error
    → PassingFails passes refused wants old new error
step_fails passes refused wants old new Failed never going cause cut = absurd (never refl)
step_fails passes refused wants old new error never going cause cut = (going, cause, cut)
