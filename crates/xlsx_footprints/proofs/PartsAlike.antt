-- What a part says that two packages have in the same way, and why it can't be taken.
use Rattle.std.proofs.Common.{ℕ, List, Option, sym, ◌∙◌, subst, inl, inr}
use Rattle.part_events.specs.Words.{Event, Part, part_of}
use Rattle.xlsx_error.specs.declared.error.XlsxError.{XlsxError}
use Rattle.xlsx_error.specs.declared.error.XlsxError.TheVariants.{FileNotFound}
use Rattle.xlsx_sections.specs.Words.{Ending, Refusing, LacksPart, PartCause, OptionalPartCause}
use Rattle.xlsx_parts.specs.Words.{IfThere}
use Rattle.xlsx_core.specs.Words.{HaveSamePart}

pub lacks_over : (one two : List Part) (path : List ℕ) (error : XlsxError)
    → HaveSamePart one two path → LacksPart one path error → LacksPart two path error
lacks_over one two path (FileNotFound wanted) same lacks = (lacks.0, sym same ∙ lacks.1)
lacks_over one two path error same lacks = absurd lacks

pub there_over : (cause : List Event → XlsxError → Type 0) (one two : List Part) (path : List ℕ)
    (error : XlsxError) → HaveSamePart one two path → IfThere cause (part_of one path) error
    → IfThere cause (part_of two path) error
there_over cause one two path error same is =
    subst (λ (events : Option (List Event)). IfThere cause events error) same is

pub part_cause_over : (name : List ℕ) (ending : Ending) (refused : Refusing) (one two : List Part)
    (path : List ℕ) (error : XlsxError) → HaveSamePart one two path
    → PartCause name ending refused one path error → PartCause name ending refused two path error
part_cause_over name ending refused one two path error same (inl lacks) =
    inl (lacks_over one two path error same lacks)
part_cause_over name ending refused one two path error same (inr cause) =
    inr (subst (λ (events : Option (List Event)).
    OptionalPartCause name ending refused events error) same cause)
