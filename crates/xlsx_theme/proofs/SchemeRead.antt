-- How the slots of a color scheme are read, and how the end of the part is told in one.
use Rattle.std.proofs.Common.{◌≡◌, ℕ, List, ◌∷◌, Option, Some, None, Result, Ok, Err, refl, sym, ap}
use Rattle.part_events.specs.Words.{Event, Reading, PlacedTag}
use Rattle.part_events.specs.declared.fault.XmlFault.TheVariants.{Break, Unclosed}
use Rattle.cell_styles.specs.declared.color.Color.{Color}
use Rattle.xlsx_error.specs.declared.error.XlsxError.{XlsxError}
use Rattle.xlsx_error.specs.declared.error.XlsxError.TheVariants.{OutOfMemory, Io, Xml, XmlAttr}
use Rattle.xlsx_sections.specs.Words.{IsEndError, named_end, PartSection, KeepsSection}
use Rattle.xlsx_sections.specs.Words.{SectionFails, Never, Refusal}
use Rattle.xlsx_sections.proofs.Refused.{refused_later}
use Rattle.xlsx_theme.specs.ColorScheme.{IsSchemeError, unless_given, or_others, first_answer}
use Rattle.xlsx_theme.specs.ColorScheme.{model_answer, or_black}

pub step_kind : (error : XlsxError) → IsEndError None error → IsSchemeError error
step_kind OutOfMemory is = tt
step_kind Io is = tt
step_kind (Xml (Break at why)) is = tt
step_kind (Xml (Unclosed at)) is = tt
step_kind _ is = absurd is

-- the step to the next start is refused, and so is what it is taken in
pub unnamed_refused : {base : ℕ} {first mid : Reading} → (before : PartSection → Refusal → Type 0)
    → (new : Reading) (error : XlsxError) → KeepsSection base first mid
    → SectionFails (named_end None) Never base mid new error
    → SectionFails (named_end None) before base first new error
unnamed_refused {base = base} {first = first} {mid = mid} before new error keeps fails =
    refused_later base first mid (named_end None) Never before new error keeps (λ told. refl)
    (λ _ refusal never. absurd never) fails

-- in a scheme the end of the part is told by the number of its events, wherever it comes
pub told_by_number : (base : ℕ) (ending : List Event → Option (List ℕ))
    (refused : PartSection → Refusal → Type 0) (old new : Reading) (error : XlsxError)
    → IsSchemeError error → SectionFails ending refused base old new error
    → SectionFails (named_end None) refused base old new error
told_by_number base ending refused old new OutOfMemory is fails = tt
told_by_number base ending refused old new Io is fails = fails
told_by_number base ending refused old new (Xml (Break at why)) is fails = fails
told_by_number base ending refused old new (Xml (Unclosed at)) is fails = λ told.
    ((fails told).0, refl, (fails told).2)
told_by_number base ending refused old new (XmlAttr fault) is fails = fails
told_by_number base ending refused old new _ is fails = absurd is

-- what starts say behind those that were looked up, of which none or the last gave a color
abbrev pub colors_behind : Option Color → List PlacedTag → Result Color Refusal
colors_behind kept starts = or_black (unless_given kept (first_answer model_answer starts))

-- one more start was looked up
pub color_further : {next : Option Color} (kept : Option Color) (x : PlacedTag)
    (rest : List PlacedTag) → unless_given kept (model_answer x) ≡ Ok next
    → colors_behind next rest ≡ colors_behind kept (x ∷ rest)
color_further None x rest is =
    sym (ap (λ (first : Result (Option Color) Refusal).
    or_black (or_others first (first_answer model_answer rest))) is)
color_further {next = next} (Some given) x rest is =
    let own : next ≡ Some given = cc in ap (λ (kept : Option Color). colors_behind kept rest) own

-- its lookup is refused
pub color_refused : (kept : Option Color) (x : PlacedTag) (rest : List PlacedTag)
    (refusal : Refusal) → unless_given kept (model_answer x) ≡ Err refusal
    → colors_behind kept (x ∷ rest) ≡ Err refusal
color_refused None x rest refusal is =
    ap (λ (first : Result (Option Color) Refusal).
    or_black (or_others first (first_answer model_answer rest))) is
color_refused (Some given) x rest refusal is = absurd (cc)
