-- Which refusals of the layers below are refusals of pivot tables.
use Rattle.std.proofs.Common.{◌≡◌, ℕ, List, Option, Some, None, Result, Err, codes, inl, inr, ap}
use Rattle.std.proofs.Common.{subst, sym, true}
use Rattle.part_events.specs.Words.{Event, Part, PackageState, part_of}
use Rattle.part_events.specs.declared.fault.XmlFault.TheVariants.{Break, Entity}
use Rattle.xlsx_error.specs.declared.error.XlsxError.{XlsxError}
use Rattle.xlsx_error.specs.declared.error.XlsxError.TheVariants.{OutOfMemory, Io, Xml, XmlEof}
use Rattle.xlsx_error.specs.declared.error.XlsxError.TheVariants.{XmlAttr, Unexpected}
use Rattle.xlsx_sections.specs.Words.{FailsBy, IsNameError, IsStepError, Refusal, ElementFails}
use Rattle.xlsx_sections.specs.Words.{IsInsideRefused, OptionalPartCause, OptionalPartFails, always}
use Rattle.xlsx_sections.proofs.Failing.{fails_by_weaker, same_parts}
use Rattle.xlsx_sections.proofs.Refused.{refused_at_weaker}
use Rattle.xlsx_parts.specs.Words.{IsBreakError, section_said}
use Rattle.looks.specs.Words.{EventsAsk, LookCause, needing, of_part}
use Rattle.xlsx_relationships.specs.Words.{IsRelatedError, relationships_beside}
use Rattle.xlsx_pivots.specs.PivotErrors.{IsSingleError, IsPivotsError}
use Rattle.xlsx_pivots.specs.Singles.{single_kept_by, TellsLack}
use Rattle.xlsx_pivots.specs.Targets.{counted_target, single_target_in, target_ask, target_look}
use Rattle.xlsx_pivots.specs.declared.single.Single.{Single}

pub related_error : (error : XlsxError) → IsRelatedError error → IsPivotsError error
related_error OutOfMemory is = tt
related_error Io is = tt
related_error (Xml (Break at why)) is = tt
related_error (Xml (Entity at)) is = tt
related_error (XmlAttr fault) is = tt
related_error (XmlEof element) is = inl is
related_error _ is = absurd is

pub relationships_step : (error : XlsxError) → IsStepError (codes "Relationships") error
    → IsPivotsError error
relationships_step OutOfMemory is = tt
relationships_step Io is = tt
relationships_step (Xml (Break at why)) is = tt
relationships_step (XmlEof element) is = inl is
relationships_step _ is = absurd is

pub name_error : (error : XlsxError) → IsNameError error → IsPivotsError error
name_error OutOfMemory is = tt
name_error (Xml (Entity at)) is = tt
name_error (XmlAttr fault) is = tt
name_error _ is = absurd is

pub break_error : (error : XlsxError) → IsBreakError error → IsPivotsError error
break_error OutOfMemory is = tt
break_error Io is = tt
break_error (Xml (Break at why)) is = tt
break_error _ is = absurd is

pub single_error : (error : XlsxError) → IsSingleError error → IsPivotsError error
single_error (Unexpected text) is = is
single_error _ is = absurd is

-- such a refusal stands for what it tells of
pub single_fails : (cause : XlsxError → Type 0) (old new : PackageState) (error : XlsxError)
    → IsSingleError error → (old.is_visible ≡ true → cause error) → FailsBy cause old new error
single_fails cause old new (Unexpected text) is holds = holds
single_fails cause old new _ is holds = absurd is

-- what gives one more is refused, and so is what is kept of it
pub kept_fails : (single : Single) (at behind : ℕ) (kept : Option (List ℕ))
    (answer : Result (Option (List ℕ)) Refusal) (error : XlsxError)
    → ElementFails answer at behind error
    → ElementFails (single_kept_by single kept answer) at behind error
kept_fails single at behind kept answer error fails =
    refused_at_weaker at behind
    (λ (refusal : Refusal). single_kept_by single kept answer ≡ Err refusal)
    (λ (refusal : Refusal). answer ≡ Err refusal) error
    (λ refusal is. ap (single_kept_by single kept) is) fails

pub target_fails : (single : Single) (at behind : ℕ) (kept : Option (List ℕ))
    (target : Result (Option (List ℕ)) Refusal) (error : XlsxError)
    → ElementFails target at behind error
    → ElementFails (single_kept_by single kept (counted_target kept target)) at behind error
target_fails single at behind kept target error fails =
    kept_fails single at behind kept (counted_target kept target) error
    (refused_at_weaker at behind (λ (refusal : Refusal). counted_target kept target ≡ Err refusal)
    (λ (refusal : Refusal). target ≡ Err refusal) error
    (λ refusal is. ap (counted_target kept) is) fails)

-- what has to say something is refused before it says anything
pub needing_refused : {A : Type 0} (lack : XlsxError → Type 0) (ask : EventsAsk (Option A))
    (events : List Event) (old new : PackageState) (error : XlsxError)
    → FailsBy (ask.cause events) old new error
    → FailsBy ((needing lack ask).cause events) old new error
needing_refused lack ask events old new error fails =
    fails_by_weaker ((needing lack ask).cause events) (ask.cause events) new error (same_parts old)
    (λ told is. inl is) fails

-- relationships without a section, or whose section is refused, have no single target
target_cause : (wanted path : List ℕ) (single : Single) (part : Option (List Event))
    (error : XlsxError) → OptionalPartCause (codes "Relationships") (always (codes "Relationships"))
    (IsInsideRefused (single_target_in wanted single)) part error
    → (of_part path (target_ask wanted single)).cause part error
target_cause wanted path single None error cause = absurd cause
target_cause wanted path single (Some events) error cause = inr (inl cause)

pub target_refused : (wanted path : List ℕ) (single : Single) (old new : PackageState)
    (error : XlsxError) → OptionalPartFails (codes "Relationships") (always (codes "Relationships"))
    (IsInsideRefused (single_target_in wanted single)) (relationships_beside path) old new error
    → FailsBy (LookCause (target_look wanted single path) old.parts) old new error
target_refused wanted path single old new error fails =
    let beside = relationships_beside path in
    fails_by_weaker (LookCause (target_look wanted single path) old.parts)
    (OptionalPartCause (codes "Relationships") (always (codes "Relationships"))
    (IsInsideRefused (single_target_in wanted single)) (part_of old.parts beside)) new error
    (same_parts old)
    (λ told cause. target_cause wanted beside single (part_of old.parts beside) error cause) fails

-- nor have those whose section names none
pub target_lacks : (wanted path : List ℕ) (single : Single) (parts : List Part)
    (events : List Event) (error : XlsxError) → part_of parts (relationships_beside path) ≡ Some events
    → section_said (codes "Relationships") (single_target_in wanted single) events ≡ Some None
    → TellsLack single error → LookCause (target_look wanted single path) parts error
target_lacks wanted path single parts events error there said told =
    subst (λ (part : Option (List Event)).
    (of_part (relationships_beside path) (target_ask wanted single)).cause part error) (sym there)
    (inr (inr (said, told)))
