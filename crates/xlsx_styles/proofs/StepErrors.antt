-- Which refusals are those of an element, by that of a step in it.
use Rattle.std.proofs.Common.{codes, inl, inr}
use Rattle.part_events.specs.declared.fault.XmlFault.TheVariants.{Break}
use Rattle.xlsx_error.specs.declared.error.XlsxError.{XlsxError}
use Rattle.xlsx_error.specs.declared.error.XlsxError.TheVariants.{OutOfMemory, Io, Xml, XmlAttr}
use Rattle.xlsx_error.specs.declared.error.XlsxError.TheVariants.{XmlEof}
use Rattle.xlsx_sections.specs.Words.{IsStepError}
use Rattle.xlsx_styles.specs.Errors.{IsPlainError, IsBorderError}

pub border_step : (error : XlsxError) → IsStepError (codes "border") error → IsBorderError error
border_step OutOfMemory is = tt
border_step Io is = tt
border_step (Xml (Break at why)) is = tt
border_step (XmlEof element) is = inl is
border_step _ is = absurd is

pub side_step : (error : XlsxError) → IsPlainError (codes "border side") error
    → IsBorderError error
side_step OutOfMemory is = tt
side_step Io is = tt
side_step (Xml (Break at why)) is = tt
side_step (XmlAttr fault) is = tt
side_step (XmlEof element) is = inr is
side_step _ is = absurd is
