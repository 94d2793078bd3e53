-- Which refusals of the layers below are refusals of relationships.
use Rattle.std.proofs.Common.{codes}
use Rattle.part_events.specs.declared.fault.XmlFault.TheVariants.{Break, Entity}
use Rattle.xlsx_error.specs.declared.error.XlsxError.{XlsxError}
use Rattle.xlsx_error.specs.declared.error.XlsxError.TheVariants.{OutOfMemory, Io, Xml, XmlEof}
use Rattle.xlsx_sections.specs.Words.{IsStepError, IsDecodeError}
use Rattle.xlsx_relationships.specs.RelationshipErrors.{IsRelationshipsError, IsRelatedError}

pub relationships_step : (error : XlsxError) → IsStepError (codes "Relationships") error
    → IsRelationshipsError error
relationships_step OutOfMemory is = tt
relationships_step Io is = tt
relationships_step (Xml (Break at why)) is = tt
relationships_step (XmlEof element) is = is
relationships_step _ is = absurd is

pub decoding : (error : XlsxError) → IsDecodeError error → IsRelationshipsError error
decoding OutOfMemory is = tt
decoding (Xml (Entity at)) is = tt
decoding _ is = absurd is

pub related_step : (error : XlsxError) → IsStepError (codes "Relationships") error
    → IsRelatedError error
related_step OutOfMemory is = tt
related_step Io is = tt
related_step (Xml (Break at why)) is = tt
related_step (XmlEof element) is = is
related_step _ is = absurd is

pub related_decoding : (error : XlsxError) → IsDecodeError error → IsRelatedError error
related_decoding OutOfMemory is = tt
related_decoding (Xml (Entity at)) is = tt
related_decoding _ is = absurd is
