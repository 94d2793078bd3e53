-- Which refusals of the layers below are refusals of a pivot table's cache.
use Rattle.std.proofs.Common.{codes, Some}
use Rattle.part_events.specs.declared.fault.XmlFault.TheVariants.{Break, Entity}
use Rattle.xlsx_error.specs.declared.error.XlsxError.{XlsxError}
use Rattle.xlsx_error.specs.declared.error.XlsxError.TheVariants.{OutOfMemory, Io, Xml, XmlEof}
use Rattle.xlsx_error.specs.declared.error.XlsxError.TheVariants.{XmlAttr, Unexpected}
use Rattle.xlsx_sections.specs.Words.{IsEndError, IsNameError, IsStepError, IsDecodeError}
use Rattle.xlsx_parts.specs.Words.{IsBreakError}
use Rattle.xlsx_pivot_cache.specs.CacheErrors.{IsItemError, IsFieldsError, IsFaultError}
use Rattle.xlsx_pivot_cache.specs.CacheErrors.{IsRecordValueError, IsRowError}

pub fields_step : (error : XlsxError) → IsStepError (codes "cacheField") error
    → IsFieldsError error
fields_step OutOfMemory is = tt
fields_step Io is = tt
fields_step (Xml (Break at why)) is = tt
fields_step (XmlEof element) is = is
fields_step _ is = absurd is

pub end_error : (error : XlsxError) → IsEndError (Some (codes "cacheField")) error
    → IsFieldsError error
end_error OutOfMemory is = tt
end_error Io is = tt
end_error (Xml (Break at why)) is = tt
end_error (XmlEof element) is = is
end_error _ is = absurd is

pub item_error : (error : XlsxError) → IsItemError error → IsFieldsError error
item_error OutOfMemory is = tt
item_error (XmlAttr fault) is = tt
item_error _ is = absurd is

pub name_error : (error : XlsxError) → IsNameError error → IsFieldsError error
name_error OutOfMemory is = tt
name_error (Xml (Entity at)) is = tt
name_error (XmlAttr fault) is = tt
name_error _ is = absurd is

pub decoding : (error : XlsxError) → IsDecodeError error → IsNameError error
decoding OutOfMemory is = tt
decoding (Xml (Entity at)) is = tt
decoding _ is = absurd is

pub break_error : (error : XlsxError) → IsBreakError error → IsFieldsError error
break_error OutOfMemory is = tt
break_error Io is = tt
break_error (Xml (Break at why)) is = tt
break_error _ is = absurd is

pub fault_error : (error : XlsxError) → IsFaultError error → IsRecordValueError error
fault_error (Unexpected text) is = is
fault_error _ is = absurd is

pub item_value : (error : XlsxError) → IsItemError error → IsRecordValueError error
item_value OutOfMemory is = tt
item_value (XmlAttr fault) is = tt
item_value _ is = absurd is

pub value_row : (error : XlsxError) → IsRecordValueError error → IsRowError error
value_row OutOfMemory is = tt
value_row (XmlAttr fault) is = tt
value_row (Unexpected text) is = is
value_row _ is = absurd is

pub row_step : (error : XlsxError) → IsStepError (codes "pivotCacheRecords") error
    → IsRowError error
row_step OutOfMemory is = tt
row_step Io is = tt
row_step (Xml (Break at why)) is = tt
row_step (XmlEof element) is = is
row_step _ is = absurd is

pub row_end : (error : XlsxError) → IsEndError (Some (codes "pivotCacheRecords")) error
    → IsRowError error
row_end OutOfMemory is = tt
row_end Io is = tt
row_end (Xml (Break at why)) is = tt
row_end (XmlEof element) is = is
row_end _ is = absurd is

pub ruleset contents_errors = (fields_step, item_error)

pub ruleset field_errors = (name_error, end_error)

pub ruleset row_errors = (value_row, row_step, row_end)
