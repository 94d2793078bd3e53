-- Which refusals reading a pivot table's cache can have.
use Rattle.std.specs.Prelude.{◌≡◌, ⊤, codes, IsSomeAnd}
use Rattle.part_events.specs.declared.fault.XmlFault.TheVariants.{Break, Entity}
use Rattle.xlsx_error.specs.declared.error.XlsxError.{XlsxError}
use Rattle.xlsx_error.specs.declared.error.XlsxError.TheVariants.{OutOfMemory, Io, Xml, XmlAttr}
use Rattle.xlsx_error.specs.declared.error.XlsxError.TheVariants.{XmlEof, FileNotFound, Unexpected}
use Rattle.xlsx_sections.specs.Words.{told_by, unexpected}
use Rattle.xlsx_pivot_cache.specs.CacheRecords.{IsRecordRefusal}

-- the refusals that an item of a field can have
abbrev pub IsItemError : XlsxError → Type 0
IsItemError OutOfMemory = ⊤
IsItemError (XmlAttr fault) = ⊤
IsItemError _ = ⊥

-- the refusals that the fields of a cache can have in a part that is there, whatever the package
-- tells
abbrev pub IsFieldsError : XlsxError → Type 0
IsFieldsError OutOfMemory = ⊤
IsFieldsError Io = ⊤
IsFieldsError (Xml (Break at why)) = ⊤
IsFieldsError (Xml (Entity at)) = ⊤
IsFieldsError (XmlAttr fault) = ⊤
IsFieldsError (XmlEof element) = element.now ≡ codes "cacheField"
IsFieldsError _ = ⊥

-- the refusals that the fields of a cache can have in a part that may be absent
abbrev pub IsCacheFieldsError : XlsxError → Type 0
IsCacheFieldsError (FileNotFound path) = ⊤
IsCacheFieldsError error = IsFieldsError error

-- the refusals of a record that refers to no item
abbrev pub IsFaultError : XlsxError → Type 0
IsFaultError (Unexpected text) = IsSomeAnd (told_by text.now unexpected) IsRecordRefusal
IsFaultError _ = ⊥

-- the refusals that a value of a record can have
abbrev pub IsRecordValueError : XlsxError → Type 0
IsRecordValueError OutOfMemory = ⊤
IsRecordValueError (XmlAttr fault) = ⊤
IsRecordValueError error = IsFaultError error

-- the refusals that a record can have, whatever the package tells
abbrev pub IsRowError : XlsxError → Type 0
IsRowError Io = ⊤
IsRowError (Xml (Break at why)) = ⊤
IsRowError (XmlEof element) = element.now ≡ codes "pivotCacheRecords"
IsRowError error = IsRecordValueError error
