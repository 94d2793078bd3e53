pub mod CacheErrors
pub mod CacheRead
pub mod FieldsRead
pub mod ItemsRead
pub mod RowsLeft
pub mod RowsRead
pub mod SoundCache
pub mod WholeNumbers
