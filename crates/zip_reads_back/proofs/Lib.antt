pub mod ArchiveRead
pub mod Checksums
pub mod Directories
pub mod EntriesRead
pub mod Fitting
pub mod PartsRead
pub mod Pieces
