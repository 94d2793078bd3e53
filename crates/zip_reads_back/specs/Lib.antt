pub mod ReadArchive
