pub mod FileParts
pub mod OpenEvents
pub mod Contents
