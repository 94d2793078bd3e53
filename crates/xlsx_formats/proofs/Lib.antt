pub mod CodesKept
pub mod CodesRead
pub mod CodesWritten
pub mod FormattingsRead
