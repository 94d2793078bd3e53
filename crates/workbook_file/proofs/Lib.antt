pub mod KeptParts
pub mod NamedParts
pub mod Opening
