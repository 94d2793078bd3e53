pub mod Chains
pub mod Components
pub mod Cycles
pub mod Edges
pub mod KeptLinks
pub mod Links
pub mod OrderLaws
pub mod Turns
