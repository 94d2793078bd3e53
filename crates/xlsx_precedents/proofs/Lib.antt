pub mod OwnAreas
pub mod InOrder
pub mod Halving
pub mod Searching
pub mod Finding
pub mod Gathering
pub mod Standing
