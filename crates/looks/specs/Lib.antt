pub mod Lacking
pub mod Leaves
pub mod Look
pub mod Words
