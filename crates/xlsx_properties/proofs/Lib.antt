pub mod CustomKept
pub mod Errors
pub mod EventsSaid
pub mod PropertiesTaken
pub mod TextsKept
