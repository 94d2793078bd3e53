pub mod Lists
pub mod ReadLists
pub mod StyleSheet
pub mod StylesErrors
