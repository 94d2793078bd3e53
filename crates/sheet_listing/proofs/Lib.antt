pub mod SheetListingLemmas
