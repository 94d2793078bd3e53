pub mod JoinedCodes
pub mod NearFractions
pub mod NumberCodes
pub mod ReadNumbers
pub mod ReadTimes
pub mod TwoSections
