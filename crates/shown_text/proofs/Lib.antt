pub mod DigitSteps
pub mod FractionSteps
pub mod SizeSteps
pub mod TextLaws
pub mod WholeNumbers
pub mod Zeros
