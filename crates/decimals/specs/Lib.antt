pub mod Canonical
pub mod Decimal
pub mod Decimals
pub mod Powers
pub mod Rounding
pub mod Significand
pub mod Words
