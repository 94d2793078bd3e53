pub mod PackageText
pub mod WrittenPackage
