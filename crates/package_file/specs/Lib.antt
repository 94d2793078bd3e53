pub mod PackageFile
