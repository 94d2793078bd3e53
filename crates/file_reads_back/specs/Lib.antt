pub mod FilePackages
