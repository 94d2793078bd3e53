pub mod ColorScheme
pub mod ThemePart
