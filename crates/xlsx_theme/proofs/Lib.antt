pub mod SchemeRead
pub mod ThemeRead
pub mod ThemeTaken
