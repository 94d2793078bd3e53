pub mod CommentParts
pub mod Comments
