pub mod ExitLaws
pub mod EntryLaws
pub mod LayoutLaws
pub mod WalkLaws
pub mod FilledLaws
pub mod FoundLaws
pub mod SeekLaws
pub mod RestLaws
