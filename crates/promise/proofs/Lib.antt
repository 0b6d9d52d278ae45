pub mod BuiltLaws
pub mod NumberLaws
pub mod OneAnswerLaws
pub mod ReadLaws
