pub mod EntryLaws
pub mod MetaLaws
pub mod WriteLaws
pub mod PartLaws
pub mod EndLaws
