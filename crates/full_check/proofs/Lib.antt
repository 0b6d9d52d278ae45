pub mod BlockLaws
pub mod KeyLaws
pub mod DataLaws
pub mod CheckLaws
