pub mod BuilderCode
pub mod BuilderLaws
