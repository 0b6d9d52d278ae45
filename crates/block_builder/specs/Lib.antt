pub mod Builder
pub mod Plan
