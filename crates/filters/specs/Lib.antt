pub mod Filter
pub mod FilterBlock
pub mod FilterCount
