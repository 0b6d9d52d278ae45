pub mod Block
pub mod Count
pub mod Formed
pub mod Search
