pub mod Blocks
pub mod Filters
pub mod Numbers
pub mod Pieces
