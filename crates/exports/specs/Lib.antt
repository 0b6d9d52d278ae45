pub mod Building
pub mod Reads
