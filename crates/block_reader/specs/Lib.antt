pub mod Said
pub mod Steps
