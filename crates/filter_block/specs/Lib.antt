pub mod Read
pub mod Make
