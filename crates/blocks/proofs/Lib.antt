pub mod ReadLaws
pub mod BuildLaws
pub mod CountLaws
pub mod FormedLaws
