pub mod Demand
pub mod Numbers
pub mod OneAnswer
