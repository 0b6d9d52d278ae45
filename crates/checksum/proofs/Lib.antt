pub mod CrcLaws
pub mod TrailerLaws
