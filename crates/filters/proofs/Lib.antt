pub mod FilterLaws
pub mod FilterBlockLaws
pub mod GroupLaws
pub mod FilterCountLaws
