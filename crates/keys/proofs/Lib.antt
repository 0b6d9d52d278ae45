pub mod OrderLaws
pub mod KeyLaws
pub mod SeparatorLaws
pub mod StartLaws
pub mod CompareLaws
pub mod AnswerLaws
pub mod PlanLaws
