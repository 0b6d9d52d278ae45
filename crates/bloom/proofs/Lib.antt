pub mod HashLaws
pub mod FilterCode
pub mod ProbeLaws
