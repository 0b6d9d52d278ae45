pub mod FilterBlockCode
pub mod MakeLaws
