pub mod RefusalLaws
pub mod FooterLaws
pub mod BloomLaws
