pub mod River
pub mod steps
