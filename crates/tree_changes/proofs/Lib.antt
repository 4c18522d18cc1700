pub mod Gone
pub mod Outside
