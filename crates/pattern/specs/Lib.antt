pub mod Word
pub mod Contract
