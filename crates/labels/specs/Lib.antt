pub mod Offences
pub mod Behind
pub mod Entries
pub mod Contract
