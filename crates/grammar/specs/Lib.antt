pub mod Reading
pub mod Canonical
pub mod Flat
pub mod Given
pub mod Contract
pub mod Levels
