pub mod Sheets
pub mod Looks
pub mod Depths
pub mod Patterns
pub mod Laws
pub mod Promise
pub mod Locality
pub mod Theorems
