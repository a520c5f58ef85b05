pub mod Operator
pub mod Below
pub mod Table
pub mod Laws
pub mod Tried
