-- What is valid passes the tables.
pub mod Asked
pub mod Demands
pub mod Kids
pub mod Met
pub mod Lists
pub mod Narrow
pub mod Operators
pub mod Assignments
pub mod Blocks
pub mod Legal
