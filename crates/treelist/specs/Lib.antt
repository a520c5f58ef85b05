-- What the contracts of treelist cite.
pub mod Text
pub mod Lines
pub mod Sheets
pub mod Input
pub mod Listing
pub mod Printing
