-- What the contracts of limits cite.
pub mod Laid
pub mod Nests
