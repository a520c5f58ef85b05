-- That what the tables decide is validity: what is valid passes them, and what passes them is valid.
pub mod Meets
pub mod Builds
