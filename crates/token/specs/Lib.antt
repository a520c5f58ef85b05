pub mod Kind
pub mod Look
