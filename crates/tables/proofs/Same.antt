-- What the code writes by its tables is the canonical text, and its depth test is grammar's need, of a valid statement.
pub mod Depth
pub mod Agree
pub mod Lists
pub mod Marks
pub mod Nodes
pub mod Exprs
pub mod Trees
