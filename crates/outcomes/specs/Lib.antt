-- The definition, and the statement.
pub mod Outcomes
