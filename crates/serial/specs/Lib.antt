-- Definitions, and the statement.
pub mod Serial
