-- The proof.
pub mod Reports
