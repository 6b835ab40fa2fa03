-- The theorems: `Jobs` proves the statements.
pub mod Machine
pub mod Jobs
pub mod Course
pub mod Dispatcher
