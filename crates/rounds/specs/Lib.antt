-- The statements.
pub mod Jobs
pub mod Course
pub mod Dispatcher
