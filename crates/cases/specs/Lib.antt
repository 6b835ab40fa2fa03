-- The starred cases: how images are written, what a case says, the programs, then the table and the statement.
pub mod Assembly
pub mod Cases
pub mod ProgramF
pub mod Figure2
pub mod Calls
pub mod Table
pub mod Lanes
