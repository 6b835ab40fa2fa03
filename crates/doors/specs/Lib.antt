-- The table of doors: the calls and what a row says, then the tables door by door, then all of them and the statement.
pub mod Doors
pub mod Fields
pub mod Images
pub mod Programs
pub mod Starts
pub mod States
pub mod Picks
pub mod Jobs
pub mod Bytes
pub mod Faults
pub mod Texts
pub mod Lanes
pub mod Table
