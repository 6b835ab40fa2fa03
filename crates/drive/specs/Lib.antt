-- What the contracts of `drive` cite.
pub mod Slots
pub mod Ending
pub mod Moves
pub mod Writes
pub mod Settings
pub mod Shape
pub mod Issue
pub mod Courses
pub mod Passes
pub mod Listing
pub mod Rounds
pub mod Driven
pub mod Driving
