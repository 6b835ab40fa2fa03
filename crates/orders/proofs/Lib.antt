-- The theorems: each file ends with the one that it is named after.
pub mod Programs
pub mod Plays
pub mod Demand
pub mod Complete
pub mod Shapes
pub mod Courses
pub mod Lists
pub mod Runs
pub mod Budgets
pub mod SameEnd
pub mod Replaying
