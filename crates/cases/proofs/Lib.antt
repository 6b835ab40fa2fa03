-- The test of a case, that it is enough, and the theorem.
pub mod Test
pub mod Enough
pub mod Starred
pub mod Lanes
