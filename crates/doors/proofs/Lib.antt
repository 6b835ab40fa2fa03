-- The shape test in one walk, the test of a row, and the theorem.
pub mod Walk
pub mod Test
pub mod Doors
