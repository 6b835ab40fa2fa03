-- Definitions: what a reader of demand 3 must believe.
pub mod Plain
pub mod Slots
pub mod Picks
pub mod Demand
pub mod Places
pub mod Shape
