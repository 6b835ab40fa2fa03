-- Definitions: what a reader of the bound must believe.
pub mod Rounds
pub mod Spans
pub mod OnLanes
