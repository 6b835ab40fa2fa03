-- What the contracts of `machine` cite.
pub mod Starting
pub mod Picking
pub mod Outcome
pub mod Running
pub mod Dispatched
pub mod Dispatching
