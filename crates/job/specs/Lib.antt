-- What the contracts of `job` cite.
pub mod Job
pub mod Replay
pub mod Run
pub mod Dispatch
pub mod Evaluated
