-- The statements. Their proofs stand in proofs/.
pub mod Demand
pub mod Complete
pub mod Shapes
pub mod Runs
pub mod Replay
