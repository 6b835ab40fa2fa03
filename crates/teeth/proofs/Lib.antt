-- Of any machine that meets demand 3; F's facts; our machine; and the refutations.
pub mod Reaching
pub mod Known
pub mod Ours
pub mod Picks
pub mod Doors
pub mod Runs
pub mod WholeJob
pub mod Teeth
