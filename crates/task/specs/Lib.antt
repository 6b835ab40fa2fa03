-- What the contracts of `task` cite.
pub mod Frames
pub mod Values
pub mod Choices
pub mod Effect
pub mod Step
pub mod Rules
pub mod Formed
pub mod Stretches
pub mod Execute
