-- What the contracts of `arms` cite.
pub mod Registers
pub mod Stacks
pub mod Code
pub mod Arms
pub mod Turns
