-- What the contracts of `evaluator` cite.
pub mod Banks
pub mod Sides
pub mod Hands
