-- The proof, in its order.
pub mod Known
pub mod Forks
pub mod Settling
pub mod Carrying
pub mod Taking
pub mod Turns
pub mod Playing
pub mod Budgets
pub mod OneOrder
pub mod Bound
pub mod OnLanesLaws
