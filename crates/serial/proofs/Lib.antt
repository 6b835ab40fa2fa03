-- The proof, in its order.
pub mod Equations
pub mod Plugging
pub mod SerialLaws
