-- Laws for other crates: Wrapping, Equality, Little, Stores, Sign.
pub mod Wrapping
pub mod Equality
pub mod Stores
pub mod Little
pub mod Sign
