-- What the contracts of `int64` cite.
pub mod Wrapped
pub mod Equal
pub mod Little
