-- What the contracts of `steps` cite.
pub mod Buffers
pub mod Calls
pub mod Fields
pub mod Orders
