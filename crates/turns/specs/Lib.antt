-- What the contracts of `turns` cite.
pub mod Rows
pub mod Stretches
pub mod Walk
pub mod Kinds
pub mod Moving
