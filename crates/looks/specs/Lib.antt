-- What the contracts of `looks` cite.
pub mod Looking
