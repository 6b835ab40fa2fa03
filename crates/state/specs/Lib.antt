-- What the contracts of `state` cite.
pub mod Numbers
pub mod Places
pub mod State
pub mod Reading
pub mod Fields
pub mod RoundTrip
