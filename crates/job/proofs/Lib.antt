pub mod Ends
pub mod Asking
pub mod Replaying
pub mod Running
pub mod PlainReport
pub mod PlainRun
