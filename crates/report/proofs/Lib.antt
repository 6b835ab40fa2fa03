pub mod ReportLaws
pub mod Writing
pub mod Decimals
pub mod Lines
pub mod ReadBack
pub mod Samples
