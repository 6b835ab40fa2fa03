pub mod AllLaws
pub mod Largest
pub mod GradeLaws
pub mod ReachLaws
pub mod SlotWise
pub mod TiledLaws
pub mod CodeLaws
