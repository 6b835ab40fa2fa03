pub mod PickLaws
pub mod StartLaws
pub mod Filling
pub mod CodedSlots
pub mod MeetsShape
pub mod Picked
pub mod DispatchLaws
