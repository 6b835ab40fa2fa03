-- The laws of the looks: each goes on, and from slot 0 they take the first running tasks.
pub mod LookLaws
pub mod TakenLaws
