-- The laws, in their order: registers and values, arms, stacks, the loop of a task by itself.
pub mod RegisterLaws
pub mod ValueLaws
pub mod SetLaws
pub mod LeadLaws
pub mod CodeLaws
pub mod TurnLaws
pub mod StackLaws
pub mod RunLaws
