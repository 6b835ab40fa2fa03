-- The laws, in their order: live tasks; then by rows: banks, records, stacks, the task in hand, the record that a fork is opened under,
-- the loop over frames, its rounds, an ending instruction.
pub mod GoodLaws
pub mod BankLaws
pub mod ForkLaws
pub mod StackLaws
pub mod HandLaws
pub mod OpeningLaws
pub mod FrameLaws
pub mod ActLaws
pub mod CloseLaws
pub mod RoundLaws
pub mod EndingLaws
