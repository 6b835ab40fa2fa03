-- What document 01 demands, over any reader, start, pick and run; its wrong machines; and what is proved of them.
pub mod Demands
pub mod Machines
pub mod Teeth
