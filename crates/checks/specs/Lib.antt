-- Where a call on a checkpoint stops. Read Refusal, then Contract, what the functions promise. Examples has rows worked by hand.
pub mod Refusal
pub mod Contract
pub mod Examples
