pub mod Finding
pub mod Showing
pub mod Asking
pub mod Records
pub mod Zeros
