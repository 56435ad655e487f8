pub mod Inbox
pub mod Codes
pub mod Code
