pub mod Answers
pub mod Numbers
pub mod Calls
pub mod Promises
