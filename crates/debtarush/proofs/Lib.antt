-- Laws of the calls. Other crates' proofs cite them.
pub mod Fitting
pub mod Texts
pub mod Locating
pub mod Delivering
pub mod Joining
pub mod InOrder
pub mod Answers
pub mod BookTexts
pub mod Telling
pub mod Members
