-- What the walks promise comes to; and that the code's answers meet it.
pub mod PromiseLaws
pub mod Meets
pub mod Answers
pub mod Demands
pub mod Lending
