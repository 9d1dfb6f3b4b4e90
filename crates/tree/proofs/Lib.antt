-- Laws that belong to no one function.
pub mod Examples
pub mod Back
pub mod BackExprs
pub mod BackStmts
pub mod BackTexts
pub mod RoundTrip
pub mod Steps
