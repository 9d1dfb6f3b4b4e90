pub mod LawsMarks
pub mod LawsKeys
pub mod KeyCount
pub mod LawsOnly
pub mod LawsCover
pub mod Examples
