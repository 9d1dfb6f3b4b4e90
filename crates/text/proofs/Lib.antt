pub mod Order
pub mod Tests
pub mod Clamp
pub mod Same
pub mod Sets
pub mod Table
pub mod Unlike
