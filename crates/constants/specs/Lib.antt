pub mod Views
pub mod Laws
