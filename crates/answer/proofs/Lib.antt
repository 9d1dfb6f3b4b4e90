pub mod EdgeTable
