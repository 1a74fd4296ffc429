-- Laws of the program, by what is handed on.
pub mod Shows
pub mod Clauses
pub mod Conversions
pub mod Tables
pub mod Files
