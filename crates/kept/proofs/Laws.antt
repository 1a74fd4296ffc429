-- Laws of pens, of lines and literals, and of what is put of a clause by its fate.
pub mod Lines
pub mod Pens
pub mod Literals
pub mod Fates
