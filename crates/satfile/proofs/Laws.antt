-- Laws of the reader, by subject. The code: bytes, stored nodes, what the functions tell, formulas and groups, the call. The grammar:
-- readers in general, numbers, groups, operands and formulas, every depth, what stands behind a header. And the records of a table.
pub mod Rests
pub mod Records
pub mod Stores
pub mod Tells
pub mod Begins
pub mod Turns
pub mod Calls
pub mod Outcomes
pub mod Numerals
pub mod Groups
pub mod Members
pub mod Grammars
pub mod Operands
pub mod Formulas
pub mod Depths
pub mod Bodies
