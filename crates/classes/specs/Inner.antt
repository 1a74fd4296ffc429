-- What only the contracts of inner functions cite. What a text means is said by its grammar, so nothing here is to be believed.
pub mod Classes
