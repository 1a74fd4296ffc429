-- What only laws and inner contracts cite.
pub mod Extended
