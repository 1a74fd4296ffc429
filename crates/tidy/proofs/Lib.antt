-- Why tidying meets its promise, and that the promise leaves no choice.
pub mod Laws
pub mod NoChoice
pub mod Rooms
