pub mod Check
pub mod Sound
pub mod Promise
pub mod Place
