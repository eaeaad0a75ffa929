-- The search by placing: what it is, and what its code promises.
pub mod Search
pub mod Going
pub mod Promise
