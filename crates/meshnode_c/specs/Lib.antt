pub mod Lower
pub mod Network
pub mod Numbers
pub mod Upper
