pub mod CountsOf
pub mod AfterTests
pub mod SameCounts
pub mod Laws
pub mod GroupChannels
