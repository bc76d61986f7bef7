pub mod Puts
pub mod Printed
pub mod RoundTrip
pub mod Bytes
pub mod Lengths
