pub mod Canonical
pub mod CanonicalText
pub mod Put
pub mod RoundTrip
