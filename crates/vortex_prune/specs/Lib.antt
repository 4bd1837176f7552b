pub mod Binding
pub mod Choosing
pub mod Laws
pub mod Part
pub mod Scanning
pub mod Zones
