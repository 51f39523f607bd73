-- The laws of what a load row exerts.
pub mod Amounts
pub mod Turning
pub mod Exerting
pub mod Sizes
