pub mod Thrust
