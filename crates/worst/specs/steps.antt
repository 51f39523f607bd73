pub mod Stance
pub mod Trains
pub mod Order
pub mod Steps
pub mod StepTable
pub mod Search
