pub mod tables
pub mod force
pub mod Surcharge
pub mod SurchargeRow
