pub mod LowCoefficient
