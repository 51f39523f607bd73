-- The laws of the search for the least cube.
pub mod Cubes
