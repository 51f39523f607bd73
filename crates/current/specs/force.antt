pub mod Force
