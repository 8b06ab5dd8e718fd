pub mod Genvars
