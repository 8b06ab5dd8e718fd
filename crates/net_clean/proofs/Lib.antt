pub mod Netlist
