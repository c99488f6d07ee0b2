pub mod Probe
