-- Serves Pipeline::retire: what a retired instruction makes of the trace and of the machine.
pub mod Machine
pub mod Trace
