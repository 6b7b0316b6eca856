pub mod LieInBank
