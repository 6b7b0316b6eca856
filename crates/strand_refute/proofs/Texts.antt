-- Serves printed_certificates_are_read_again.
pub mod Again
pub mod Short
