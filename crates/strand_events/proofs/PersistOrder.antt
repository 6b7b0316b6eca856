-- Serves persist_order_laws, and what the crates above take from persist order.
pub mod Epochs
pub mod Chain
pub mod Images
pub mod Laws
mod Examples
