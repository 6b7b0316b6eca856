pub mod Lists
pub mod Stand
pub mod ItemKinds
pub mod DurableFrom
pub mod Turn
pub mod LastBelow
