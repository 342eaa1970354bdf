pub mod Contexts
pub mod OwnPlace
pub mod Permitted
pub mod Settled
pub mod Laws
pub mod PlaceLaw
pub mod Hooks
