pub mod Standing
pub mod Streamed
pub mod Laws
