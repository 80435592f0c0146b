pub mod Holding
pub mod Laws
pub mod Swept
pub mod Within
