pub mod Order
pub mod Rising
pub mod Closed
pub mod RisingExec
pub mod Draws
pub mod Named
