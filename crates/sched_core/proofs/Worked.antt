pub mod Lists
pub mod Looking
pub mod Others
pub mod Placing
pub mod Ready
