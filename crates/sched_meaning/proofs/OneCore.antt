pub mod SameOrigin
pub mod OneStep
