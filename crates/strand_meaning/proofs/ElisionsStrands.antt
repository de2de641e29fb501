pub mod ItemsRise
pub mod EventsBelowPath
pub mod EventsSplitByChildren
pub mod ElisionStrands
pub mod StrandDraws
