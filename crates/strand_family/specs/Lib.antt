pub mod Links
pub mod Origins
