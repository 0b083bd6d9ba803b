pub mod FromTheBack
pub mod Digits
pub mod OneText
pub mod ReadBack
