pub mod BothTexts
pub mod Positions
pub mod Printed
pub mod Sizes
