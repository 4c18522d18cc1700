pub mod GraphTexts
pub mod Lines
pub mod Outputs
pub mod RisingLists
