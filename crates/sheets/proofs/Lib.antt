pub mod SheetTexts
pub mod SheetFields
pub mod SheetLines
pub mod Settings
pub mod Judging
