pub mod SheetCommand
