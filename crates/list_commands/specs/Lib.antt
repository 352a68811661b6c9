pub mod ListCommands
