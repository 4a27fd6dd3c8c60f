pub mod Words
pub mod Orders
pub mod FlowCommands
pub mod Packets
pub mod EntryTexts
pub mod RmapAnswers
pub mod Laws
