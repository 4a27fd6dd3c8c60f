pub mod PacketView
pub mod Packets
