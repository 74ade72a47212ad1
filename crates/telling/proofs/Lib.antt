-- Writing: bytes in a text. Rooms: what is lent. Following and Either: the lines behind an entry's own.
pub mod Writing
pub mod Rooms
pub mod Following
pub mod Either
