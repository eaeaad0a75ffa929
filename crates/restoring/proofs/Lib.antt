-- Laws of the loops: places and small rows; groups as sets, and their numbers; putting back.
pub mod TurnLaws
pub mod SeatLaws
pub mod ReturnLaws
