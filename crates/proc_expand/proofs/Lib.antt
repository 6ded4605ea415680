mod First
mod WordBytes
mod Nested
mod Heads
mod CallFacts
mod KnownNames
mod Repeated
mod Joined
mod NameLists
mod FreeNumbers
mod TakenNames
mod StackOfFrames
mod SheetFacts
mod Depths
mod BodyNames
mod Outside
pub mod WholeHeads
pub mod Wholes
mod Marking
mod PenFacts
mod OpenBodies
mod Writing
mod Origins
pub mod FewTokens
