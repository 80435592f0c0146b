pub mod Blanks
pub mod Fronts
pub mod RecordsAccepted
pub mod RecordsFacts
pub mod Spots
pub mod StartFacts
pub mod WholeAccepted
