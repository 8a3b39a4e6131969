pub mod BlockElements
pub mod InsideElements
pub mod RefreshLaws
pub mod Steps
pub mod Walks
pub mod WorkedForms
mod WorkedMarks
mod WorkedNotes
mod WorkedOutcomes
mod WorkedBlocks
mod WorkedFrames
mod WorkedPictures
mod WorkedPlan
mod WorkedPlaces
pub mod WorkedRecords
mod WorkedRules
mod WorkedTexts
pub mod WorkedValid
mod WorkedWords
