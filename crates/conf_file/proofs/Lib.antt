mod EntryLemmas
mod FileLemmas
mod FrontLemmas
mod HeaderLemmas
mod NextLemmas
mod WorkedFiles
