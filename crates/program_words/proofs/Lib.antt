mod CommandLemmas
mod Commands
mod Example
mod NumberWords
mod OptionWalk
mod UseRows
mod UseWalk
mod WordsLemmas
