mod PathLemmas
mod ToldLemmas
mod WholeLemmas
