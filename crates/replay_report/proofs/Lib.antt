pub mod Ascii
pub mod RingTextsLemmas
pub mod InOrder
pub mod ReportLemmas
mod SumLemmas
mod TreeSumLemmas
