mod SummaryLemmas
mod TextLemmas
