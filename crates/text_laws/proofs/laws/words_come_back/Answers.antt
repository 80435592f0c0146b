use Rattle.text_laws.proofs.Words.{comment_is_skipped, first_word_comes, next_word_comes, value_comes_back}
use Rattle.text_laws.proofs.laws.words_come_back.Goals as goal

pub returns : goal.returns
returns c = record { next = next_word_comes; first = first_word_comes; value = value_comes_back; comment = comment_is_skipped }
