use Rattle.text_laws.proofs.Numbers.{count_comes_back, decimal_comes_back, hexadecimal_comes_back}
use Rattle.text_laws.proofs.Paths.{path_comes_back, path_is_word}
use Rattle.text_laws.proofs.Words.{decimal_is_word, hexadecimal_is_word}
use Rattle.text_laws.proofs.laws.values_come_back.Goals as goal

pub returns : goal.returns
returns c = record {
  decimal = decimal_comes_back;
  hexadecimal = hexadecimal_comes_back;
  count = count_comes_back;
  path = path_comes_back;
  decimal_word = decimal_is_word;
  hexadecimal_word = hexadecimal_is_word;
  path_word = path_is_word;
}
