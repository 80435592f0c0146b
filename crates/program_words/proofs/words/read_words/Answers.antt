use Rattle.std.proofs.Common.{map}
use Rattle.clap.specs.Words.{fault_of}
use Rattle.program_words.specs.Words.{replayer}
use Rattle.program_words.proofs.WordsLemmas.{usage_meant}
use Rattle.program_words.proofs.words.read_words.Goals as goal

pub returns-in-Err-clause-rules : goal.returns-in-Err-clause-rules
returns-in-Err-clause-rules c = usage_meant (fault_of replayer (map (λ word. word.now) c.args.words.now)) c.in-Err.error c.usage_of.result.kind c.in-Err.ensures.rules c.usage_of.ensures
