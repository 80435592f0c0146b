use Rattle.program_words.proofs.words.request_in.Goals as goal

pub returns-clause-request : goal.returns-clause-request
returns-clause-request c =
    λ command uses found. record {
      task = c.task_in.ensures.task command uses found;
      files = c.files_in.ensures command uses found;
      form = c.form_in.ensures command uses found;
      may_be_cut = c.cut_in.ensures command uses found;
    }
