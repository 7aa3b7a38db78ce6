use Rattle.index_run.proofs.call.write_text.Goals as goal

pub returns-in-Ok-clause-text : goal.returns-in-Ok-clause-text
returns-in-Ok-clause-text g c = record { whole = λ zero. c.in-Ok.ensures.ok; front = λ six. absurd cc }

pub returns-in-Err-clause-text : goal.returns-in-Err-clause-text
returns-in-Err-clause-text g c = record {
  whole = λ zero. absurd cc;
  front = λ six. let front = c.write_all.ensures.front in (front.count, front.front);
}
