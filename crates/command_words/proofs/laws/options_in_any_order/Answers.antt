use Rattle.command_words.proofs.RunWords.{run_accepted}
use Rattle.command_words.proofs.AskWords.{ask_accepted, list_accepted, check_accepted}
use Rattle.command_words.proofs.MakeWords.{make_accepted}
use Rattle.command_words.proofs.laws.options_in_any_order.Goals as goal

pub returns-clause-run : goal.returns-clause-run
returns-clause-run c = run_accepted

pub returns-clause-ask : goal.returns-clause-ask
returns-clause-ask c = ask_accepted

pub returns-clause-list : goal.returns-clause-list
returns-clause-list c = list_accepted

pub returns-clause-check : goal.returns-clause-check
returns-clause-check c = check_accepted

pub returns-clause-make : goal.returns-clause-make
returns-clause-make c = make_accepted
