use Rattle.query_core.proofs.Windows.{part_lawful, part_nowhere}
use Rattle.query_core.proofs.finding.find_from.Goals as goal

pub returns-in-None-clause-none : goal.returns-in-None-clause-none
returns-in-None-clause-none c =
    let entries = c.args.entries.now in
    let w = c.window-from.ensures in
    λ lawful. part_nowhere entries c.window-from.result.0 c.window-from.result.1 c.args.term.now w.within (w.stands lawful) (c.in-None.ensures.none (part_lawful entries _ _ lawful))
