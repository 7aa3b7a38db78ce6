use Rattle.script_maker.proofs.Loops.{commits_more}
use Rattle.script_maker.proofs.make.add_commits.Goals as goal

pub loop-caller-preserved : goal.loop-caller-preserved
loop-caller-preserved c =
    commits_more c.args.lines c.loop-caller.caller c.none.result c.args.made.now.items c.loop-caller.made.items c.push.new.self.items
    c.none.ensures c.loop-caller.invariant c.in_ok-push.ensures.items
