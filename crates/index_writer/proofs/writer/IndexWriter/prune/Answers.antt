use Rattle.std.specs.Prelude.{refl}
use Rattle.commit_point.proofs.StepLaws.{goes_none}
use Rattle.commit_pruning.proofs.Carried.{crash_same, each_same, found_same, none_same}
use Rattle.commit_pruning.specs.Pruning.{Deletes}
use Rattle.index_writer.proofs.Standing.{closed_too, pruned_go_on}
use Rattle.index_writer.proofs.writer.IndexWriter.prune.Goals as goal

pub returns-then-self-clause-crash : goal.returns-then-self-clause-crash
returns-then-self-clause-crash g c = crash_same c.args.keep (g.S.Store.disk c.args.self.now.store) (g.S.Store.disk c.args.self.now.store) refl

pub returns-then-self-clause-found : goal.returns-then-self-clause-found
returns-then-self-clause-found g c = found_same c.args.keep (g.S.Store.disk c.args.self.now.store) (g.S.Store.disk c.args.self.now.store) refl

pub returns-then-self-clause-each : goal.returns-then-self-clause-each
returns-then-self-clause-each g c = each_same c.args.keep (g.S.Store.disk c.args.self.now.store) (g.S.Store.disk c.args.self.now.store) refl

pub returns-then-self-clause-none : goal.returns-then-self-clause-none
returns-then-self-clause-none g c = none_same (g.S.Store.disk c.args.self.now.store) (g.S.Store.disk c.args.self.now.store) refl

pub returns-in-Ok-clause-goes_on : goal.returns-in-Ok-clause-goes_on
returns-in-Ok-clause-goes_on g c files now told after goes stands =
    pruned_go_on c.args.keep c.args.self.now.state files now c.requires.some (c.in-Ok.ensures.left files now told after) goes stands

pub returns-in-Err-Store-clause-goes_on : goal.returns-in-Err-Store-clause-goes_on
returns-in-Err-Store-clause-goes_on g c files now told after goes stands =
    closed_too now c.args.self.now.state (pruned_go_on c.args.keep c.args.self.now.state files now c.requires.some (c.in-Err-Store.ensures.left files now told after) goes stands)

pub returns-in-Err-NoMemory-clause-goes_on : goal.returns-in-Err-NoMemory-clause-goes_on
returns-in-Err-NoMemory-clause-goes_on g c files now told after goes stands =
    pruned_go_on c.args.keep c.args.self.now.state files now c.requires.some (c.in-Err-NoMemory.ensures.left files now told after) goes stands

pub returns-then-self-clause-only : goal.returns-then-self-clause-only
returns-then-self-clause-only g c = goes_none (λ step older. Deletes step) (g.S.Store.disk c.args.self.now.store)
