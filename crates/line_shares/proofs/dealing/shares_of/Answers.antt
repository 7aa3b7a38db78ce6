use Rattle.std.proofs.Common.{[], ◌∷◌, ◌++◌, List, sym, subst}
use Rattle.std.specs.List.{AllZip}
use Rattle.worker_tasks.specs.declared.share.Share.{Share}
use Rattle.line_shares.specs.Dealing.{IsShareOf}
use Rattle.line_shares.proofs.LineLaws.{zip_more}
use Rattle.line_shares.proofs.dealing.shares_of.Goals as goal

pub loop-own-preserved : goal.loop-own-preserved
loop-own-preserved c =
    let at = c.loop-own in
    let own = c.in-Some.own in
    let is : IsShareOf own c.new.result = (c.new.ensures.tasks, c.new.ensures.fresh.0, c.new.ensures.fresh.1) in
    subst (λ (ss : List Share). AllZip IsShareOf (at.yielded ++ own ∷ []) ss) (sym c.in_ok-push.ensures.items)
    (zip_more IsShareOf at.yielded at.shares.items own c.new.result at.invariant is)
