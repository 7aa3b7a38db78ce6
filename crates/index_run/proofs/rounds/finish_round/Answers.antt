use Rattle.std.proofs.Common.{◌≡◌, ◌∙◌, ℕ, List, ap, map, subst, sym}
use Rattle.line_shares.proofs.CommittedLaws.{few_each, told_past_is}
use Rattle.line_shares.specs.Committed.{told_past}
use Rattle.line_shares.specs.Tells.{pairs_since}
use Rattle.index_run.specs.Driving.{EndsRound}
use Rattle.index_run.proofs.Rounding.{ended, found_by, none_found}
use Rattle.index_run.proofs.rounds.finish_round.Goals as goal

pub committed-requires-clause-few : goal.committed-requires-clause-few
committed-requires-clause-few g c =
    let q = c.requires.round in few_each q.2 c.args.shares.now q.5.go_on

pub returns-in_ok-committed-in-Some-clause-ends : goal.returns-in_ok-committed-in-Some-clause-ends
returns-in_ok-committed-in-Some-clause-ends g c = λ r lines olds log counts h.
    let w = c.args.writer.now in
    let v = c.end_round.new.writer in
    let news = c.args.shares.now in
    let e = c.in_ok-end_round.ensures.ended (pairs_since olds news) h.parts_are in
    let due = c.in_ok-committed-in-Some.field-0 in
    let at : told_past c.args.counts.now news ≡ pairs_since olds news =
    ap (λ (ns : List ℕ). told_past ns news) counts ∙ told_past_is olds news h.go_on in
    subst (EndsRound r lines news log due v.state) (sym (ap (λ s. g.S.Store.disk s) c.end_round.ensures.store))
    (ended r lines olds news log w.state v.state c.args.parts _ (g.S.Store.disk w.store) h e
    (c.end_round.ensures.sound (e.closed ∙ h.before.at.writer.is_open)) c.args.counts.now due
    (found_by v.state.pending c.in-Some.number (told_past c.args.counts.now news) (pairs_since olds news) c.args.counts.now
    news due (sym c.pending_commit.ensures ∙ c.in-Some.is) at c.in_ok-committed-in-Some.ensures.pairs
    c.in_ok-committed-in-Some.ensures.told))

pub returns-in-None-clause-ends : goal.returns-in-None-clause-ends
returns-in-None-clause-ends g c = λ r lines olds log counts h.
    let w = c.args.writer.now in
    let v = c.end_round.new.writer in
    let news = c.args.shares.now in
    let e = c.in_ok-end_round.ensures.ended (pairs_since olds news) h.parts_are in
    subst (EndsRound r lines news log c.none.result v.state) (sym (ap (λ s. g.S.Store.disk s) c.end_round.ensures.store))
    (ended r lines olds news log w.state v.state c.args.parts _ (g.S.Store.disk w.store) h e
    (c.end_round.ensures.sound (e.closed ∙ h.before.at.writer.is_open)) c.args.counts.now c.none.result
    (none_found v.state.pending (pairs_since olds news) c.args.counts.now news c.none.result
    (sym c.pending_commit.ensures ∙ c.in-None.is)))
