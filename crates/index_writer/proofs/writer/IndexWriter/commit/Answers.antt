use Rattle.std.proofs.Common.{◌∙◌, List, Option, length, refl, sym, ap, subst, inl, arith}
use Rattle.std.specs.Prelude.{IsSome}
use Rattle.ix_base.specs.Counts.{doc_count}
use Rattle.ix_base.specs.declared.file_name.FileName.TheVariants.{Commit}
use Rattle.ix_outside.proofs.CallLaws.{leaves_none}
use Rattle.ix_outside.specs.Crash.{MayHold}
use Rattle.ix_outside.specs.Disk.{Told, told_files}
use Rattle.ix_outside.specs.Files.{Changes, onto}
use Rattle.ix_outside.specs.Images.{Reaches}
use Rattle.segment_core.specs.LiveRows.{Lived, all_live}
use Rattle.commit_point.specs.declared.heads.Head.{Head}
use Rattle.commit_point.specs.declared.written.Written.{Written}
use Rattle.commit_point.specs.Settling as settling
use Rattle.commit_point.proofs.StepLaws.{goes_none}
use Rattle.commit_point.specs.Steps.{KeepsMade, KeepsStanding, MakesCommits}
use Rattle.commit_point.specs.Writing as commit
use Rattle.index_writer.specs.declared.state.State.{State}
use Rattle.index_writer.specs.Ready.{HasRows, IsReady}
use Rattle.index_writer.specs.Storing.{Commits, MayCommit, SameBelow}
use Rattle.index_writer.proofs.Committing.{at_state, comes, commits, counted, is_on, less_of, on_err, on_ready, same_below, settles, tells_renamed, unmade}
use Rattle.index_writer.proofs.writer.IndexWriter.commit.Goals as goal

pub returns-then-self-clause-crash : goal.returns-then-self-clause-crash
returns-then-self-clause-crash g c room =
    leaves_none _ (Reaches (MayCommit c.args.pairs.now c.args.self.now.state) (MayHold _))
    (λ image may. (image, may, record { elsewhere = λ name x. refl; whole = inl refl }))

pub returns-in_err-renewed-clause-crash : goal.returns-in_err-renewed-clause-crash
returns-in_err-renewed-clause-crash g c room =
    leaves_none _ (Reaches (MayCommit c.args.pairs.now c.args.self.now.state) (MayHold _))
    (λ image may. (image, may, record { elsewhere = λ name x. refl; whole = inl refl }))

pub returns-then-self-clause-only : goal.returns-then-self-clause-only
returns-then-self-clause-only g c = goes_none (λ step older. MakesCommits step) _

pub returns-then-self-clause-standing : goal.returns-then-self-clause-standing
returns-then-self-clause-standing g c = λ was told goes. goes_none KeepsStanding _

pub returns-then-self-clause-left : goal.returns-then-self-clause-left
returns-then-self-clause-left g c room = unmade c.args.pairs.now c.args.self.now.state _

pub returns-in_err-renewed-clause-only : goal.returns-in_err-renewed-clause-only
returns-in_err-renewed-clause-only g c = goes_none (λ step older. MakesCommits step) _

pub returns-in_err-renewed-clause-standing : goal.returns-in_err-renewed-clause-standing
returns-in_err-renewed-clause-standing g c = λ was told goes. goes_none KeepsStanding _

pub returns-in_err-renewed-clause-left : goal.returns-in_err-renewed-clause-left
returns-in_err-renewed-clause-left g c room =
    on_err c.from_residual.result _
    (unmade c.args.pairs.now c.args.self.now.state (told_files (g.S.Store.disk c.args.self.now.store)))

pub returns-in-Ok-clause-standing : goal.returns-in-Ok-clause-standing
returns-in-Ok-clause-standing g c = λ was told goes.
    let s = c.args.self.now.state in
    let ready = c.requires.sound c.if-self.false in
    let stands = at_state
    (λ (gs : List Lived) (ws : List (Option Written)). commit.ComesAfter was s.published.upto gs ws
    → Told KeepsMade (g.S.Store.disk c.args.self.now.store) (g.S.Store.disk c.write_commit.new.store)) _ _ s
    c.as_slice-segments.ensures c.as_slice-written.ensures (c.write_commit.ensures.standing was told) in
    stands (comes s was ready (less_of s ready (c.requires.pending c.if-self.false)) goes)

pub returns-in-Err-clause-standing : goal.returns-in-Err-clause-standing
returns-in-Err-clause-standing g c = λ was told goes.
    let s = c.args.self.now.state in
    let ready = c.requires.sound c.if-self.false in
    let stands = at_state
    (λ (gs : List Lived) (ws : List (Option Written)). commit.ComesAfter was s.published.upto gs ws
    → Told KeepsMade (g.S.Store.disk c.args.self.now.store) (g.S.Store.disk c.write_commit.new.store)) _ _ s
    c.as_slice-segments.ensures c.as_slice-written.ensures (c.write_commit.ensures.standing was told) in
    stands (comes s was ready (less_of s ready (c.requires.pending c.if-self.false)) goes)

pub returns-in-Err-clause-left : goal.returns-in-Err-clause-left
returns-in-Err-clause-left g c room =
    let s = c.args.self.now.state in
    at_state
    (λ (gs : List Lived) (ws : List (Option Written)). Changes (commit.MayCommit s.published.upto s.published.next_id c.args.pairs.now gs ws)
    (told_files (g.S.Store.disk c.args.self.now.store)) (told_files (g.S.Store.disk c.write_commit.new.store))) _ _ s
    c.as_slice-segments.ensures c.as_slice-written.ensures (c.in-Err.ensures.left room)

pub returns-in-Ok-clause-sound : goal.returns-in-Ok-clause-sound
returns-in-Ok-clause-sound g c still =
    let s = c.args.self.now.state in
    let ready = c.requires.sound c.if-self.false in
    let less = less_of s ready (c.requires.pending c.if-self.false) in
    let on = is_on _ _ c.in_ok-renewed.renewed s c.go_on.new.self c.as_slice-segments.ensures c.as_slice-written.ensures c.in_ok-renewed.ensures c.go_on.ensures in
    subst IsReady (sym on) (on_ready s ready (omega (arith, less)))

pub returns-in-Ok-clause-docs : goal.returns-in-Ok-clause-docs
returns-in-Ok-clause-docs g c rows has =
    ap (λ (h : Head). h.docs) c.in-Ok.ensures.head
    ∙ (ap (λ (gs : List Lived). doc_count (all_live (commit.listed gs))) c.as_slice-segments.ensures ∙ counted c.args.self.now.state rows has)

pub returns-in-Ok-clause-stands : goal.returns-in-Ok-clause-stands
returns-in-Ok-clause-stands g c rows has =
    let s = c.args.self.now.state in
    let on = is_on _ _ c.in_ok-renewed.renewed s c.go_on.new.self c.as_slice-segments.ensures c.as_slice-written.ensures c.in_ok-renewed.ensures c.go_on.ensures in
    subst (λ (t : State). HasRows t rows) (sym on) has

pub returns-in-Ok-clause-made : goal.returns-in-Ok-clause-made
returns-in-Ok-clause-made g c room =
    let s = c.args.self.now.state in
    let pairs = c.args.pairs.now in
    let new = c.go_on.new.self in
    let before = told_files (g.S.Store.disk c.args.self.now.store) in
    let after = told_files (g.S.Store.disk c.write_commit.new.store) in
    let on = is_on _ _ c.in_ok-renewed.renewed s new c.as_slice-segments.ensures c.as_slice-written.ensures c.in_ok-renewed.ensures c.go_on.ensures in
    let made = at_state (λ (gs : List Lived) (ws : List (Option Written)). Changes (commit.Commits s.published.upto s.published.next_id pairs gs ws) before after) _ _ s c.as_slice-segments.ensures c.as_slice-written.ensures (c.in-Ok.ensures.ok room) in
    onto (commit.Commits s.published.upto s.published.next_id pairs s.published.segments s.written) (Commits pairs s new) before after
    (λ files now. commits pairs s new files now (c.requires.sound c.if-self.false) on) made

pub returns-in-Ok-clause-acknowledged : goal.returns-in-Ok-clause-acknowledged
returns-in-Ok-clause-acknowledged g c room image holds =
    let s = c.args.self.now.state in
    let new = c.go_on.new.self in
    let on = is_on _ _ c.in_ok-renewed.renewed s new c.as_slice-segments.ensures c.as_slice-written.ensures c.in_ok-renewed.ensures c.go_on.ensures in
    let before = c.in-Ok.ensures.acknowledged room image holds in (
      before.0,
      before.1,
      commits c.args.pairs.now s new before.0 image (c.requires.sound c.if-self.false) on
          (at_state (λ (gs : List Lived) (ws : List (Option Written)). commit.Commits s.published.upto s.published.next_id c.args.pairs.now gs ws before.0 image) _ _ s
          c.as_slice-segments.ensures c.as_slice-written.ensures before.2),
    )

pub returns-in-Ok-clause-settled : goal.returns-in-Ok-clause-settled
returns-in-Ok-clause-settled g c room =
    let s = c.args.self.now.state in
    let ready = c.requires.sound c.if-self.false in
    let before = g.S.Store.disk c.args.self.now.store in
    let after = g.S.Store.disk c.write_commit.new.store in
    settles s before after ready (less_of s ready (c.requires.pending c.if-self.false))
    (at_state (λ (gs : List Lived) (ws : List (Option Written)). settling.Settles s.published.upto gs ws before after) _ _ s
    c.as_slice-segments.ensures c.as_slice-written.ensures (c.in-Ok.ensures.settled room))

pub returns-in-Err-clause-elsewhere : goal.returns-in-Err-clause-elsewhere
returns-in-Err-clause-elsewhere g c =
    let s = c.args.self.now.state in
    let before = told_files (g.S.Store.disk c.args.self.now.store) in
    let after = told_files (g.S.Store.disk c.write_commit.new.store) in
    onto (commit.SameElsewhere s.published.upto (commit.IsOldId s.published.segments s.written)) (SameBelow s.published.upto s.since) before after
    (same_below s (c.requires.sound c.if-self.false))
    (at_state (λ (gs : List Lived) (ws : List (Option Written)). Changes (commit.SameElsewhere s.published.upto (commit.IsOldId gs ws)) before after) _ _ s
    c.as_slice-segments.ensures c.as_slice-written.ensures c.in-Err.ensures.err)

pub returns-in-Err-clause-renamed : goal.returns-in-Err-clause-renamed
returns-in-Err-clause-renamed g c files now told none told_now is =
    tells_renamed c.in-Err.refused.fault c.in-Err.refused.renamed c.refuse.result c.args.self.now.state c.refuse.new.self
    (IsSome (now (Commit c.args.self.now.state.published.upto)))
    c.refuse.ensures.failed c.refuse.ensures.no_memory (c.in-Err.ensures.renamed files now told none told_now) (cc)
