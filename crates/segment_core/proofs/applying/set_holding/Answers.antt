use Rattle.std.proofs.Common.{◌≡◌, ◌∙◌, length, sym, ap, subst}
use Rattle.std.proofs.lemmas.Result.{on_ok_weaker}
use Rattle.live_docs.specs.Marks.{Marks}
use Rattle.segment_core.specs.LiveRows.{MarksLater}
use Rattle.segment_core.specs.Marking.{valued_live, hits}
use Rattle.segment_core.proofs.Found.{length-hits}
use Rattle.segment_core.proofs.FoundNow.{setting_touched}
use Rattle.segment_core.proofs.Later.{hits_later, later_valued}
use Rattle.segment_core.proofs.applying.set_holding.Goals as goal

pub returns-clause-long : goal.returns-clause-long
returns-clause-long g c =
    let s = c.args.update.now in
    on_ok_weaker c.set_found.result
    (λ (e : c.set_found.new.live ≡ record c.args.live.now { marks = hits s.number (valued_live s.num s.value) c.args.rows.now c.as_slice.result.now c.args.live.now.marks }).
    ap (λ (m : Marks). length m.marks) e ∙ (length-hits s.number (valued_live s.num s.value) c.args.rows.now c.as_slice.result.now c.args.live.now.marks ∙ c.requires))
    c.set_found.ensures

pub returns-clause-later : goal.returns-clause-later
returns-clause-later g c =
    let s = c.args.update.now in
    on_ok_weaker c.set_found.result
    (λ (e : c.set_found.new.live ≡ record c.args.live.now { marks = hits s.number (valued_live s.num s.value) c.args.rows.now c.as_slice.result.now c.args.live.now.marks }).
    subst (λ (m : Marks). MarksLater c.args.live.now.marks m.marks) (sym e) (hits_later s.number (valued_live s.num s.value) (later_valued s.num s.value) c.args.rows.now c.as_slice.result.now c.args.live.now.marks))
    c.set_found.ensures

pub returns-clause-marks : goal.returns-clause-marks
returns-clause-marks g c =
    let s = c.args.update.now in
    on_ok_weaker c.set_found.result
    (λ (e : c.set_found.new.live ≡ record c.args.live.now { marks = hits s.number (valued_live s.num s.value) c.args.rows.now c.as_slice.result.now c.args.live.now.marks }) inverts.
    ap (λ (m : Marks). m.marks) e
    ∙ setting_touched s.number s.term s.num s.value c.args.rows.now c.as_slice.result.now c.args.live.now.marks c.requires
    (c.as_slice.ensures.value ∙ c.in_ok-found.ensures _ inverts))
    c.set_found.ensures
