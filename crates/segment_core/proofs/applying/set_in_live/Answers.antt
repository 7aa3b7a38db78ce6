use Rattle.std.proofs.Common.{◌∙◌, List, sym, ap}
use Rattle.std.proofs.lemmas.Result.{on_ok_weaker}
use Rattle.live_docs.specs.declared.live_docs.Mark.{Mark}
use Rattle.segment_core.proofs.SetLive.{dead_stays, live_set}
use Rattle.segment_core.proofs.applying.set_in_live.Goals as goal

pub returns-then-not-is_live : goal.returns-then-not-is_live
returns-then-not-is_live c =
    ap (λ (ms : List Mark). record { applied = c.args.live.now.applied; marks = ms })
    (dead_stays c.args.setting.now.num c.args.setting.now.value c.args.row c.args.live.now.marks c.requires (sym c.is_live.ensures ∙ c.if-not-is_live.true))

pub returns : goal.returns
returns c =
    on_ok_weaker c.set_number.result
    (λ set. set ∙ ap (λ (ms : List Mark). record { applied = c.args.live.now.applied; marks = ms })
    (live_set c.args.setting.now.num c.args.setting.now.value c.args.row c.args.live.now.marks c.requires (sym c.is_live.ensures ∙ c.if-not-is_live.false)))
    c.set_number.ensures
