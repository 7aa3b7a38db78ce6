use Rattle.std.proofs.Common.{◌≡◌, ◌∙◌, List, ◌++◌, map, ap, sym, subst}
use Rattle.std.specs.List.{range_with_len}
use Rattle.op_script.specs.Shape.{AreScriptLines}
use Rattle.op_script.specs.declared.script.Line.{Line}
use Rattle.script_maker.specs.Made.{last_commit, made_script}
use Rattle.script_maker.proofs.Shapes.{made_shape}
use Rattle.script_maker.proofs.make.make_script.Goals as goal

pub returns-clause-lines : goal.returns-clause-lines
unfolding made_script
returns-clause-lines c =
    let commits = map (last_commit c.args.lines) (range_with_len 0 c.args.callers) in
    c.from_vec.ensures ∙ c.in_ok-add_commits.ensures ∙ ap (λ (ls : List Line). ls ++ commits) c.in_ok-made.ensures

pub returns-clause-shape : goal.returns-clause-shape
unfolding made_script
returns-clause-shape c =
    let commits = map (last_commit c.args.lines) (range_with_len 0 c.args.callers) in
    let is : c.from_vec.result ≡ made_script c.args.seed c.args.lines c.args.callers =
    c.from_vec.ensures ∙ c.in_ok-add_commits.ensures ∙ ap (λ (ls : List Line). ls ++ commits) c.in_ok-made.ensures in
    subst AreScriptLines (sym is) (made_shape c.args.seed c.args.lines c.args.callers c.requires.lines.1 c.requires.callers.0 c.requires.callers.1)
