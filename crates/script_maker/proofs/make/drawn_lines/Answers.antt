use Rattle.std.proofs.Common.{◌≡◌, ◌+◌, ◌%◌, refl}
use Rattle.script_maker.specs.Draws.{number_at}
use Rattle.script_maker.proofs.Loops.{number_more, lines_more}
use Rattle.script_maker.proofs.make.drawn_lines.Goals as goal

pub loop-before-preserved : goal.loop-before-preserved
loop-before-preserved c =
    let i = c.loop-before.before in
    let next = c.next_number-number.result in
    let drawn : next ≡ number_at c.args.seed (i + 1) = number_more c.args.seed i c.loop-before.number next c.loop-before.invariant.number c.next_number-number.ensures.next in
    record {
      number = drawn;
      range = c.next_number-number.ensures.range;
      lines = lines_more c.args.seed c.args.callers i next (i % c.args.callers) c.in_ok-act.act c.loop-before.made.items c.push.new.self.items drawn refl c.in_ok-act.ensures c.loop-before.invariant.lines c.in_ok-push.ensures.items;
    }
