use Rattle.std.proofs.Common.{◌<◌, ◌+◌, length, ap, arith}
use Rattle.ram_postings_tests.proofs.LowBirths.{below_waiting, below_void, below_born}
use Rattle.ram_postings_tests.proofs.tests_large.add.Goals as goal

pub born_block-requires-clause-above : goal.born_block-requires-clause-above
born_block-requires-clause-above c =
    let at = c.in_ok-row.ensures.place in
    let low : length c.args.buffer.now < c.in_ok-row.row.0 + 1 = omega (arith, at) in
    below_waiting c.args.buffer.now c.args.analysed.doc (c.in_ok-row.row.0 + 1) c.stage.new.self low c.in_ok-row.ensures.ok c.requires.births

pub returns-then-not-void : goal.returns-then-not-void
returns-then-not-void c =
    below_born c.args.buffer.now c.args.analysed.doc c.in_ok-row.row.0 (c.in_ok-row.row.0 + 1) c.stage.new.self c.born_block.new.self
    c.in_ok-row.ensures.place (ap (λ n. n + 1) c.in_ok-row.ensures.place) c.in_ok-row.ensures.ok c.born_block.ensures c.requires.births

pub returns-else-not-void : goal.returns-else-not-void
returns-else-not-void c = below_void c.args.buffer.now c.args.analysed.doc c.stage.new.self c.in_ok-row.ensures.ok c.requires.births
