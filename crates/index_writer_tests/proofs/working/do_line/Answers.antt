use Rattle.std.proofs.Common.{refl, sym, arith}
use Rattle.std.specs.Vec.{with_item}
use Rattle.index_writer.specs.declared.round.RoundParts.{RoundParts}
use Rattle.index_writer_tests.proofs.AtWork.{goes_on, writer_at}
use Rattle.index_writer.proofs.Gathering.{workers}
use Rattle.index_writer_tests.proofs.working.do_line.Goals.{After-work}
use Rattle.index_writer_tests.proofs.working.do_line.Goals as goal

pub index_mut-gave-requires : goal.index_mut-gave-requires
index_mut-gave-requires c =
    let parts = c.args.parts.now in
    let told = c.requires.parts.1.0 in
    let count = (workers parts.queue 0 told parts.writers.items parts.pieces.items c.requires.parts.1.1.workers).count in
    omega (arith, count, parts.pieces.ok.0)

pub work-requires : goal.work-requires
work-requires c =
    let parts = c.args.parts.now in
    writer_at parts.queue 0 c.requires.parts.1.0 parts.writers.items parts.pieces.items c.args.worker c.index_mut-writer.result.now
    c.requires.parts.1.1.workers c.requires.worker (sym c.index_mut-writer.ensures.value)

-- the round then
abbrev now : After-work → RoundParts
now c =
    let parts = c.args.parts.now in
    record {
      queue = parts.queue;
      writers = with_item parts.writers c.args.worker c.work.new.writer;
      pieces = with_item parts.pieces c.args.worker c.work.new.gave;
    }

pub returns : goal.returns
returns c = λ base under_way.
    let d = (goal.at.returns c).After-work in
    goes_on d.args.parts.now (now d) d.args.worker d.index_mut-writer.result.now d.work.new.writer d.index_mut-gave.result.now d.work.new.gave base
    (record {
      inside = d.requires.worker;
      queue = refl;
      was = sym d.index_mut-writer.ensures.value;
      gave = sym d.index_mut-gave.ensures.value;
      writers = refl;
      pieces = refl;
    })
    d.work.ensures under_way
