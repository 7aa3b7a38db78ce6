use Rattle.std.proofs.Common.{refl, ap, length, List, length-append, ◌≡◌, ◌∙◌, ◌+◌, map, arith}
use Rattle.std.proofs.lemmas.List.{length-map}
use Rattle.delete_queue.specs.Seats.{own_of}
use Rattle.ram_postings.specs.Buffer.{Staged, waiting}
use Rattle.thread_writer.proofs.Lines.{all_before, wait_behind, put_born, finds_full}
use Rattle.thread_writer.proofs.writer.ThreadWriter.add.Goals as goal

pub born_block-requires-clause-place : goal.born_block-requires-clause-place
born_block-requires-clause-place c =
    let old = c.args.self.now.rows in
    let docs = c.args.docs.now in
    let first = c.in-Ok.ensures.first in
    let count : length c.stage_all.new.rows ≡ length old + length docs =
    ap (λ (l : List Staged). length l) c.in-Ok.ensures.ok ∙ length-append old (map waiting docs) ∙ ap (λ n. length old + n) (length-map docs waiting) in
    omega (arith, first, count)

pub born_block-requires-clause-waiting : goal.born_block-requires-clause-waiting
born_block-requires-clause-waiting c =
    wait_behind c.args.self.now.rows c.stage_all.new.rows c.args.docs.now c.in-Ok.first.0 c.in-Ok.ensures.ok c.in-Ok.ensures.first

pub born_block-requires-clause-above : goal.born_block-requires-clause-above
born_block-requires-clause-above c =
    all_before c.args.queue.now c.args.self.now c.link.new.seat c.stage_all.new.rows c.args.words.now c.in-At.number
    c.requires.writer c.requires.words c.link.ensures.seat c.in-At.ensures.at c.stage_all.ensures.same

pub returns-in-At-clause-does : goal.returns-in-At-clause-does
returns-in-At-clause-does c =
    let put = put_born c.args.self.now.rows c.stage_all.new.rows c.born_block.new.self c.args.docs.now c.in-Ok.first.0 c.in-At.number
    c.in-Ok.ensures.ok c.in-Ok.ensures.first c.requires.docs.1 c.born_block.ensures in record {
      seat = c.link.ensures.seat;
      grows = c.link.ensures.grows;
      links = c.in-At.ensures.at;
      born = put.0;
      count = put.1;
      slice = refl;
      size = refl;
    }

pub returns-in-Closed-clause-does : goal.returns-in-Closed-clause-does
returns-in-Closed-clause-does c = record {
  seat = c.link.ensures.seat;
  grows = c.link.ensures.grows;
  own = c.in-Closed.ensures.closed.own;
  born = c.stage_all.ensures.same;
  count = c.stage_all.ensures.count;
  slice = refl;
  size = refl;
}

pub returns-in-Full-clause-does : goal.returns-in-Full-clause-does
returns-in-Full-clause-does c = record {
  seat = c.link.ensures.seat;
  grows = c.link.ensures.grows;
  own = ap own_of c.in-Full.ensures.unchanged;
  born = c.stage_all.ensures.same;
  count = c.stage_all.ensures.count;
  slice = refl;
  size = refl;
}

pub returns-in-Full-clause-full : goal.returns-in-Full-clause-full
returns-in-Full-clause-full c =
    let w = c.args.self.now in
    finds_full w (record w { seat = c.link.new.seat; rows = c.stage_all.new.rows }) c.args.words.now c.in-Full.need c.in-Full.left c.requires.words c.in-Full.ensures.unchanged
    c.in-Full.ensures.full.0 c.in-Full.ensures.full.1 c.in-Full.ensures.full.2
