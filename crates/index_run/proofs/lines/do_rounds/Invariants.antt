use Rattle.std.proofs.Common.{◌≡◌, ◌+◌, ◌≤◌, List, length, false}
use Rattle.op_script.specs.declared.script.Line.{Line}
use Rattle.line_shares.specs.Shares.{open_count}
use Rattle.index_run.specs.Driving.{Begins, IsRunBy, IsUnderWay, Run}
use Rattle.index_run.proofs.lines.do_rounds.Given as goal

abbrev pub invariant-loop-alloc : goal.invariant-loop-alloc
invariant-loop-alloc g l =
    record {
      come : (r : Run) (lines : List Line) → IsRunBy l.fn.threads l.fn.keep r
          → Begins r lines l.fn.shares.items l.asks l.fn.writer.state (g.S.Store.disk l.fn.writer.store)
          → IsUnderWay r lines l.shares.items l.asks l.commits.items l.due l.texts.items l.writer.state
          (g.S.Store.disk l.writer.store);
      count : length l.texts.items ≡ length l.asks;
      out : l.writer.state.out ≡ false;
      few : l.count + open_count l.shares.items ≤ open_count l.fn.shares.items;
      later : g.S.Store.fault_count l.fn.writer.store ≤ g.S.Store.fault_count l.writer.store;
    }

abbrev pub decreases-loop-alloc : goal.decreases-loop-alloc
decreases-loop-alloc g l = open_count l.shares.items
