use Rattle.std.proofs.Common.{◌≡◌, ℕ, List, length, arith, Some, None}
use Rattle.std.proofs.lemmas.Result.{err_from_is_err_and}
use Rattle.segment_files.specs.Pairs.{pair_at}
use Rattle.ix_base.proofs.ItemLaws.{items_count}
use Rattle.segment_files.proofs.PairLaws.{pair_list_rises}
use Rattle.ix_base.proofs.ReadLoops.{goes_on_seen, ends_seen, is_done}
use Rattle.segment_files.proofs.read_pairs.pair_list.Goals as goal

pub returns-in_err-pair : goal.returns-in_err-pair
returns-in_err-pair c =
    let p = err_from_is_err_and c.from_residual.result c.from_residual.ensures.1 in
    rw (p.1, p.2) (ends_seen pair_at (λ (pair : List ℕ × List ℕ). Some pair.0) None c.in_err-pair.field-0.0 c.deref.result.now c.loop.pairs.items c.args.count c.loop.counter c.loop.rest.now _
    c.deref.ensures.value c.loop-test.true c.in_err-pair.ensures c.loop.invariant)

pub loop-preserved : goal.loop-preserved
loop-preserved c =
    rw c.in_ok-push.ensures.items (goes_on_seen pair_at (λ (pair : List ℕ × List ℕ). Some pair.0) None c.deref.result.now c.loop.pairs.items c.args.count c.loop.counter c.loop.rest.now c.in_ok-pair.pair c.in_ok-pair.after.now _
    c.deref.ensures.value c.loop-test.true c.in_ok-pair.ensures c.loop.invariant)

pub returns : goal.returns
returns c = rw c.from_vec.ensures (is_done pair_at (λ (pair : List ℕ × List ℕ). Some pair.0) None c.loop.pairs.items c.args.count c.loop.counter c.loop.rest.now _ c.loop-test.false c.loop.invariant)

pub from_vec-requires-clause-count : goal.from_vec-requires-clause-count
from_vec-requires-clause-count c =
    let e : length c.loop.pairs.items ≡ c.args.count = items_count pair_at (λ (pair : List ℕ × List ℕ). Some pair.0) None c.args.count c.args.bytes.now _ (is_done pair_at (λ (pair : List ℕ × List ℕ). Some pair.0) None c.loop.pairs.items c.args.count c.loop.counter c.loop.rest.now _ c.loop-test.false c.loop.invariant) in
    omega arith

pub from_vec-requires-clause-rise : goal.from_vec-requires-clause-rise
from_vec-requires-clause-rise c = pair_list_rises c.args.count c.args.bytes.now _ (is_done pair_at (λ (pair : List ℕ × List ℕ). Some pair.0) None c.loop.pairs.items c.args.count c.loop.counter c.loop.rest.now _ c.loop-test.false c.loop.invariant)
