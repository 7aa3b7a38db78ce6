use Rattle.std.proofs.Common.{◌≡◌, ◌≤◌, ◌+◌, ℕ, sym, subst, arith}
use Rattle.frozen_packet.specs.declared.updates.Updates.{Updates}
use Rattle.delete_slice.specs.Entries.{Has}
use Rattle.delete_slice.specs.Taken.{TakesPart, TakesLogged, TakesSomeLogged}
use Rattle.delete_slice.proofs.Gathering.{gathered_ok, gathered_err}
use Rattle.delete_slice.proofs.Words.{on_err}
use Rattle.delete_slice.proofs.Parts.{takes_none, parts_chain}
use Rattle.delete_slice.proofs.slice.Slice.apply_log.Goals as goal

pub loop-index-init : goal.loop-index-init
loop-index-init c = let log = c.args.log.now in takes_none (Has log) log.base c.args.self.now.from.at c.args.updates.now c.requires.updates

pub take_logged-requires-clause-updates : goal.take_logged-requires-clause-updates
take_logged-requires-clause-updates c = c.loop-index.invariant.upto

pub loop-index-preserved : goal.loop-index-preserved
loop-index-preserved c =
    let log = c.args.log.now in
    parts_chain (Has log) log.base c.args.self.now.from.at c.loop-index.index (c.loop-index.index + 1) c.args.updates.now c.loop-index.updates c.take_logged.new.updates
    c.loop-index.invariant c.in_ok-take_logged.ensures.taken

pub returns-in_err-take_logged-clause-err : goal.returns-in_err-take_logged-clause-err
returns-in_err-take_logged-clause-err c =
    let log = c.args.log.now in let slice = c.args.self.now in let old = c.args.updates.now in let new = c.take_logged.new.updates in let lt = c.loop-index-test.true in
    let prefix : TakesSomeLogged log slice old new = (c.loop-index.index, omega (arith, lt), subst (λ (u : Updates). TakesPart (Has log) log.base slice.from.at c.loop-index.index old u) (sym c.in_err-take_logged.ensures.err) c.loop-index.invariant) in
    on_err _ (TakesSomeLogged log slice old new) prefix

pub returns-clause-ok : goal.returns-clause-ok
returns-clause-ok c =
    let log = c.args.log.now in let ge = c.loop-index-test.false in let order = c.requires.order in let end = c.loop-index.auto.index-end in
    let part : TakesLogged log c.args.self.now c.args.updates.now c.loop-index.updates =
    subst (λ (p : ℕ). TakesPart (Has log) log.base c.args.self.now.from.at p c.args.updates.now c.loop-index.updates)
    (let e : c.loop-index.index ≡ c.args.self.now.to.at = omega (arith, ge, order, end) in e) c.loop-index.invariant in
    gathered_ok c.gather.result (Has log) log.base c.args.self.now.from.at c.args.self.now.to.at c.args.updates.now c.loop-index.updates c.gather.new.self part c.gather.ensures.same c.gather.ensures.numbers

pub returns-clause-err : goal.returns-clause-err
returns-clause-err c =
    let log = c.args.log.now in let order = c.requires.order in let end = c.loop-index.auto.index-end in
    let most : c.loop-index.index ≤ c.args.self.now.to.at = omega (arith, order, end) in
    gathered_err c.gather.result (λ (u : Updates). TakesSomeLogged log c.args.self.now c.args.updates.now u) c.loop-index.updates c.gather.new.self (c.loop-index.index, most, c.loop-index.invariant) c.gather.ensures.err
