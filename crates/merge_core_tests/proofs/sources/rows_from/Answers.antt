use Rattle.std.proofs.Common.{◌*◌, ◌+◌, subst, sym, arith, rules}
use Rattle.std.specs.List.{AllByRecursion}
use Rattle.ix_base.specs.Births.{first_birth, last_birth}
use Rattle.segment_files.specs.Fits.{BirthsRise}
use Rattle.merge_core_tests.specs.Sources.{IsBornFrom, birth_at}
use Rattle.merge_core_tests.proofs.Thirds.{birth_from, birth_more, birth_most, born_push, rise_push, rise_to}
use Rattle.merge_core_tests.proofs.sources.rows_from.Goals as goal

pub loop-at-preserved : goal.loop-at-preserved
loop-at-preserved c =
    let is = c.in_ok-push.ensures.items in
    let birth = c.in_ok-born.ensures in
    let at = c.loop-at.at in
    let low = birth_from (c.args.first + 3 * at) (omega (arith, c.requires.one)) in
    let above = birth_more (3 * at) (c.args.first + 3 * at) (omega (arith, c.requires.one)) in
    let most = birth_most (c.args.first + 3 * at) (3 * (at + 1)) (omega (arith, c.requires.three)) in
    record {
      rise = subst (BirthsRise (first_birth 1) (birth_at (3 * (at + 1)))) (sym is)
          (rise_push (first_birth 1) (birth_at (3 * at)) (birth_at (3 * (at + 1))) c.loop-at.rows.items c.in_ok-born.field-0 c.loop-at.invariant.rise
          (omega (arith, birth, above)) (omega (arith, birth, low)) (omega (arith, birth, most)));
      born = subst (AllByRecursion (IsBornFrom c.args.first)) (sym is)
          (born_push c.args.first c.loop-at.rows.items c.in_ok-born.field-0 c.loop-at.invariant.born (c.loop-at.at, birth));
      count = search (rules, is, c.loop-at.invariant.count);
    }

pub returns-clause-rise : goal.returns-clause-rise
returns-clause-rise c =
    rise_to (first_birth 1) (birth_at (3 * c.loop-at.at)) (last_birth 30000) c.loop-at.rows.items c.loop-at.invariant.rise
    (omega (arith, birth_most (3 * c.loop-at.at) 30000 (omega (arith, c.loop-at.auto.at-end, c.requires.few))))
