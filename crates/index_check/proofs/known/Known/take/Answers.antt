use Rattle.std.proofs.Common.{◌∙◌, ℕ, ap, rules, sym}
use Rattle.std.specs.BTreeMap.{BTreeMap, get}
use Rattle.std.specs.Ordering.{nat_cmp}
use Rattle.index_check.specs.Known.{count_of, owner_of}
use Rattle.index_check.proofs.Owners.{more_owned, others_kept}
use Rattle.index_check.proofs.known.Known.take.Goals as goal

pub loop-row-preserved : goal.loop-row-preserved
loop-row-preserved c =
    let inv = c.loop-row.invariant in
    let old = c.args.self.now in
    let was = c.loop-row.self in
    let now = c.own.new.self in
    record {
      counts = c.in_ok-own.ensures.counts ∙ inv.counts;
      owned = more_owned c.number.result c.args.id (owner_of was) (owner_of now) c.args.rows.now c.loop-row.row-index c.row-item.result c.loop-row-test.true c.row-item.is c.number.ensures
          c.in_ok-own.ensures.owner inv.owned;
      others = others_kept c.number.result c.args.id (count_of old) (owner_of old) (owner_of was) (owner_of now) c.in_ok-own.ensures.owner
          (λ other is apart. ap (λ (m : BTreeMap ℕ ℕ). get nat_cmp m other) (sym inv.counts) ∙ c.in_ok-own.ensures.free (search rules) other is apart) inv.others;
    }
