use Rattle.std.proofs.Common.{◌≡◌, ◌<◌, ◌^◌, ◌++◌, ℕ, length, sym, ap, subst, ◌∙◌, arith}
use Rattle.std.specs.List.{flat_map, AllByRecursion}
use Rattle.ix_base.specs.Spelling.{be32, be64}
use Rattle.live_files.specs.LiveFits.{ValueFits}
use Rattle.live_files.specs.LiveSpelling.{values_mark, value_bytes, values_of}
use Rattle.live_files.proofs.ValuesWrite.{few, in_order, values_fit}
use Rattle.live_files.proofs.values.encode_val.Goals as goal

pub returns-clause-file : goal.returns-clause-file
returns-clause-file c =
    let values = values_of c.args.live.now.marks in
    let all = flat_map value_bytes values in
    let short : length c.put_values.new.out.items < 2 ^ 64 = omega arith in
    let count : c.count_values.result ≡ length values = c.count_values.ensures (few values c.put_values.new.out.items c.put_u64-3.new.out.items c.in_ok-put_values.ensures.bytes short) in
    in_order c.new-out.result.items c.put_values_mark.new.out.items c.put_u64.new.out.items c.put_u64-2.new.out.items c.put_u32.new.out.items c.put_u64-3.new.out.items c.put_values.new.out.items
    values_mark (be64 c.args.id) (be64 c.args.v) (be32 c.args.rows) (be64 c.count_values.result) all
    c.new-out.ensures.items c.in_ok-put_values_mark.ensures c.in_ok-put_u64.ensures c.in_ok-put_u64-2.ensures c.in_ok-put_u32.ensures c.in_ok-put_u64-3.ensures c.in_ok-put_values.ensures.bytes
    ∙ ap (λ (n : ℕ). values_mark ++ (be64 c.args.id ++ (be64 c.args.v ++ (be32 c.args.rows ++ (be64 n ++ all))))) count

pub returns-clause-fits : goal.returns-clause-fits
returns-clause-fits c =
    let values = values_of c.args.live.now.marks in
    let short : length c.put_values.new.out.items < 2 ^ 64 = omega arith in
    let each : AllByRecursion (ValueFits c.args.rows) values = subst (λ (n : ℕ). AllByRecursion (ValueFits n) values) (sym c.requires) c.in_ok-put_values.ensures.fits in
    values_fit c.args.rows c.args.live.now.marks (few values c.put_values.new.out.items c.put_u64-3.new.out.items c.in_ok-put_values.ensures.bytes short) each c.in_ok-put_values.ensures.rise
