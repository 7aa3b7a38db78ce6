use Rattle.std.proofs.Common.{List, length, map, refl, sym, ap, subst, arith}
use Rattle.ix_base.specs.Inversion.{IsInversion}
use Rattle.ix_base.specs.declared.document.Row.{Row}
use Rattle.index_writer.proofs.Gathering.{born_few}
use Rattle.index_writer.proofs.ending.last_piece.Goals as goal

pub returns : goal.returns
returns c =
    let frozen = c.in_ok-frozen.frozen in
    let rows = c.in_ok-frozen.ensures.rows in
    record {
      rows = rows;
      inversion =
          subst (λ (rs : List Row). IsInversion (map (λ (row : Row). row.doc) rs) frozen.postings) (sym rows) c.in_ok-frozen.ensures.inversion;
      few = omega (arith, ap length rows, born_few c.args.rows, c.requires.few);
      updates = c.new.ensures;
      cut = refl;
    }
