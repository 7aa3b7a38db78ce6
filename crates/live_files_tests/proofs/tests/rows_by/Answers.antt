use Rattle.std.proofs.Common.{◌≡◌, length, ap, arith}
use Rattle.live_docs.specs.Marks.{Marks}
use Rattle.live_files_tests.proofs.tests.rows_by.Goals as goal

pub returns : goal.returns
returns c =
    let made : length c.in_ok-docs.docs.marks ≡ 19 = ap (λ (d : Marks). length d.marks) c.in_ok-docs.ensures in
    omega (
      arith,
      made,
      c.kill.ensures.rows,
      c.kill-2.ensures.rows,
      c.kill-3.ensures.rows,
      c.kill-4.ensures.rows,
      c.in_ok-set_value.ensures.rows,
      c.in_ok-set_value-2.ensures.rows,
      c.in_ok-set_value-3.ensures.rows,
      c.in_ok-set_value-4.ensures.rows,
    )
