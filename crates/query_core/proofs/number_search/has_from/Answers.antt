use Rattle.std.proofs.Common.{◌≡◌, ◌≢◌, ◌<◌, ◌∙◌, sym, ap, ℕ, get_or, length, slice_range, Ok, Err, arith}
use Rattle.std.proofs.lemmas.List.{get_or_default}
use Rattle.ix_base.specs.Inversion.{has_number}
use Rattle.query_core.proofs.Rising.{is_found, lacks}
use Rattle.query_core.proofs.NumberWindows.{part_rises, has_part}
use Rattle.query_core.proofs.number_search.has_from.Goals as goal

pub returns-in-Ok-binary_search : goal.returns-in-Ok-binary_search
returns-in-Ok-binary_search c = λ rise.
    let xs = c.args.numbers.now in
    let n = c.in-Ok.number in
    let from = c.number_window-from.result.0 in
    let to = c.number_window-from.result.1 in
    let w = c.number_window-from.ensures in
    is_found (slice_range xs from to) n (Ok c.in-Ok-binary_search.i) c.in-Ok-binary_search.ensures.position (part_rises xs from to rise)
    ∙ has_part xs from to n w.within (w.stands rise) ∙ ap (has_number xs) c.in-Ok.ensures.1

pub returns-in-Err : goal.returns-in-Err
returns-in-Err c = λ rise.
    let xs = c.args.numbers.now in
    let n = c.in-Ok.number in
    let from = c.number_window-from.result.0 in
    let to = c.number_window-from.result.1 in
    let w = c.number_window-from.ensures in
    is_found (slice_range xs from to) n (Err c.in-Err.i) c.in-Err.ensures.position (part_rises xs from to rise)
    ∙ has_part xs from to n w.within (w.stands rise) ∙ ap (has_number xs) c.in-Ok.ensures.1

pub returns-in_default : goal.returns-in_default
returns-in_default c = λ rise.
    let xs = c.args.numbers.now in
    let n = c.args.number in
    let apart : (k d : ℕ) → k < length xs → get_or xs k d ≢ n = λ k d lt e. c.in_default.ensures (let same : get_or xs k d ≡ get_or xs k 0 = get_or_default xs k d 0 lt in omega (arith, c.type_inv.numbers k)) in
    sym (lacks xs n apart)
