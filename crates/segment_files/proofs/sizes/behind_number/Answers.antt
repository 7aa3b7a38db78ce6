use Rattle.std.proofs.Common.{◌≡◌, ◌+◌, length, subst, sym}
use Rattle.ix_base.specs.Spelling.{text_bytes}
use Rattle.segment_files.specs.Spelling.{number_bytes}
use Rattle.segment_files.proofs.Rooms.{and_then, as_size, number_size}
use Rattle.segment_files.proofs.sizes.behind_number.Goals as goal

pub returns : goal.returns
returns c =
    let size : length (text_bytes c.as_str.result.now) + 8 ≡ length (number_bytes c.args.pair.now) =
    subst (λ t. length (text_bytes t) + 8 ≡ length (number_bytes c.args.pair.now)) (sym c.as_str.ensures.bytes) (number_size c.args.pair.now) in
    as_size _ _ _ _ size (and_then c.args.room _ 8 c.in_ok-behind_text.field-0 _ c.in_ok-behind_text.ensures c.behind.ensures)
