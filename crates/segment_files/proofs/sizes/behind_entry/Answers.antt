use Rattle.std.proofs.Common.{◌≡◌, ◌+◌, ◌<◌, length, arith, ap, sym, subst}
use Rattle.std.specs.List.{flat_map}
use Rattle.ix_base.specs.Grouped.{grouped}
use Rattle.ix_base.specs.Spelling.{text_bytes}
use Rattle.segment_files.specs.Sizes.{Leaves}
use Rattle.segment_files.specs.Spelling.{posting, term_postings}
use Rattle.segment_files.proofs.Rooms.{and_then, as_size, entry_size}
use Rattle.segment_files.proofs.sizes.behind_entry.Goals as goal

pub returns-in_err-behind : goal.returns-in_err-behind
returns-in_err-behind c =
    let field : length (text_bytes c.as_str.result.now) ≡ length (text_bytes c.args.entry.now.term.field) = ap (λ t. length (text_bytes t)) c.as_str.ensures.bytes in
    let bytes : length (text_bytes c.as_str-2.result.now) ≡ length (text_bytes c.args.entry.now.term.bytes) = ap (λ t. length (text_bytes t)) c.as_str-2.ensures.bytes in
    let much : c.args.room < length (term_postings c.args.entry.now) =
    omega (arith, field, bytes, entry_size c.args.entry.now, c.in_ok-left.ensures, c.in_ok-left-2.ensures, c.in_err-behind.ensures) in
    subst (λ o. Leaves c.args.room (length (term_postings c.args.entry.now)) o) (sym c.from_residual-in_err-behind.ensures) much

pub returns : goal.returns
returns c =
    let field : length (text_bytes c.as_str.result.now) ≡ length (text_bytes c.args.entry.now.term.field) = ap (λ t. length (text_bytes t)) c.as_str.ensures.bytes in
    let bytes : length (text_bytes c.as_str-2.result.now) ≡ length (text_bytes c.args.entry.now.term.bytes) = ap (λ t. length (text_bytes t)) c.as_str-2.ensures.bytes in
    let places : length (flat_map posting (grouped c.as_slice.result.now)) ≡ length (flat_map posting c.args.entry.now.rows) = ap (λ ps. length (flat_map posting ps)) (sym c.as_slice.ensures.places) in
    let head = length (text_bytes c.args.entry.now.term.field) + length (text_bytes c.args.entry.now.term.bytes) + 4 in
    let begun : c.in_ok-behind.field-0 + head ≡ c.args.room = omega (arith, field, bytes, c.in_ok-left.ensures, c.in_ok-left-2.ensures, c.in_ok-behind.ensures) in
    as_size _ _ _ _ (entry_size c.args.entry.now)
    (and_then c.args.room head _ c.in_ok-behind.field-0 _ begun (as_size _ _ _ _ places c.behind_places.ensures))
