use Rattle.std.proofs.Common.{◌-◌, refl, arith, get_or, length, take, drop}
use Rattle.std.proofs.lemmas.List.{length-take}
use Rattle.std.specs.List.{flat_map}
use Rattle.ix_base.specs.Words.{head_len}
use Rattle.ix_base.specs.Spelling.{be64}
use Rattle.node_words.proofs.Packing.{none_held, not_filled, found_held, parts, rest_fits, enough, all_fit}
use Rattle.node_words.proofs.unpack.held_in.Goals as goal
use Rattle.node_words.proofs.unpack.held_in.Goals.{then-len-gt-MOST_QUERY_BYTES-via-then-len-gt-MOST_QUERY_BYTES, then-len-gt-MOST_QUERY_BYTES-via-else-len-gt-MOST_QUERY_BYTES+then-rest-len}

pub returns-then-len-gt-MOST_QUERY_BYTES : goal.returns-then-len-gt-MOST_QUERY_BYTES
returns-then-len-gt-MOST_QUERY_BYTES c =
    let words = c.args.words.now in
    let rest = take (length words - 1) (drop 1 words) in
    none_held words (get_or words 0 0) rest (parts words c.in-len1-up.len_at_least) (λ short count.
    elim c.then-len-gt-MOST_QUERY_BYTES.branch [
      | then-len-gt-MOST_QUERY_BYTES-via-then-len-gt-MOST_QUERY_BYTES w ↦ omega arith
      | then-len-gt-MOST_QUERY_BYTES-via-else-len-gt-MOST_QUERY_BYTES+then-rest-len w ↦ w.if-rest-len.true count
    ])

pub returns-then-not-is_filled : goal.returns-then-not-is_filled
returns-then-not-is_filled c =
    let words = c.args.words.now in
    let rest = take (length words - 1) (drop 1 words) in
    not_filled words (get_or words 0 0) rest (flat_map be64 rest) (parts words c.in-len1-up.len_at_least) refl (λ empty. cc (c.is_filled.ensures.1 empty))

pub returns : goal.returns
returns c =
    let words = c.args.words.now in
    let rest = take (length words - 1) (drop 1 words) in
    let split = parts words c.in-len1-up.len_at_least in
    let short = c.if-rest-len.false in (
      found_held words (get_or words 0 0) rest (flat_map be64 rest) split (rest_fits words rest (get_or words 0 0) (λ i. omega (arith, c.type_inv.words i)) split)
          (all_fit rest (flat_map be64 rest) refl) refl (omega arith) short (c.is_filled.ensures.0 c.if-not-is_filled.false),
      omega (arith, length-take (head_len (get_or words 0 0)) (flat_map be64 rest), enough rest (flat_map be64 rest) (head_len (get_or words 0 0)) refl short),
    )
