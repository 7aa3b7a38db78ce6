use Rattle.std.proofs.Common.{◌≡◌, ◌↔◌, ℕ, ◌-◌, ◌*◌, List, IsTrue, EachIndex, length, take, drop, slice_index, sym, ap, subst, ◌∙◌, arith}
use Rattle.std.proofs.lemmas.List.{length-take}
use Rattle.ix_base.specs.Spelling.{be64}
use Rattle.node_words.proofs.Packing.{behind_front}
use Rattle.node_words.proofs.unpack.is_filled.Goals as goal

pub is_zero_from-requires : goal.is_zero_from-requires
is_zero_from-requires c = omega (arith, length-take (length c.args.words.now - 1) c.args.words.now, c.requires, c.in-len1-up.len_at_least)

pub returns-in-len1-up : goal.returns-in-len1-up
unfolding be64
returns-in-len1-up c =
    let words = c.args.words.now in
    let from = c.args.len - length (take (length words - 1) words) * 8 in
    let behind = behind_front words c.args.len c.requires c.in-len1-up.len_at_least ∙ ap (drop from) (sym c.to_be_bytes.ensures) in
    subst (λ (bytes : List ℕ). IsTrue c.is_zero_from.result ↔ EachIndex bytes (λ k. slice_index bytes k ≡ 0)) (sym behind) c.is_zero_from.ensures
