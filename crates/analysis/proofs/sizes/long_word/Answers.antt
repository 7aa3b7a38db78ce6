use Rattle.std.proofs.Common.{◌≡◌, ◌∷◌, [], None, map, ◌∙◌, sym, ap}
use Rattle.unicode_segmentation.specs.Iter.{unicode_words_left}
use Rattle.ix_base.specs.Terms.{folded, placed_from, long_term}
use Rattle.analysis.proofs.LongTerms.{skip_short_word, long_size}
use Rattle.analysis.proofs.sizes.long_word.Goals as goal

pub loop-word-preserved : goal.loop-word-preserved
loop-word-preserved c =
    let word = folded c.in-Some.word.now in
    let rest = map folded (unicode_words_left c.next.new.self) in
    let bytes : c.as_str.result.now ≡ word = c.as_str.ensures.value ∙ c.in_ok-fold_into.ensures in
    let short : long_size word ≡ None = ap long_size (sym bytes) ∙ sym c.long_size.ensures ∙ c.in_default.is in
    let left : long_term (placed_from 0 [] (map folded (unicode_words_left c.loop-word.word-iterator))) ≡ long_term (placed_from 0 [] (word ∷ rest)) = ap (λ ws. long_term (placed_from 0 [] (map folded ws))) c.in-Some.ensures.steps in
    sym (skip_short_word word rest short) ∙ sym left ∙ c.loop-word.invariant
