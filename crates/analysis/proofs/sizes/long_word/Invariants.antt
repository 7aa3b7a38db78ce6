use Rattle.std.proofs.Common.{◌≡◌, [], map}
use Rattle.unicode_segmentation.specs.Iter.{unicode_words_left}
use Rattle.ix_base.specs.Terms.{folded, folded_words, placed_from, long_term}
use Rattle.analysis.proofs.sizes.long_word.Given as goal

abbrev pub invariant-loop-word : goal.invariant-loop-word
invariant-loop-word l = long_term (placed_from 0 [] (map folded (unicode_words_left l.word-iterator))) ≡ long_term (placed_from 0 [] (folded_words l.text))
