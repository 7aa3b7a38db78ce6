use Rattle.std.proofs.Common.{◌≡◌, ◌++◌, map}
use Rattle.unicode_segmentation.specs.Iter.{unicode_words_left}
use Rattle.ix_base.specs.Terms.{folded, folded_words}
use Rattle.analysis.proofs.words.phrase_terms.Given as goal

abbrev pub invariant-loop-word : goal.invariant-loop-word
invariant-loop-word l = l.words.items ++ map folded (unicode_words_left l.word-iterator) ≡ folded_words l.text
