use Rattle.std.proofs.Common.{◌+◌, ◌≤◌, map, length}
use Rattle.unicode_segmentation.specs.Iter.{unicode_words_left}
use Rattle.ix_base.specs.Terms.{folded, folded_words}
use Rattle.analysis.proofs.WordPlaces.{WordsLeft}
use Rattle.analysis.proofs.word_lists.WordLists.add_words.Given as goal

abbrev pub invariant-loop-word : goal.invariant-loop-word
invariant-loop-word l = record {
  within : l.position + length (unicode_words_left l.word-iterator) ≤ length l.text;
  left : WordsLeft l.row (folded_words l.text) l.position (map folded (unicode_words_left l.word-iterator)) l.initial.self l.self;
}
