use Rattle.std.proofs.Common.{◌≡◌, take}
use Rattle.std.specs.List.{flat_map}
use Rattle.ix_base.specs.Spelling.{be64}
use Rattle.node_words.proofs.unpack.unpack.Given as goal

abbrev pub invariant-loop-word : goal.invariant-loop-word
invariant-loop-word l = l.bytes.items ≡ flat_map be64 (take l.word-index l.held.words.now)
