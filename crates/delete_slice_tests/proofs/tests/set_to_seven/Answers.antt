use Rattle.std.proofs.Common.{[], ◌∷◌, pos, codes, refl, arith, rules}
use Rattle.std.proofs.lemmas.Str.{IsUtf8-from_ascii}
use Rattle.ix_base.specs.Entry as e
use Rattle.ix_base.specs.Spelling.{be32, signed64}
use Rattle.ix_base.specs.Words.{IsEntryWords, first_word}
use Rattle.delete_queue.specs.Answers.{IsOperation}
use Rattle.delete_slice_tests.proofs.tests.set_to_seven.Goals as goal

is_set : IsOperation (21474836509 ∷ 14686714112 ∷ 5915820647525 ∷ 6140461056 ∷ 117440512 ∷ [])
unfolding IsEntryWords first_word be32 signed64
is_set = record {
  grammar = (
    e.set_number (record { field = codes "key"; bytes = codes "abcde" }) (codes "n") (pos 7),
    record {
      fits = (
        record {
          field = record { utf8 = IsUtf8-from_ascii (codes "key") (search rules); fits = refl };
          text = record { utf8 = IsUtf8-from_ascii (codes "abcde") (search rules); short = omega arith };
          short = omega arith;
        },
        record { utf8 = IsUtf8-from_ascii (codes "n") (search rules); fits = refl },
        search rules,
      );
      spelled = refl;
    },
  );
  kind = omega arith;
}

pub returns : goal.returns
returns c = is_set
