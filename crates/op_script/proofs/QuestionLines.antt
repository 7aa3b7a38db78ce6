-- Questions read one after another.
use Rattle.std.proofs.Common.{◌≡◌, ◌∙◌, ℕ, ◌<◌, ◌≤◌, List, [], ◌∷◌, ◌++◌, length, Result, Ok, Err, refl, sym, ap, append_assoc}
use Rattle.std.proofs.lemmas.Bool.{lt-ltb, le-ltb}
use Rattle.std.proofs.lemmas.List.{append-nil}
use Rattle.op_script.specs.Lines.{lines_of}
use Rattle.op_script.specs.Language.{most_bytes}
use Rattle.op_script.specs.Questions.{questions, questions_from, and_then, before, onto}
use Rattle.op_script.specs.declared.questions.Question.{Question}
use Rattle.op_script.specs.declared.script.BadLine.{BadLine}
use Rattle.op_script.specs.declared.script.Why.TheVariants as why

pub questions_long : (input : List ℕ) → most_bytes < length input → questions input ≡ Err (record { line = 0; why = why.Long })
unfolding questions
questions_long input long = rw (lt-ltb _ _ long) refl

pub questions_short : (input : List ℕ) → length input ≤ most_bytes → questions input ≡ questions_from 1 (lines_of input)
unfolding questions
questions_short input short = rw (le-ltb _ _ short) refl

-- one question more
pub onto-before : (done : List Question) (q : Question) (rest : Result (List Question) BadLine) → onto done (before (Ok q) rest) ≡ onto (done ++ q ∷ []) rest
onto-before done q (Err bad) = refl
onto-before done q (Ok more) = ap Ok (sym (append_assoc done (q ∷ []) more))

-- the last line is read
pub all_read : (done new : List Question) (at : ℕ) (text all : List ℕ) → onto done (questions_from at (lines_of text)) ≡ questions_from 1 (lines_of all) → lines_of text ≡ text ∷ []
    → ((rest : Result (List Question) BadLine) → onto done (and_then at text rest) ≡ onto new rest) → questions_from 1 (lines_of all) ≡ Ok new
all_read done new at text all read last next =
    sym read ∙ ap (λ texts. onto done (questions_from at texts)) last ∙ next (Ok []) ∙ ap Ok (append-nil new)
