use Rattle.std.proofs.Common.{◌≡◌, ◌∙◌, ◌++◌, List, ℕ, ap, map, subst, OnOk, string_bytes}
use Rattle.ix_base.specs.Terms.{folded}
use Rattle.std.specs.Char.{to_ascii_lowercase}
use Rattle.analysis.proofs.AsciiWords.{folded_ascii}
use Rattle.std.specs.Str.Iter.{chars_steps}
use Rattle.std.proofs.lemmas.Iterator.Adapters.{items_from_extend}
use Rattle.unicode_normalization.proofs.IterLemmas.{Spells-chars}
use Rattle.caseless.specs.CaseFold.{CaseFoldSteps}
use Rattle.caseless.proofs.CaselessLemmas.{Spells-CaseFold}
use Rattle.analysis.proofs.words.fold_into.Goals as goal

pub returns-then-is_ascii : goal.returns-then-is_ascii
returns-then-is_ascii c =
    let word = c.args.word.now in
    let copied : string_bytes c.push_str.new.self ≡ word = c.in_ok-push_str.ensures.bytes ∙ ap (λ (l : List ℕ). l ++ word) c.clear.ensures.bytes in
    c.make_ascii_lowercase.ensures.bytes ∙ ap (map to_ascii_lowercase) copied ∙ folded_ascii word c.if-is_ascii.ensures.cases

pub returns : goal.returns
returns c =
    let folds = Spells-CaseFold (c.default_case_fold.ensures.text _ (Spells-chars _ _ c.utf8.word c.chars.ensures.rest)) in
    let spelled = folded c.args.word.now in
    let ran = items_from_extend {steps = CaseFoldSteps chars_steps} {s = c.default_case_fold.result} c.extend.result c.extend.ensures.ran (record { runs = folds }) in
    let done : string_bytes c.extend.new.self ≡ string_bytes c.clear.new.self ++ spelled = subst (λ r. OnOk r (string_bytes c.extend.new.self ≡ string_bytes c.clear.new.self ++ spelled)) c.in_ok-extend.was ran in
    done ∙ ap (λ (l : List ℕ). l ++ spelled) c.clear.ensures.bytes
