use Rattle.std.proofs.Common.{◌∙◌, ℕ, List, refl, arith}
use Rattle.merge_postings.proofs.KeyOrder.{beyond, key_seven}
use Rattle.merge_postings.proofs.key.first_seven.Goals as goal

pub returns-in-len7-up-clause-value : goal.returns-in-len7-up-clause-value
returns-in-len7-up-clause-value c = c.seven_of-in-len7-up.ensures.value ∙ key_seven _ c.args.bytes.now refl refl refl refl refl refl refl

pub returns-in-empty-clause-value : goal.returns-in-empty-clause-value
returns-in-empty-clause-value c =
    let bytes : List ℕ = c.args.bytes.now in
    c.seven_of.ensures.value ∙ key_seven _ bytes (beyond bytes 0 (omega arith)) (beyond bytes 1 (omega arith)) (beyond bytes 2 (omega arith)) (beyond bytes 3 (omega arith)) (beyond bytes 4 (omega arith)) (beyond bytes 5 (omega arith)) (beyond bytes 6 (omega arith))

pub returns-in-len1-clause-value : goal.returns-in-len1-clause-value
returns-in-len1-clause-value c =
    let bytes : List ℕ = c.args.bytes.now in
    c.seven_of-in-len1.ensures.value ∙ key_seven _ bytes refl (beyond bytes 1 (omega arith)) (beyond bytes 2 (omega arith)) (beyond bytes 3 (omega arith)) (beyond bytes 4 (omega arith)) (beyond bytes 5 (omega arith)) (beyond bytes 6 (omega arith))

pub returns-in-len2-clause-value : goal.returns-in-len2-clause-value
returns-in-len2-clause-value c =
    let bytes : List ℕ = c.args.bytes.now in
    c.seven_of-in-len2.ensures.value ∙ key_seven _ bytes refl refl (beyond bytes 2 (omega arith)) (beyond bytes 3 (omega arith)) (beyond bytes 4 (omega arith)) (beyond bytes 5 (omega arith)) (beyond bytes 6 (omega arith))

pub returns-in-len3-clause-value : goal.returns-in-len3-clause-value
returns-in-len3-clause-value c =
    let bytes : List ℕ = c.args.bytes.now in
    c.seven_of-in-len3.ensures.value ∙ key_seven _ bytes refl refl refl (beyond bytes 3 (omega arith)) (beyond bytes 4 (omega arith)) (beyond bytes 5 (omega arith)) (beyond bytes 6 (omega arith))

pub returns-in-len4-clause-value : goal.returns-in-len4-clause-value
returns-in-len4-clause-value c =
    let bytes : List ℕ = c.args.bytes.now in
    c.seven_of-in-len4.ensures.value ∙ key_seven _ bytes refl refl refl refl (beyond bytes 4 (omega arith)) (beyond bytes 5 (omega arith)) (beyond bytes 6 (omega arith))

pub returns-in-len5-clause-value : goal.returns-in-len5-clause-value
returns-in-len5-clause-value c =
    let bytes : List ℕ = c.args.bytes.now in
    c.seven_of-in-len5.ensures.value ∙ key_seven _ bytes refl refl refl refl refl (beyond bytes 5 (omega arith)) (beyond bytes 6 (omega arith))

pub returns-in-len6-clause-value : goal.returns-in-len6-clause-value
returns-in-len6-clause-value c =
    let bytes : List ℕ = c.args.bytes.now in
    c.seven_of-in-len6.ensures.value ∙ key_seven _ bytes refl refl refl refl refl refl (beyond bytes 6 (omega arith))
