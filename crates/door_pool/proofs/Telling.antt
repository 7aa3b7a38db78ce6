-- What the rule says of a door.
use Rattle.std.proofs.Common.{◌≡◌, ◌∙◌, ℕ, suc, ◌+◌, ◌<◌, ◌≤◌, Bool, true, false, List, sym, ap, inl, inr, arith, true≢false}
use Rattle.std.specs.Prelude.{slice_index, Option}
use mathlib.Core.Logic.{dite}
use native.Mathlib.Decide.{dec_le}
use Rattle.atomic_table.specs.Table.{State}
use Rattle.door_pool.specs.declared.view.View.{View}
use Rattle.door_pool.specs.Rule.{Kept, word_of}
use Rattle.door_pool.specs.Laws.{WordIsOneOfThree, OneWherePassIsIn, TwoWhereTaken, HandAtHome}
use Rattle.door_pool.proofs.Words.{bool_cases}

module _ {H D T : Type 0} (deed_of : H → D) (told_of : H → List T) where
  word_is : (n : ℕ) (s : State (Option H) (View D T)) (k : Kept deed_of told_of n s) (c : ℕ) → c < n → (i t : Bool)
      → k.inside c ≡ i → k.taken c ≡ t → slice_index s.words (c + 2) ≡ word_of i t
  word_is n s k c lt i t is_in is_taken = k.word c lt ∙ ap (λ (b : Bool). word_of b (k.taken c)) is_in ∙ ap (word_of i) is_taken

  pub three_words : WordIsOneOfThree deed_of told_of
  three_words n s k c lt = bool_cases (k.taken c) _
      (λ yes. inr (inr (k.word c lt ∙ ap (word_of (k.inside c)) yes)))
      (λ no. bool_cases (k.inside c) _
      (λ is_in. inr (inl (word_is n s k c lt true false is_in no)))
      (λ is_out. inl (word_is n s k c lt false false is_out no)))

  -- a door that is entered has its pass
  in_made : (n : ℕ) (s : State (Option H) (View D T)) (k : Kept deed_of told_of n s) (c : ℕ) → k.inside c ≡ true → c < k.made
  in_made n s k c is_in = dite (dec_le (suc c) k.made) (λ (le : suc c ≤ k.made). omega (arith, le))
      (λ (no : suc c ≤ k.made → ⊥). absurd (true≢false (sym is_in ∙ (k.later c (λ lt. no (omega (arith, lt)))).0)))

  pub one_where_in : OneWherePassIsIn deed_of told_of
  one_where_in n s k c lt = (
    (λ one. bool_cases (k.taken c) _
        (λ yes. let two : slice_index s.words (c + 2) ≡ 2 = k.word c lt ∙ ap (word_of (k.inside c)) yes in absurd (omega (arith, one, two)))
        (λ no. bool_cases (k.inside c) _
        (λ is_in.
        let has = k.passes_there c (in_made n s k c is_in) in
        let f = (k.fits (k.holder c) has.0 has.1).pass has.2.0 in
        (k.holder c, (has.0, has.1, (has.2.0, has.2.1, f.5 ∙ ap k.inside has.2.1 ∙ is_in))))
        (λ is_out. let zero_there = word_is n s k c lt false false is_out no in absurd (omega (arith, one, zero_there))))),
    (λ has.
        let v = has.1.0 in
        let is = has.1.2 in
        let f = (k.fits has.0 v has.1.1).pass is.0 in
        let is_in : k.inside c ≡ true = ap k.inside (sym is.1) ∙ sym f.5 ∙ is.2 in
        word_is n s k c lt true false is_in (k.one c is_in)),
  )

  pub two_where_taken : TwoWhereTaken deed_of told_of
  two_where_taken n s k c lt = (
    (λ two. bool_cases (k.taken c) _
        (λ yes.
        let has = k.keeper_there in
        let f = (k.fits k.keeper has.0 has.1).keeper_is has.2 in
        (k.keeper, (has.0, has.1, (has.2, (f.3 c lt).1 ∙ yes))))
        (λ no. bool_cases (k.inside c) _
        (λ is_in. let one = word_is n s k c lt true false is_in no in absurd (omega (arith, one, two)))
        (λ is_out. let zero_there = word_is n s k c lt false false is_out no in absurd (omega (arith, two, zero_there))))),
    (λ has.
        let v = has.1.0 in
        let f = (k.fits has.0 v has.1.1).keeper_is has.1.2.0 in
        k.word c lt ∙ ap (word_of (k.inside c)) (sym (f.3 c lt).1 ∙ has.1.2.1)),
  )

  pub hand_at_home : HandAtHome deed_of told_of
  hand_at_home n s k c lt zero_there = bool_cases (k.taken c) _
      (λ yes. let two : slice_index s.words (c + 2) ≡ 2 = k.word c lt ∙ ap (word_of (k.inside c)) yes in absurd (omega (arith, zero_there, two)))
      (λ no. bool_cases (k.inside c) _
      (λ is_in. let one = word_is n s k c lt true false is_in no in absurd (omega (arith, one, zero_there)))
      (λ is_out.
      let h = k.at_home c lt is_out no in (
        h.0,
        h.1,
        (λ id v got is_pass door.
            let f = (k.fits id v got).pass is_pass in
            (f.3 ∙ ap k.deed door ∙ sym h.2, f.4 ∙ ap k.told door ∙ sym h.3)),
        (λ id v got is_keeper. (((k.fits id v got).keeper_is is_keeper).3 c lt).0 ∙ sym h.2),
      )))
