-- The search lines of each caller that stand behind one commit line, answered one by one.
use Rattle.std.proofs.Common.{◌≡◌, ◌≢◌, ◌∙◌, ℕ, zero, suc, ◌+◌, ◌<◌, ◌≤◌, List, [], ◌∷◌, ◌++◌, length, take, drop, refl, sym, ap, subst, arith}
use Rattle.std.proofs.Common.{append-nil, append_assoc}
use Rattle.std.specs.Prelude.{slice_index_or, slice_set}
use Rattle.std.proofs.Math.ListN.{drop_of_length-le, get_or}
use Rattle.std.proofs.Math.Seq.{drop-cons, take-add}
use Rattle.std.proofs.lemmas.List.{drop-drop, length-append}
use Rattle.std.specs.Global.{Vec}
use Rattle.std.specs.List.{AllByRecursion, AllZip}
use Rattle.index_writer.specs.declared.state.State.{State}
use Rattle.line_shares.proofs.LineLaws.{zip_more}
use Rattle.line_shares.specs.declared.asks.Ask.{Ask}
use Rattle.index_run.specs.Answered.{AllAnswerBehind, AnswersBehind, IsAnswerBehind, IsNone}

-- ---- one caller

-- more of its search lines were answered, of those behind the commit line at this place
pub record AnswersSoFar (w : State) (place : ℕ) (asks : List Ask) (old texts : List (List ℕ)) : Type 0 where
  pub more : List (List ℕ)
  pub texts_are : texts ≡ old ++ more
  pub answers : AllZip (IsAnswerBehind w place) (take (length more) (drop (length old) asks)) more

pub so_far_first : (w : State) (place : ℕ) (asks : List Ask) (old : List (List ℕ)) → AnswersSoFar w place asks old old
so_far_first w place asks old = record { more = []; texts_are = sym (append-nil old); answers = tt }

-- one line more
pub so_far_next : (w : State) (place : ℕ) (asks : List Ask) (old texts : List (List ℕ)) (at : ℕ) (a : Ask) (text : List ℕ)
    → AnswersSoFar w place asks old texts → at ≡ length texts → at < length asks → get_or asks at a ≡ a
    → IsAnswerBehind w place a text → AnswersSoFar w place asks old (texts ++ text ∷ [])
so_far_next w place asks old texts at a text far at_is inside is answer = record {
  more = far.more ++ text ∷ [];
  texts_are =
      ap (λ (ts : List (List ℕ)). ts ++ text ∷ []) far.texts_are ∙ append_assoc old far.more (text ∷ []);
  answers =
      subst (λ (these : List Ask). AllZip (IsAnswerBehind w place) these (far.more ++ text ∷ [])) (sym taken)
      (zip_more (IsAnswerBehind w place) (take (length far.more) left) far.more a text far.answers answer);
}
  where
    left : List Ask
    left = drop (length old) asks

    place_in : at ≡ length old + length far.more
    place_in = at_is ∙ ap length far.texts_are ∙ length-append old far.more

    here : drop (length far.more) left ≡ a ∷ drop (suc at) asks
    here =
        drop-drop (length far.more) (length old) asks ∙ ap (λ (n : ℕ). drop n asks) (sym place_in)
        ∙ drop-cons asks at a inside ∙ ap (λ (x : Ask). x ∷ drop (suc at) asks) is

    taken : take (length (far.more ++ text ∷ [])) left ≡ take (length far.more) left ++ a ∷ []
    taken =
        ap (λ (n : ℕ). take n left) (length-append far.more (text ∷ []))
        ∙ take-add (length far.more) 1 left
        ∙ ap (λ (these : List Ask). take (length far.more) left ++ take 1 these) here

-- all lines are answered, or the next one stands behind another commit line
pub so_far_all : (w : State) (place : ℕ) (asks : List Ask) (old texts : List (List ℕ)) → AnswersSoFar w place asks old texts
    → length asks ≤ length texts → AnswersBehind w place asks old texts
so_far_all w place asks old texts far most = record {
  more = far.more;
  new_is = far.texts_are;
  answers = far.answers;
  next = λ a rest at. absurd (let none : [] ≡ a ∷ rest = sym (drop_of_length-le asks most) ∙ at in cc);
}

pub so_far_other : (w : State) (place : ℕ) (asks : List Ask) (old texts : List (List ℕ)) (at : ℕ) (a : Ask)
    → AnswersSoFar w place asks old texts → at ≡ length texts → at < length asks → get_or asks at a ≡ a → a.behind ≢ place
    → AnswersBehind w place asks old texts
so_far_other w place asks old texts at a far at_is inside is other = record {
  more = far.more;
  new_is = far.texts_are;
  answers = far.answers;
  next = λ b rest here same.
      let both : a ∷ drop (suc at) asks ≡ b ∷ rest =
      ap (λ (x : Ask). x ∷ drop (suc at) asks) (sym is) ∙ sym (drop-cons asks at a inside)
      ∙ ap (λ (n : ℕ). drop n asks) at_is ∙ here in
      other (ap (λ (these : List Ask). behind_in these a) both ∙ same);
}
  where
    behind_in : List Ask → Ask → ℕ
    behind_in [] d = d.behind
    behind_in (x ∷ xs) d = x.behind

-- ---- all callers

-- The first of the callers' search lines were answered, and the texts of the others are as they were.
abbrev pub AnswersUpTo : State → ℕ → ℕ → List (Vec Ask) → List (Vec (List ℕ)) → List (Vec (List ℕ)) → Type 0
AnswersUpTo w place zero asks olds news = (news ≡ olds) × (length news ≡ length asks)
AnswersUpTo w place (suc n) (a ∷ asks) (o ∷ olds) (t ∷ news) =
    AnswersBehind w place a.items o.items t.items × AnswersUpTo w place n asks olds news
AnswersUpTo w place (suc n) asks olds news = ⊥

pub up_to_next : (w : State) (place n : ℕ) (asks : List (Vec Ask)) (olds news : List (Vec (List ℕ))) (a : Vec Ask)
    (own new : Vec (List ℕ)) → AnswersUpTo w place n asks olds news → n < length asks → slice_index_or asks n a ≡ a
    → slice_index_or news n own ≡ own → AnswersBehind w place a.items own.items new.items
    → AnswersUpTo w place (suc n) asks olds (slice_set news n new)
up_to_next w place zero [] olds news a own new up inside a_is own_is answers = absurd (omega (arith, inside))
up_to_next w place zero (x ∷ asks) olds [] a own new up inside a_is own_is answers =
    absurd (let count = up.1 in omega (arith, count))
up_to_next w place zero (x ∷ asks) [] (t ∷ news) a own new up inside a_is own_is answers =
    absurd (let count = ap length up.0 in omega (arith, count))
up_to_next w place zero (x ∷ asks) (o ∷ olds) (t ∷ news) a own new up inside a_is own_is answers =
    let first : t ≡ o = ap (λ (ts : List (Vec (List ℕ))). first_or ts t) up.0 in
    let rest : news ≡ olds = ap (λ (ts : List (Vec (List ℕ))). drop 1 ts) up.0 in (
      subst (λ (before : Vec (List ℕ)). AnswersBehind w place x.items before.items new.items) (sym own_is ∙ first)
          (subst (λ (v : Vec Ask). AnswersBehind w place v.items own.items new.items) (sym a_is) answers),
      (rest, (let count = up.1 in omega (arith, count))),
    )
  where
    first_or : List (Vec (List ℕ)) → Vec (List ℕ) → Vec (List ℕ)
    first_or [] d = d
    first_or (y ∷ ys) d = y
up_to_next w place (suc n) [] olds news a own new up inside a_is own_is answers = absurd (omega (arith, inside))
up_to_next w place (suc n) (x ∷ asks) [] news a own new up inside a_is own_is answers = absurd up
up_to_next w place (suc n) (x ∷ asks) (o ∷ olds) [] a own new up inside a_is own_is answers = absurd up
up_to_next w place (suc n) (x ∷ asks) (o ∷ olds) (t ∷ news) a own new up inside a_is own_is answers =
    (up.0, up_to_next w place n asks olds news a own new up.1 (omega (arith, inside)) a_is own_is answers)

pub up_to_all : (w : State) (place n : ℕ) (asks : List (Vec Ask)) (olds news : List (Vec (List ℕ)))
    → AnswersUpTo w place n asks olds news → n ≡ length asks → AllAnswerBehind w place asks olds news
up_to_all w place zero [] [] [] up all = tt
up_to_all w place zero [] (o ∷ olds) [] up all = absurd (let count = ap length up.0 in omega (arith, count))
up_to_all w place zero [] olds (t ∷ news) up all = absurd (let count = up.1 in omega (arith, count))
up_to_all w place zero (a ∷ asks) olds news up all = absurd (omega (arith, all))
up_to_all w place (suc n) [] olds news up all = absurd (omega (arith, all))
up_to_all w place (suc n) (a ∷ asks) [] news up all = absurd up
up_to_all w place (suc n) (a ∷ asks) (o ∷ olds) [] up all = absurd up
up_to_all w place (suc n) (a ∷ asks) (o ∷ olds) (t ∷ news) up all =
    (up.0, up_to_all w place n asks olds news up.1 (omega (arith, all)))

-- ---- nothing is answered

pub none_more : (texts : List (Vec (List ℕ))) (v : Vec (List ℕ)) → AllByRecursion IsNone texts → v.items ≡ []
    → AllByRecursion IsNone (texts ++ v ∷ [])
none_more [] v none empty = (empty, tt)
none_more (t ∷ texts) v none empty = (none.0, none_more texts v none.1 empty)

-- as many callers have texts as have search lines
pub behind_count : (w : State) (place : ℕ) (asks : List (Vec Ask)) (olds news : List (Vec (List ℕ)))
    → AllAnswerBehind w place asks olds news → length news ≡ length asks
behind_count w place [] [] [] are = refl
behind_count w place [] [] (t ∷ news) are = absurd are
behind_count w place [] (o ∷ olds) news are = absurd are
behind_count w place (a ∷ asks) [] news are = absurd are
behind_count w place (a ∷ asks) (o ∷ olds) [] are = absurd are
behind_count w place (a ∷ asks) (o ∷ olds) (t ∷ news) are = ap suc (behind_count w place asks olds news are.1)
