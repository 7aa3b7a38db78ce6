-- The words of a phrase, and lists of positions that follow one another.
use Rattle.std.proofs.Common.{◌≡◌, ℕ, zero, suc, ◌+◌, ◌<◌, List, [], ◌∷◌, ◌++◌, Bool, true, false, ◌&&◌, ◌||◌, cond, nat_lt, drop-cons, length, get_or, take, drop, slice_get, Some, Contains, refl, sym, ap, ◌∙◌, subst, arith}
use Rattle.std.specs.List.{All, AllZip, list_any, filter}
use Rattle.std.specs.Ordering.{eq_by_cmp}
use Rattle.std.specs.Cmp.{Equal-is}
use Rattle.std.proofs.Math.Bool.{and-true, and_assoc}
use Rattle.std.proofs.lemmas.Bool.{and_parts, lt-ltb}
use Rattle.std.proofs.lemmas.List.{get_or_append_left, map-append, length-append, length-take, length-map, take_more, take-append-drop}
use Rattle.std.proofs.lemmas.List.Elements.{All-weaker, All-push, All-head, All-tail, All-append, Contains-append_left, Contains-push}
use Rattle.std.proofs.lemmas.Option.{get_or_from_slice_get}
use Rattle.indexmap.specs.IndexSet.{insert_key}
use Rattle.ix_base.specs.Terms.{terms}
use Rattle.ix_base.specs.Matches.{holds_term, stands_at}
use Rattle.ix_base.specs.Inversion.{has_number, at_row, rows_where, rows_from, term_cmp}
use Rattle.ix_base.proofs.TermOrder.{term_same}
use Rattle.ix_base.specs.Documents.{Document}
use Rattle.ix_base.specs.declared.document.Term.{Term}
use Rattle.query_core.specs.Answers.{ArePositions, holds_all, terms_stand_at, terms_stand}
use Rattle.query_core.specs.Phrases.{in_turn, AreWords, follow_from}
use Rattle.std.proofs.lemmas.List.Folds.{Any-from_list_any}
use Rattle.query_core.proofs.Documents.{at_row-and, at_row-agree, rows_where-agree}
use Rattle.query_core.proofs.Joining.{has_filter, stand_hold, implied}

-- ---- two lists, place by place

module _ {A B : Type 0} (R : A → B → Type 0) where
  pub zip_push : (xs : List A) (ys : List B) (x : A) (y : B) → AllZip R xs ys → R x y → AllZip R (xs ++ x ∷ []) (ys ++ y ∷ [])
  zip_push [] [] x y h r = (r, tt)
  zip_push [] (b ∷ bs) x y h r = absurd h
  zip_push (a ∷ xs) [] x y h r = absurd h
  zip_push (a ∷ xs) (b ∷ ys) x y h r = (h.0, zip_push xs ys x y h.1 r)

  pub zip_get : (xs : List A) (ys : List B) (i : ℕ) (d : A) (e : B) → AllZip R xs ys → i < length xs → R (get_or xs i d) (get_or ys i e)
  zip_get [] ys i d e h lt = absurd (omega arith)
  zip_get (a ∷ xs) [] i d e h lt = absurd h
  zip_get (a ∷ xs) (b ∷ ys) zero d e h lt = h.0
  zip_get (a ∷ xs) (b ∷ ys) (suc i) d e h lt = zip_get xs ys i d e h.1 (omega arith)

  pub zip_each : (P : B → Type 0) (xs : List A) (ys : List B) → ((x : A) (y : B) → R x y → P y) → AllZip R xs ys → All P ys
  zip_each P [] [] f h = λ k d lt. absurd (omega arith)
  zip_each P [] (b ∷ ys) f h = absurd h
  zip_each P (a ∷ xs) [] f h = absurd h
  zip_each P (a ∷ xs) (b ∷ ys) f h = go (f a b h.0) (zip_each P xs ys f h.1)
    where
      go : P b → All P ys → All P (b ∷ ys)
      go p q zero d lt = p
      go p q (suc k) d lt = q k d (omega arith)

-- ---- one more word

-- elements at places that are there stay where the list grows
turn_grown : {X : Type 0} (d : X) (xs ys : List X) (order : List ℕ) → All (λ i. i < length xs) order → in_turn d (xs ++ ys) order ≡ in_turn d xs order
turn_grown d xs ys [] within = refl
turn_grown d xs ys (i ∷ order) within =
    λ k. get_or_append_left xs ys d i (All-head (λ i. i < length xs) i order within) k ∷ turn_grown d xs ys order (All-tail (λ i. i < length xs) i order within) k

module _ (terms : List Term) (order : List ℕ) (words : List Term) (is : AreWords terms order words) (term : Term) (at : ℕ) where
  same_term : (k : Term) → eq_by_cmp term_cmp term k ≡ true → k ≡ term
  same_term k e = sym (term_same term k ((Equal-is (term_cmp term k)).0 e))

  -- the terms, with others behind them
  grown : (more : List Term) → All (λ t. t ≡ term) more → at < length (terms ++ more) → ((d : Term) → get_or (terms ++ more) at d ≡ term) → AreWords (terms ++ more) (order ++ at ∷ []) (words ++ term ∷ [])
  grown more only lt stored =
      record {
        within = All-push (λ i. i < length (terms ++ more)) order at (All-weaker (λ i. i < length terms) (λ i. i < length (terms ++ more)) (λ i l. omega (arith, length-append terms more)) order is.within) lt;
        are = λ d. map-append (λ i. get_or (terms ++ more) i d) order (at ∷ [])
            ∙ ap (λ (l : List Term). l ++ get_or (terms ++ more) at d ∷ []) (turn_grown d terms more order is.within ∙ is.are d)
            ∙ ap (λ (t : Term). words ++ t ∷ []) (stored d);
        needed = All-append (Contains (words ++ term ∷ [])) terms more
            (All-weaker (Contains words) (Contains (words ++ term ∷ [])) (λ t c. Contains-append_left words (term ∷ []) t c) terms is.needed)
            (All-weaker (λ t. t ≡ term) (Contains (words ++ term ∷ [])) (λ t e. subst (Contains (words ++ term ∷ [])) (sym e) (Contains-push words term)) more only);
      }

  pub words_push : (keys : List Term) (k : Term) → keys ≡ insert_key (eq_by_cmp term_cmp) terms term → at < length keys → slice_get keys at ≡ Some k → eq_by_cmp term_cmp term k ≡ true → AreWords keys (order ++ at ∷ []) (words ++ term ∷ [])
  words_push keys k e lt there same = by (list_any (eq_by_cmp term_cmp term) terms) refl
    where
      none : All (λ (t : Term). t ≡ term) []
      none i d l = absurd (omega arith)

      one : All (λ (t : Term). t ≡ term) (term ∷ [])
      one zero d l = refl
      one (suc i) d l = absurd (omega arith)

      stored : (d : Term) → get_or keys at d ≡ term
      stored d = get_or_from_slice_get keys at k d there ∙ same_term k same

      put : (more : List Term) → All (λ t. t ≡ term) more → keys ≡ terms ++ more → AreWords keys (order ++ at ∷ []) (words ++ term ∷ [])
      put more only g =
          subst (λ (l : List Term). AreWords l (order ++ at ∷ []) (words ++ term ∷ [])) (sym g)
          (grown more only (subst (λ (l : List Term). at < length l) g lt) (subst (λ (l : List Term). (d : Term) → get_or l at d ≡ term) g stored))

      by : (b : Bool) → list_any (eq_by_cmp term_cmp term) terms ≡ b → AreWords keys (order ++ at ∷ []) (words ++ term ∷ [])
      by true h = put [] none (e ∙ ap (λ (c : Bool). cond c terms (terms ++ term ∷ [])) h ∙ sym (append_nothing terms))
        where
          append_nothing : (l : List Term) → l ++ [] ≡ l
          append_nothing [] = refl
          append_nothing (x ∷ xs) = ap (λ (t : List Term). x ∷ t) (append_nothing xs)
      by false h = put (term ∷ []) one (e ∙ ap (λ (c : Bool). cond c terms (terms ++ term ∷ [])) h)

pub words_long : (terms : List Term) (order : List ℕ) (words : List Term) → AreWords terms order words → length words ≡ length order
words_long terms order words is = let none : Term = record { field = []; bytes = [] } in ap length (sym (is.are none)) ∙ length-map order (λ i. get_or terms i none)

-- ---- lists that follow one another

pub follow-append : (xs ys : List (List ℕ)) (at : ℕ) → follow_from (xs ++ ys) at ≡ (follow_from xs at && follow_from ys (at + length xs))
follow-append [] ys at = ap (follow_from ys) (let e : at ≡ at + 0 = omega arith in e)
follow-append (x ∷ xs) ys at =
    ap (λ (b : Bool). has_number x at && b) (follow-append xs ys (at + 1))
    ∙ sym (and_assoc (has_number x at) (follow_from xs (at + 1)) (follow_from ys (at + 1 + length xs)))
    ∙ ap (λ (n : ℕ). (has_number x at && follow_from xs (at + 1)) && follow_from ys n) (let e : at + 1 + length xs ≡ at + suc (length xs) = omega arith in e)

-- where the first of the lists have no start, all have none
pub follow_none : (all : List (List ℕ)) (i at : ℕ) → follow_from (take i all) at ≡ false → follow_from all at ≡ false
follow_none all i at h =
    ap (λ (l : List (List ℕ)). follow_from l at) (sym (take-append-drop i all)) ∙ follow-append (take i all) (drop i all) at ∙ ap (λ (b : Bool). b && follow_from (drop i all) (at + length (take i all))) h

-- one more list
pub follow_more : (all : List (List ℕ)) (i at : ℕ) (places : List ℕ) → i < length all → get_or all i [] ≡ places
    → follow_from (take (i + 1) all) at ≡ (follow_from (take i all) at && has_number places (at + i))
follow_more all i at places in' is =
    let long : length (take i all) ≡ i = omega (arith, length-take i all) in
    ap (λ (l : List (List ℕ)). follow_from l at) (take_more all i [] in')
    ∙ follow-append (take i all) (get_or all i [] ∷ []) at
    ∙ ap (λ (n : ℕ). follow_from (take i all) at && (has_number (get_or all i []) (at + n) && true)) long
    ∙ ap (λ (l : List ℕ). follow_from (take i all) at && (has_number l (at + i) && true)) is
    ∙ ap (λ (b : Bool). follow_from (take i all) at && b) (and-true (has_number places (at + i)))

-- ---- a run of lists

both_same : (b c : Bool) → (b && (b && c)) ≡ (b && c)
both_same true c = refl
both_same false c = refl

-- whether some number passes is whether any is left of those that do
some_left : (f : ℕ → Bool) (xs : List ℕ) → list_any f xs ≡ nat_lt 0 (length (filter f xs))
some_left f [] = refl
some_left f (x ∷ xs) = by (f x) (some_left f xs)
  where
    by : (b : Bool) → list_any f xs ≡ nat_lt 0 (length (filter f xs)) → (b || list_any f xs) ≡ nat_lt 0 (length (cond b (x ∷ filter f xs) (filter f xs)))
    by true more = sym (lt-ltb 0 (suc (length (filter f xs))) (omega arith))
    by false more = more

pub run_starts : (lists : List (List ℕ)) (order : List ℕ) (at : ℕ) → 0 < length order
    → has_number (filter (follow_from (in_turn [] lists order)) (get_or lists (get_or order 0 0) [])) at ≡ follow_from (in_turn [] lists order) at
run_starts lists [] at lt = absurd (omega arith)
run_starts lists (o ∷ order) at lt =
    has_filter (follow_from (in_turn [] lists (o ∷ order))) (get_or lists o []) at
    ∙ both_same (has_number (get_or lists o []) at) (follow_from (in_turn [] lists order) (at + 1))

pub any_start : (lists : List (List ℕ)) (order : List ℕ)
    → list_any (follow_from (in_turn [] lists order)) (get_or lists (get_or order 0 0) []) ≡ nat_lt 0 (length (filter (follow_from (in_turn [] lists order)) (get_or lists (get_or order 0 0) [])))
any_start lists order = some_left (follow_from (in_turn [] lists order)) (get_or lists (get_or order 0 0) [])

-- where a row's positions of the different terms follow one another, the words stand
module _ (docs : List Document) (row : ℕ) (different : List Term) (lists : List (List ℕ)) (each : AllZip (λ t xs. ArePositions docs t row xs) different lists) (d : Term) where
  here : (i at : ℕ) → i < length different → has_number (get_or lists i []) at ≡ at_row (λ doc. stands_at (terms doc) (get_or different i d).field (get_or different i d).bytes at) docs row
  here i at lt = (zip_get (λ t xs. ArePositions docs t row xs) different lists i d [] each lt).exact at

  pub follows : (order : List ℕ) → 0 < length order → All (λ i. i < length different) order → (at : ℕ) → follow_from (in_turn [] lists order) at ≡ at_row (λ doc. terms_stand_at (terms doc) (in_turn d different order) at) docs row
  follows [] lt within at = absurd (omega arith)
  follows (i ∷ []) lt within at =
      let t = get_or different i d in
      and-true (has_number (get_or lists i []) at)
      ∙ here i at (All-head (λ i. i < length different) i [] within)
      ∙ at_row-agree (λ doc. stands_at (terms doc) t.field t.bytes at) (λ doc. terms_stand_at (terms doc) (t ∷ []) at) docs row (λ doc. sym (and-true (stands_at (terms doc) t.field t.bytes at)))
  follows (i ∷ j ∷ order) lt within at =
      let t = get_or different i d in
      let first = here i at (All-head (λ i. i < length different) i (j ∷ order) within) in
      let rest = follows (j ∷ order) (omega arith) (All-tail (λ i. i < length different) i (j ∷ order) within) (at + 1) in
      (λ n. first n && rest n)
      ∙ sym (at_row-and (λ doc. stands_at (terms doc) t.field t.bytes at) (λ doc. terms_stand_at (terms doc) (in_turn d different (j ∷ order)) (at + 1)) docs row)

-- ---- rows

hold_at : (words : List Term) (k : ℕ) (t : Term) (doc : Document) → k < length words → get_or words k t ≡ t → holds_all words doc ≡ true → holds_term t.field t.bytes doc ≡ true
hold_at [] k t doc lt e h = absurd (omega arith)
hold_at (w ∷ words) zero t doc lt e h = ap (λ (x : Term). holds_term x.field x.bytes doc) (sym e) ∙ (and_parts (holds_term w.field w.bytes doc) (holds_all words doc) h).0
hold_at (w ∷ words) (suc k) t doc lt e h = hold_at words k t doc (omega arith) e (and_parts (holds_term w.field w.bytes doc) (holds_all words doc) h).1

hold_needed : (different words : List Term) (doc : Document) → All (Contains words) different → holds_all words doc ≡ true → holds_all different doc ≡ true
hold_needed [] words doc needed h = refl
hold_needed (t ∷ different) words doc needed h =
    let c = All-head (Contains words) t different needed in
    let first : holds_term t.field t.bytes doc ≡ true = hold_at words c.0 t doc c.1 c.2 h in
    (λ n. first n && hold_needed different words doc (All-tail (Contains words) t different needed) h n)

-- the rows that hold the different terms and in which the words stand are those in which they stand
pub standing_rows : (different words : List Term) (docs : List Document) → All (Contains words) different → rows_where (λ d. holds_all different d && terms_stand words d) docs ≡ rows_where (terms_stand words) docs
standing_rows different words docs needed =
    rows_where-agree (λ d. holds_all different d && terms_stand words d) (terms_stand words) docs
    (λ d. implied (holds_all different d) (terms_stand words d) (λ h.
    let a = Any-from_list_any (λ place. terms_stand_at (terms d) words place.position) (terms d) h in
    hold_needed different words d needed (stand_hold words d a.1.position a.4)))

neither : (a b : Bool) (n : ℕ) (more fewer : List ℕ) → (b ≡ true → a ≡ true) → (more ≡ [] → fewer ≡ []) → cond a (n ∷ more) more ≡ [] → cond b (n ∷ fewer) fewer ≡ []
neither true b n more fewer implies rest e = cc
neither false true n more fewer implies rest e = let q : false ≡ true = implies refl in cc
neither false false n more fewer implies rest e = rest e

none_narrower : (first second : Document → Bool) (n : ℕ) (docs : List Document) → ((d : Document) → second d ≡ true → first d ≡ true) → rows_from n first docs ≡ [] → rows_from n second docs ≡ []
none_narrower first second n [] f e = refl
none_narrower first second n (doc ∷ docs) f e = neither (first doc) (second doc) n (rows_from (n + 1) first docs) (rows_from (n + 1) second docs) (f doc) (none_narrower first second (n + 1) docs f) e

hold_take : (words : List Term) (i : ℕ) (doc : Document) → holds_all words doc ≡ true → holds_all (take i words) doc ≡ true
hold_take [] zero doc h = refl
hold_take [] (suc i) doc h = refl
hold_take (w ∷ words) zero doc h = refl
hold_take (w ∷ words) (suc i) doc h =
    let parts = and_parts (holds_term w.field w.bytes doc) (holds_all words doc) h in
    (λ n. parts.0 n && hold_take words i doc parts.1 n)

-- where no row holds the first of the terms, none holds them all
pub none_hold : (words : List Term) (i : ℕ) (docs : List Document) (rows : List ℕ) → rows ≡ [] → rows ≡ rows_where (holds_all (take i words)) docs → rows ≡ rows_where (holds_all words) docs
none_hold words i docs rows none is = none ∙ sym (none_narrower (holds_all (take i words)) (holds_all words) 0 docs (λ d. hold_take words i d) (sym is ∙ none))
