-- Rows of two tests, and words that stand one after another.
use Rattle.std.proofs.Common.{◌≡◌, ℕ, zero, suc, ◌+◌, ◌<◌, ◌≤◌, List, [], ◌∷◌, ◌++◌, Bool, true, false, not, ◌&&◌, ◌||◌, ◌==◌, cond, length, get_or, take, map, nat_lt, Option, Some, None, MatchOption, Vec, Global, refl, sym, ap, ◌∙◌, subst, arith}
use Rattle.std.specs.List.{list_any, filter}
use Rattle.std.proofs.Math.Bool.{and-true, or-false, and_assoc, or_assoc}
use Rattle.std.proofs.lemmas.Bool.{eqb-true, ne_eqb, and_parts, ltb-true, lt-ltb}
use Rattle.std.proofs.lemmas.List.{take_more, take_all, length-take, length-map}
use Rattle.std.proofs.lemmas.List.Folds.{Any-from_list_any, list_any_at, list_any-append}
use Rattle.ix_base.specs.Terms.{Place, terms}
use Rattle.ix_base.specs.Matches.{is_term, holds_term, stands_at, words_stand_at, phrase_stands, matches, all_match, any_matches, is_empty}
use Rattle.ix_base.specs.Inversion.{has_number, at_row, rows_where}
use Rattle.ix_base.specs.Query.{tree_of, trees_of}
use Rattle.ix_base.specs.Tree.{Trees, bool, tree_count, trees_count}
use Rattle.ix_base.specs.Documents.{Document}
use Rattle.ix_base.specs.declared.document.Term.{Term}
use Rattle.ix_base.specs.declared.query.Query.{Query}
use Rattle.query_core.specs.Answers.{IsRising, term_of, holds_all, terms_stand_at, terms_stand, ArePositions}
use Rattle.query_core.proofs.Rising.{has_at, same_bool, contains}
use Rattle.query_core.proofs.Documents.{filter_rows, has_rows, rows_rise, at_row-not, at_row-and, at_row-or, at_row-agree, rows_where-agree, rows_where-none}

-- ---- rows of two tests

module _ (first second : Document → Bool) (docs : List Document) (rows others kept : List ℕ) where
  pub both_rows : rows ≡ rows_where first docs → others ≡ rows_where second docs → (IsRising others → kept ≡ filter (has_number others) rows) → kept ≡ rows_where (λ d. first d && second d) docs
  both_rows r o k =
      k (subst IsRising (sym o) (rows_rise second docs))
      ∙ ap (filter (has_number others)) r
      ∙ filter_rows first second (has_number others) docs (λ n lt. ap (λ (l : List ℕ). has_number l n) o ∙ has_rows second docs n)

  pub first_rows : rows ≡ rows_where first docs → others ≡ rows_where second docs → (IsRising others → kept ≡ filter (λ x. not (has_number others x)) rows) → kept ≡ rows_where (λ d. first d && not (second d)) docs
  first_rows r o k =
      k (subst IsRising (sym o) (rows_rise second docs))
      ∙ ap (filter (λ x. not (has_number others x))) r
      ∙ filter_rows first (λ d. not (second d)) (λ x. not (has_number others x)) docs (λ n lt. ap not (ap (λ (l : List ℕ). has_number l n) o ∙ has_rows second docs n) ∙ at_row-not second docs n lt)

-- ---- one more word

holds_all-push : (words : List Term) (term : Term) (doc : Document) → holds_all (words ++ term ∷ []) doc ≡ (holds_all words doc && holds_term term.field term.bytes doc)
holds_all-push [] term doc = and-true (holds_term term.field term.bytes doc)
holds_all-push (word ∷ words) term doc =
    ap (λ (b : Bool). holds_term word.field word.bytes doc && b) (holds_all-push words term doc)
    ∙ sym (and_assoc (holds_term word.field word.bytes doc) (holds_all words doc) (holds_term term.field term.bytes doc))

pub holds_first : (words : List Term) (e : Term) (docs : List Document) (rows : List ℕ) → 0 < length words → rows ≡ rows_where (holds_term (get_or words 0 e).field (get_or words 0 e).bytes) docs → rows ≡ rows_where (holds_all (take 1 words)) docs
holds_first [] e docs rows lt r = absurd (omega arith)
holds_first (word ∷ words) e docs rows lt r =
    r ∙ rows_where-agree (holds_term word.field word.bytes) (holds_all (word ∷ [])) docs (λ d. sym (and-true (holds_term word.field word.bytes d)))

pub holds_next : (words : List Term) (i : ℕ) (e : Term) (docs : List Document) (rows others kept : List ℕ) → i < length words
    → rows ≡ rows_where (holds_all (take i words)) docs → others ≡ rows_where (holds_term (get_or words i e).field (get_or words i e).bytes) docs → (IsRising others → kept ≡ filter (has_number others) rows) → kept ≡ rows_where (holds_all (take (i + 1) words)) docs
holds_next words i e docs rows others kept in' r o k =
    let term = get_or words i e in
    both_rows (holds_all (take i words)) (holds_term term.field term.bytes) docs rows others kept r o k
    ∙ rows_where-agree (λ d. holds_all (take i words) d && holds_term term.field term.bytes d) (holds_all (take (i + 1) words)) docs
    (λ d. sym (ap (λ (l : List Term). holds_all l d) (take_more words i e in') ∙ holds_all-push (take i words) term d))

-- ---- one more place

has_cond : (k : Bool) (y x : ℕ) (rest : List ℕ) → has_number (cond k (y ∷ rest) rest) x ≡ ((k && (y == x)) || has_number rest x)
has_cond true y x rest = refl
has_cond false y x rest = refl

kept_where : (k s rest here : Bool) → (s ≡ true → k ≡ here) → ((k && s) || (rest && here)) ≡ ((s || rest) && here)
kept_where true true true true e = refl
kept_where true true false true e = refl
kept_where true true rest false e = let q : true ≡ false = e refl in cc
kept_where false true rest true e = let q : false ≡ true = e refl in cc
kept_where false true true false e = refl
kept_where false true false false e = refl
kept_where true false rest here e = refl
kept_where false false rest here e = refl

pub has_filter : (keep : ℕ → Bool) (xs : List ℕ) (x : ℕ) → has_number (filter keep xs) x ≡ (has_number xs x && keep x)
has_filter keep [] x = refl
has_filter keep (y ∷ ys) x =
    has_cond (keep y) y x (filter keep ys)
    ∙ ap (λ (b : Bool). (keep y && (y == x)) || b) (has_filter keep ys x)
    ∙ kept_where (keep y) (y == x) (has_number ys x) (keep x) (λ e. ap keep (eqb-true y x e))

stand-push : (places : List Place) (words : List Term) (term : Term) (at : ℕ) → terms_stand_at places (words ++ term ∷ []) at ≡ (terms_stand_at places words at && stands_at places term.field term.bytes (at + length words))
stand-push places [] term at = and-true (stands_at places term.field term.bytes at) ∙ ap (stands_at places term.field term.bytes) (let e : at ≡ at + 0 = omega arith in e)
stand-push places (word ∷ words) term at =
    ap (λ (b : Bool). stands_at places word.field word.bytes at && b) (stand-push places words term (at + 1))
    ∙ sym (and_assoc (stands_at places word.field word.bytes at) (terms_stand_at places words (at + 1)) (stands_at places term.field term.bytes (at + 1 + length words)))
    ∙ ap (λ (n : ℕ). (stands_at places word.field word.bytes at && terms_stand_at places words (at + 1)) && stands_at places term.field term.bytes n) (let e : at + 1 + length words ≡ at + suc (length words) = omega arith in e)

pub starts_first : (words : List Term) (e : Term) (docs : List Document) (row : ℕ) (starts : List ℕ) → 0 < length words → ArePositions docs (get_or words 0 e) row starts
    → (at : ℕ) → has_number starts at ≡ at_row (λ doc. terms_stand_at (terms doc) (take 1 words) at) docs row
starts_first [] e docs row starts lt h at = absurd (omega arith)
starts_first (word ∷ words) e docs row starts lt h at =
    h.exact at
    ∙ at_row-agree (λ doc. stands_at (terms doc) word.field word.bytes at) (λ doc. terms_stand_at (terms doc) (word ∷ []) at) docs row (λ d. sym (and-true (stands_at (terms d) word.field word.bytes at)))

pub starts_next : (words : List Term) (i : ℕ) (e : Term) (docs : List Document) (row : ℕ) (starts places kept : List ℕ) → i < length words
    → ((at : ℕ) → has_number starts at ≡ at_row (λ doc. terms_stand_at (terms doc) (take i words) at) docs row) → ArePositions docs (get_or words i e) row places
    → (IsRising places → kept ≡ filter (λ x. has_number places (x + i)) starts)
    → (at : ℕ) → has_number kept at ≡ at_row (λ doc. terms_stand_at (terms doc) (take (i + 1) words) at) docs row
starts_next words i e docs row starts places kept in' h p k at =
    let term = get_or words i e in
    let long : length (take i words) ≡ i = omega (arith, length-take i words) in
    ap (λ (l : List ℕ). has_number l at) (k p.rise)
    ∙ has_filter (λ x. has_number places (x + i)) starts at
    ∙ (λ n. h at n && p.exact (at + i) n)
    ∙ sym (at_row-and (λ doc. terms_stand_at (terms doc) (take i words) at) (λ doc. stands_at (terms doc) term.field term.bytes (at + i)) docs row)
    ∙ at_row-agree (λ doc. terms_stand_at (terms doc) (take i words) at && stands_at (terms doc) term.field term.bytes (at + i)) (λ doc. terms_stand_at (terms doc) (take (i + 1) words) at) docs row
    (λ d. ap (λ (n : ℕ). terms_stand_at (terms d) (take i words) at && stands_at (terms d) term.field term.bytes (at + n)) (sym long)
    ∙ sym (ap (λ (l : List Term). terms_stand_at (terms d) l at) (take_more words i e in') ∙ stand-push (terms d) (take i words) term at))

-- ---- a phrase

pub stand_hold : (words : List Term) (doc : Document) (at : ℕ) → terms_stand_at (terms doc) words at ≡ true → holds_all words doc ≡ true
stand_hold [] doc at h = refl
stand_hold (word ∷ words) doc at h =
    let parts = and_parts (stands_at (terms doc) word.field word.bytes at) (terms_stand_at (terms doc) words (at + 1)) h in
    let a = Any-from_list_any (λ place. is_term word.field word.bytes place && (place.position == at)) (terms doc) parts.0 in
    let here : holds_term word.field word.bytes doc ≡ true = list_any_at (is_term word.field word.bytes) (terms doc) a.0 a.1 a.2 (ap (is_term word.field word.bytes) a.3 ∙ (and_parts (is_term word.field word.bytes a.1) (a.1.position == at) a.4).0) in
    λ i. here i && stand_hold words doc (at + 1) parts.1 i

pub implied : (a b : Bool) → (b ≡ true → a ≡ true) → (a && b) ≡ b
implied true b f = refl
implied false true f = let q : false ≡ true = f refl in cc
implied false false f = refl

-- they stand somewhere where there is a start
found_start : (words : List Term) (doc : Document) (starts : List ℕ) → 0 < length words → ((at : ℕ) → has_number starts at ≡ terms_stand_at (terms doc) words at) → nat_lt 0 (length starts) ≡ terms_stand words doc
found_start [] doc starts lt h = absurd (omega arith)
found_start (word ∷ words) doc starts lt h =
    same_bool (nat_lt 0 (length starts)) (terms_stand (word ∷ words) doc)
    (λ e.
    let some : 0 < length starts = ltb-true 0 (length starts) e in
    let at = get_or starts 0 0 in
    let stand : terms_stand_at (terms doc) (word ∷ words) at ≡ true = sym (h at) ∙ has_at starts 0 at 0 some refl in
    let parts = and_parts (stands_at (terms doc) word.field word.bytes at) (terms_stand_at (terms doc) words (at + 1)) stand in
    let a = Any-from_list_any (λ place. is_term word.field word.bytes place && (place.position == at)) (terms doc) parts.0 in
    let there : a.1.position ≡ at = eqb-true a.1.position at (and_parts (is_term word.field word.bytes a.1) (a.1.position == at) a.4).1 in
    list_any_at (λ place. terms_stand_at (terms doc) (word ∷ words) place.position) (terms doc) a.0 a.1 a.2 (ap (λ (p : Place). terms_stand_at (terms doc) (word ∷ words) p.position) a.3 ∙ ap (terms_stand_at (terms doc) (word ∷ words)) there ∙ stand))
    (λ e.
    let a = Any-from_list_any (λ place. terms_stand_at (terms doc) (word ∷ words) place.position) (terms doc) e in
    let c = contains starts a.1.position (h a.1.position ∙ a.4) in
    lt-ltb 0 (length starts) (omega (arith, c.1)))

empty_from_none : (starts : List ℕ) → ((at : ℕ) → has_number starts at ≡ false) → nat_lt 0 (length starts) ≡ false
empty_from_none [] h = refl
empty_from_none (x ∷ xs) h = let q : true ≡ false = sym (has_at (x ∷ xs) 0 x 0 (omega arith) refl) ∙ h x in cc

pub found_in_row : (words : List Term) (docs : List Document) (row : ℕ) (starts : List ℕ) → 0 < length words → ((at : ℕ) → has_number starts at ≡ at_row (λ doc. terms_stand_at (terms doc) words at) docs row) → nat_lt 0 (length starts) ≡ at_row (terms_stand words) docs row
found_in_row words [] row starts lt h = empty_from_none starts h
found_in_row words (doc ∷ docs) zero starts lt h = found_start words doc starts lt h
found_in_row words (doc ∷ docs) (suc row) starts lt h = found_in_row words docs row starts lt h

stand-named : (places : List Place) (field : List ℕ) (words : List (List ℕ)) (at : ℕ) → terms_stand_at places (map (term_of field) words) at ≡ words_stand_at places field words at
stand-named places field [] at = refl
stand-named places field (word ∷ words) at = ap (λ (b : Bool). stands_at places field word at && b) (stand-named places field words (at + 1))

any_agree : {X : Type 0} (p q : X → Bool) (xs : List X) → ((x : X) → p x ≡ q x) → list_any p xs ≡ list_any q xs
any_agree p q [] h = refl
any_agree p q (x ∷ xs) h = λ i. h x i || any_agree p q xs h i

pub phrase_rows_are : (field : List ℕ) (words : List (List ℕ)) (docs : List Document) → 0 < length words → rows_where (terms_stand (map (term_of field) words)) docs ≡ rows_where (λ doc. phrase_stands (terms doc) field words) docs
phrase_rows_are field [] docs lt = absurd (omega arith)
phrase_rows_are field (word ∷ words) docs lt =
    rows_where-agree (terms_stand (map (term_of field) (word ∷ words))) (λ doc. phrase_stands (terms doc) field (word ∷ words)) docs
    (λ d. any_agree (λ place. terms_stand_at (terms d) (map (term_of field) (word ∷ words)) place.position) (λ place. words_stand_at (terms d) field (word ∷ words) place.position) (terms d) (λ place. stand-named (terms d) field (word ∷ words) place.position))

-- ---- lists of queries

all-push : (queries : List Query) (query : Query) (doc : Document) → all_match (trees_of (queries ++ query ∷ [])) doc ≡ (all_match (trees_of queries) doc && matches (tree_of query) doc)
all-push [] query doc = and-true (matches (tree_of query) doc)
all-push (q ∷ queries) query doc =
    ap (λ (b : Bool). matches (tree_of q) doc && b) (all-push queries query doc)
    ∙ sym (and_assoc (matches (tree_of q) doc) (all_match (trees_of queries) doc) (matches (tree_of query) doc))

any-push : (queries : List Query) (query : Query) (doc : Document) → any_matches (trees_of (queries ++ query ∷ [])) doc ≡ (any_matches (trees_of queries) doc || matches (tree_of query) doc)
any-push [] query doc = or-false (matches (tree_of query) doc)
any-push (q ∷ queries) query doc =
    ap (λ (b : Bool). matches (tree_of q) doc || b) (any-push queries query doc)
    ∙ sym (or_assoc (matches (tree_of q) doc) (any_matches (trees_of queries) doc) (matches (tree_of query) doc))

pub all_first : (queries : List Query) (e : Query) (docs : List Document) (rows : List ℕ) → 0 < length queries → rows ≡ rows_where (matches (tree_of (get_or queries 0 e))) docs → rows ≡ rows_where (all_match (trees_of (take 1 queries))) docs
all_first [] e docs rows lt r = absurd (omega arith)
all_first (q ∷ queries) e docs rows lt r =
    r ∙ rows_where-agree (matches (tree_of q)) (all_match (trees_of (q ∷ []))) docs (λ d. sym (and-true (matches (tree_of q) d)))

pub all_next : (queries : List Query) (i : ℕ) (e : Query) (docs : List Document) (rows others kept : List ℕ) → i < length queries
    → rows ≡ rows_where (all_match (trees_of (take i queries))) docs → others ≡ rows_where (matches (tree_of (get_or queries i e))) docs → (IsRising others → kept ≡ filter (has_number others) rows) → kept ≡ rows_where (all_match (trees_of (take (i + 1) queries))) docs
all_next queries i e docs rows others kept in' r o k =
    let query = get_or queries i e in
    both_rows (all_match (trees_of (take i queries))) (matches (tree_of query)) docs rows others kept r o k
    ∙ rows_where-agree (λ d. all_match (trees_of (take i queries)) d && matches (tree_of query) d) (all_match (trees_of (take (i + 1) queries))) docs
    (λ d. sym (ap (λ (l : List Query). all_match (trees_of l) d) (take_more queries i e in') ∙ all-push (take i queries) query d))

pub any_next : (queries : List Query) (i : ℕ) (e : Query) (docs : List Document) (rows others joined : List ℕ) → i < length queries
    → ((x : ℕ) → has_number rows x ≡ at_row (any_matches (trees_of (take i queries))) docs x) → others ≡ rows_where (matches (tree_of (get_or queries i e))) docs → joined ≡ rows ++ others
    → (x : ℕ) → has_number joined x ≡ at_row (any_matches (trees_of (take (i + 1) queries))) docs x
any_next queries i e docs rows others joined in' r o j x =
    let query = get_or queries i e in
    ap (λ (l : List ℕ). has_number l x) j
    ∙ list_any-append (λ y. y == x) rows others
    ∙ (λ n. r x n || (ap (λ (l : List ℕ). has_number l x) o ∙ has_rows (matches (tree_of query)) docs x) n)
    ∙ sym (at_row-or (any_matches (trees_of (take i queries))) (matches (tree_of query)) docs x)
    ∙ at_row-agree (λ d. any_matches (trees_of (take i queries)) d || matches (tree_of query) d) (any_matches (trees_of (take (i + 1) queries))) docs x
    (λ d. sym (ap (λ (l : List Query). any_matches (trees_of l) d) (take_more queries i e in') ∙ any-push (take i queries) query d))

-- a loop over all
pub all_taken : {X : Type 0} (P : List X → Type 0) (xs : List X) (i : ℕ) → length xs ≤ i → P (take i xs) → P xs
all_taken P xs i le h = subst P (take_all i xs le) h

pub no_phrase : (field : List ℕ) (texts : List (List ℕ)) (words : List Term) (docs : List Document) → words ≡ map (term_of field) texts → length words ≡ 0 → [] ≡ rows_where (λ doc. phrase_stands (terms doc) field texts) docs
no_phrase field [] words docs e none = rows_where-none docs
no_phrase field (text ∷ texts) words docs e none = let q : length words ≡ suc (length (map (term_of field) texts)) = ap (λ (l : List Term). length l) e in absurd (omega arith)

pub phrase_rows_from : (field : List ℕ) (texts : List (List ℕ)) (words : List Term) (docs : List Document) → words ≡ map (term_of field) texts → 0 < length words → rows_where (terms_stand words) docs ≡ rows_where (λ doc. phrase_stands (terms doc) field texts) docs
phrase_rows_from field texts words docs e some =
    let long : 0 < length texts = subst (λ (n : ℕ). 0 < n) (ap (λ (l : List Term). length l) e ∙ length-map texts (term_of field)) some in
    ap (λ (l : List Term). rows_where (terms_stand l) docs) e ∙ phrase_rows_are field texts docs long

-- the same of lists that were passed as slices
pub of_slices : (F : List ℕ → List ℕ → List ℕ) (kept numbers others first second : List ℕ) → first ≡ numbers → second ≡ others → (IsRising second → kept ≡ F second first) → IsRising others → kept ≡ F others numbers
of_slices F kept numbers others first second e f h rise = h (subst IsRising (sym f) rise) ∙ (λ i. F (f i) (e i))

pub none_empty : (queries : List Query) → (length queries == 0) ≡ is_empty (trees_of queries)
none_empty [] = refl
none_empty (q ∷ queries) = ne_eqb (suc (length queries)) 0 (λ e. omega arith)

-- a query of a list has no more parts than the list
pub tree_within : (queries : List Query) (i : ℕ) (e : Query) → i < length queries → tree_count (tree_of (get_or queries i e)) ≤ trees_count (trees_of queries)
tree_within [] i e lt = absurd (omega arith)
tree_within (q ∷ queries) zero e lt = omega arith
tree_within (q ∷ queries) (suc i) e lt = let h = tree_within queries i e (omega arith) in omega arith

-- the first query's rows, or those of all the queries so far
pub narrowed_next : (queries : List Query) (i : ℕ) (e : Query) (docs : List Document) (so_far : Option (Vec ℕ Global)) (found kept : List ℕ) → i < length queries
    → MatchOption so_far (i ≡ 0) (λ rows. rows.items ≡ rows_where (all_match (trees_of (take i queries))) docs)
    → found ≡ rows_where (matches (tree_of (get_or queries i e))) docs
    → MatchOption so_far (kept ≡ found) (λ rows. IsRising found → kept ≡ filter (has_number found) rows.items)
    → kept ≡ rows_where (all_match (trees_of (take (i + 1) queries))) docs
narrowed_next queries i e docs None found kept in' none o k =
    subst (λ (n : ℕ). kept ≡ rows_where (all_match (trees_of (take (n + 1) queries))) docs) (sym none)
    (all_first queries e docs kept (omega arith) (k ∙ o ∙ ap (λ (n : ℕ). rows_where (matches (tree_of (get_or queries n e))) docs) none))
narrowed_next queries i e docs (Some rows) found kept in' r o k = all_next queries i e docs rows.items found kept in' r o k

-- the rows of a bool query
pub bool_rows : (must should must_not : Trees) (docs : List Document) (rows others kept : List ℕ)
    → rows ≡ rows_where (λ d. cond (is_empty must) (any_matches should d) (all_match must d)) docs → others ≡ rows_where (any_matches must_not) docs
    → (IsRising others → kept ≡ filter (λ x. not (has_number others x)) rows) → kept ≡ rows_where (matches (bool must should must_not)) docs
bool_rows must should must_not docs rows others kept r o k = first_rows (λ d. cond (is_empty must) (any_matches should d) (all_match must d)) (any_matches must_not) docs rows others kept r o k

pub chosen_should : (must should : Trees) (docs : List Document) → is_empty must ≡ true → rows_where (any_matches should) docs ≡ rows_where (λ d. cond (is_empty must) (any_matches should d) (all_match must d)) docs
chosen_should must should docs e = rows_where-agree (any_matches should) (λ d. cond (is_empty must) (any_matches should d) (all_match must d)) docs (λ d. ap (λ (b : Bool). cond b (any_matches should d) (all_match must d)) (sym e))

pub chosen_must : (must should : Trees) (docs : List Document) → is_empty must ≡ false → rows_where (all_match must) docs ≡ rows_where (λ d. cond (is_empty must) (any_matches should d) (all_match must d)) docs
chosen_must must should docs e = rows_where-agree (all_match must) (λ d. cond (is_empty must) (any_matches should d) (all_match must d)) docs (λ d. ap (λ (b : Bool). cond b (any_matches should d) (all_match must d)) (sym e))
