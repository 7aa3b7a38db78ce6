-- Rows that are found more than once, and marks of rows.
use Rattle.std.proofs.Common.{◌≡◌, ◌≢◌, ℕ, zero, suc, ◌+◌, ◌<◌, ◌≤◌, List, [], ◌∷◌, ◌++◌, Bool, true, false, ◌||◌, ◌==◌, cond, length, get_or, take, Result, Ok, Err, IfOk, ◌⊎◌, inl, inr, refl, sym, ap, ◌∙◌, arith}
use Rattle.std.specs.List.{All}
use Rattle.std.proofs.lemmas.Bool.{cases_order, cases_lt, eq-eqb, ne_eqb}
use Rattle.std.proofs.lemmas.List.Elements.{All-weaker}
use Rattle.std.proofs.lemmas.List.Folds.{list_any-append}
use Rattle.std.proofs.lemmas.List.Quantifiers.{all_pairs_push}
use Rattle.ix_base.specs.Matches.{matches, any_matches}
use Rattle.ix_base.specs.Inversion.{has_number, at_row, rows_where, rows_from}
use Rattle.ix_base.specs.Query.{tree_of, trees_of}
use Rattle.ix_base.specs.Documents.{Document}
use Rattle.ix_base.specs.declared.query.Query.{Query}
use Rattle.query_core.specs.Answers.{IsRising}
use Rattle.query_core.proofs.Rising.{has_at, lacks}
use Rattle.query_core.proofs.Documents.{rows_are}

-- ---- rows that are found

at_row_within : (test : Document → Bool) (docs : List Document) (r : ℕ) → at_row test docs r ≡ true → r < length docs
at_row_within test [] r h = cc
at_row_within test (doc ∷ docs) zero h = omega arith
at_row_within test (doc ∷ docs) (suc r) h = let l = at_row_within test docs r h in omega arith

-- rows that pass a test are numbers of documents
pub found_below : (test : Document → Bool) (docs : List Document) (rows : List ℕ) (end : ℕ) → end ≡ length docs → ((x : ℕ) → has_number rows x ≡ at_row test docs x) → All (λ r. r < end) rows
found_below test docs rows end is same k d lt =
    let x = get_or rows k d in
    let there : at_row test docs x ≡ true = sym (same x) ∙ has_at rows k x d lt refl in
    let l = at_row_within test docs x there in
    omega arith

few : (b : Bool) (n : ℕ) (rows : List ℕ) → length (cond b (n ∷ rows) rows) ≤ suc (length rows)
few true n rows = omega arith
few false n rows = omega arith

rows_few : (test : Document → Bool) (n : ℕ) (docs : List Document) → length (rows_from n test docs) ≤ length docs
rows_few test n [] = omega arith
rows_few test n (doc ∷ docs) = let l = rows_few test (n + 1) docs in let h = few (test doc) n (rows_from (n + 1) test docs) in omega arith

-- where all rows pass the first test, and what passes it passes the second, the rows of both are one
both_all : (a b : Bool) (n : ℕ) (xs ys : List ℕ) (count : ℕ) → (a ≡ true → b ≡ true) → length xs ≤ count → (length xs ≡ count → xs ≡ ys) → length (cond a (n ∷ xs) xs) ≡ suc count → cond a (n ∷ xs) xs ≡ cond b (n ∷ ys) ys
both_all true true n xs ys count implies few rest e = ap (λ (l : List ℕ). n ∷ l) (rest (omega arith))
both_all true false n xs ys count implies few rest e = let q : false ≡ true = implies refl in cc
both_all false b n xs ys count implies few rest e = absurd (omega arith)

all_rows_from : (first second : Document → Bool) (n : ℕ) (docs : List Document) → ((d : Document) → first d ≡ true → second d ≡ true) → length (rows_from n first docs) ≡ length docs → rows_from n first docs ≡ rows_from n second docs
all_rows_from first second n [] f e = refl
all_rows_from first second n (doc ∷ docs) f e =
    both_all (first doc) (second doc) n (rows_from (n + 1) first docs) (rows_from (n + 1) second docs) (length docs) (f doc) (rows_few first (n + 1) docs) (all_rows_from first second (n + 1) docs f) e

or_left : (a b c : Bool) → (b ≡ true → c ≡ true) → (a || b) ≡ true → (a || c) ≡ true
or_left true b c f h = refl
or_left false b c f h = f h

any_of_first : (queries : List Query) (i : ℕ) (doc : Document) → any_matches (trees_of (take i queries)) doc ≡ true → any_matches (trees_of queries) doc ≡ true
any_of_first [] zero doc h = h
any_of_first [] (suc i) doc h = h
any_of_first (q ∷ queries) zero doc h = cc
any_of_first (q ∷ queries) (suc i) doc h = or_left (matches (tree_of q) doc) (any_matches (trees_of (take i queries)) doc) (any_matches (trees_of queries) doc) (any_of_first queries i doc) h

-- where the first queries find all rows, these are what all of the queries find
pub all_found : (queries : List Query) (i : ℕ) (docs : List Document) (rows : List ℕ) → IsRising rows → ((x : ℕ) → has_number rows x ≡ at_row (any_matches (trees_of (take i queries))) docs x) → length rows ≡ length docs → rows ≡ rows_where (any_matches (trees_of queries)) docs
all_found queries i docs rows rise same whole =
    let first : rows ≡ rows_where (any_matches (trees_of (take i queries))) docs = rows_are (any_matches (trees_of (take i queries))) docs rows rise same in
    first ∙ all_rows_from (any_matches (trees_of (take i queries))) (any_matches (trees_of queries)) 0 docs (any_of_first queries i) (sym (ap length first) ∙ whole)

-- ---- marks

has_push : (xs : List ℕ) (n x : ℕ) → has_number (xs ++ n ∷ []) x ≡ (has_number xs x || ((n == x) || false))
has_push xs n x = list_any-append (λ y. y == x) xs (n ∷ [])

or_none : (b : Bool) → (b || false) ≡ b
or_none true = refl
or_none false = refl

pub has_pushed : (xs : List ℕ) (n x : ℕ) → n ≡ x → has_number (xs ++ n ∷ []) x ≡ true
has_pushed xs n x e = has_push xs n x ∙ ap (λ (b : Bool). has_number xs x || (b || false)) (eq-eqb n x e) ∙ ends (has_number xs x)
  where
    ends : (b : Bool) → (b || true) ≡ true
    ends true = refl
    ends false = refl

pub has_other : (xs : List ℕ) (n x : ℕ) → n ≢ x → has_number (xs ++ n ∷ []) x ≡ has_number xs x
has_other xs n x ne = has_push xs n x ∙ ap (λ (b : Bool). has_number xs x || (b || false)) (ne_eqb n x ne) ∙ or_none (has_number xs x)

-- a rising list of numbers below n, with n behind it
pub rise_push : (xs : List ℕ) (n : ℕ) → IsRising xs → All (λ x. x < n) xs → IsRising (xs ++ n ∷ [])
rise_push xs n rise below = all_pairs_push (λ a b. a < b) xs n rise (λ k d lt. below k d lt)

pub none_above : (xs : List ℕ) (end x : ℕ) → All (λ y. y < end) xs → end ≤ x → has_number xs x ≡ false
none_above xs end x below le = lacks xs x (All-weaker (λ y. y < end) (λ y. y ≢ x) (λ y l e. omega arith) xs below)

-- one more mark
module _ (xs : List ℕ) (marks : List Bool) (n : ℕ) (below : All (λ y. y < n) xs) (same : (x : ℕ) → x < n → has_number xs x ≡ get_or marks x false) where
  last_or_before : (x : ℕ) → x < n + 1 → (x < n) ⊎ (n ≡ x)
  last_or_before x lt = go (cases_order x n)
    where
      go : (x ≡ n) ⊎ ((x < n) ⊎ (n < x)) → (x < n) ⊎ (n ≡ x)
      go (inl e) = inr (sym e)
      go (inr (inl l)) = inl l
      go (inr (inr g)) = absurd (omega arith)

  pub same_kept : get_or marks n false ≡ true → (x : ℕ) → x < n + 1 → has_number (xs ++ n ∷ []) x ≡ get_or marks x false
  same_kept mark x lt = go (last_or_before x lt)
    where
      go : (x < n) ⊎ (n ≡ x) → has_number (xs ++ n ∷ []) x ≡ get_or marks x false
      go (inl l) = has_other xs n x (λ e. omega arith) ∙ same x l
      go (inr e) = has_pushed xs n x e ∙ sym (ap (λ (y : ℕ). get_or marks y false) (sym e) ∙ mark)

  pub same_left : get_or marks n false ≡ false → (x : ℕ) → x < n + 1 → has_number xs x ≡ get_or marks x false
  same_left mark x lt = go (last_or_before x lt)
    where
      go : (x < n) ⊎ (n ≡ x) → has_number xs x ≡ get_or marks x false
      go (inl l) = same x l
      go (inr e) = none_above xs n x below (omega arith) ∙ sym (ap (λ (y : ℕ). get_or marks y false) (sym e) ∙ mark)

-- the numbers that are marked are those of which the marks were made
pub same_marked : (kept numbers : List ℕ) (marks : List Bool) (end : ℕ) → All (λ y. y < end) kept → ((x : ℕ) → x < end → has_number kept x ≡ get_or marks x false) → ((x : ℕ) → x < end → get_or marks x false ≡ has_number numbers x)
    → All (λ y. y < end) numbers → (x : ℕ) → has_number kept x ≡ has_number numbers x
same_marked kept numbers marks end below same made within x = go (cases_lt x end)
  where
    go : (x < end) ⊎ (end ≤ x) → has_number kept x ≡ has_number numbers x
    go (inl l) = same x l ∙ made x l
    go (inr g) = none_above kept end x below g ∙ sym (none_above numbers end x within g)

pub IfOk-both : {X Y : Type 0} (r : Result X Y) (P Q S : X → Type 0) → ((x : X) → P x → Q x → S x) → IfOk r P → IfOk r Q → IfOk r S
IfOk-both (Ok x) P Q S f p q = f x p q
IfOk-both (Err y) P Q S f p q = tt
