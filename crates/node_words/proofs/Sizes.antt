-- How many bytes queries have.
use Rattle.std.proofs.Common.{◌≡◌, ℕ, ℤ, ◌+◌, ◌^◌, ◌<◌, ◌≤◌, min, List, [], ◌∷◌, ◌++◌, length, take, get_or, refl, sym, subst, zero, suc, ap, ◌∙◌, arith, append_assoc, length-append}
use Rattle.std.proofs.lemmas.Grind.{common_steps}
use Rattle.std.proofs.lemmas.List.{append-nil}
use Rattle.ix_base.proofs.EntryLaws.{length-be32, length-text_bytes, length-signed64}
use Rattle.ix_base.specs.Query.{tree_of, trees_of}
use Rattle.ix_base.specs.QueryBytes.{count_of, query_bytes, queries_bytes, list_bytes, IsQuery, AreQueries}
use Rattle.ix_base.specs.Refusals.{query_size}
use Rattle.ix_base.specs.Spelling.{be32, signed64, text_bytes}
use Rattle.ix_base.specs.Tree.{Tree, all, term, phrase, range, bool, Trees, no_trees, tree, tree_count, trees_count}
use Rattle.ix_base.specs.declared.query.Query.{Query}

pub queries_bytes-push : (xs : List Query) (x : Query) → queries_bytes (trees_of (xs ++ x ∷ [])) ≡ queries_bytes (trees_of xs) ++ query_bytes (tree_of x)
queries_bytes-push [] x = append-nil (query_bytes (tree_of x))
queries_bytes-push (y ∷ ys) x = ap (λ (t : List ℕ). query_bytes (tree_of y) ++ t) (queries_bytes-push ys x) ∙ sym (append_assoc (query_bytes (tree_of y)) (queries_bytes (trees_of ys)) (query_bytes (tree_of x)))

pub count_of-push : (xs : List Query) (x : Query) → count_of (trees_of (xs ++ x ∷ [])) ≡ count_of (trees_of xs) + 1
count_of-push [] x = refl
count_of-push (y ∷ ys) x = ap (λ (n : ℕ). n + 1) (count_of-push ys x)

pub count_of-trees : (xs : List Query) → count_of (trees_of xs) ≡ length xs
count_of-trees [] = refl
count_of-trees (x ∷ xs) = omega (arith, count_of-trees xs)

pub AreQueries-push : (xs : List Query) (x : Query) → AreQueries (trees_of xs) → IsQuery (tree_of x) → AreQueries (trees_of (xs ++ x ∷ []))
AreQueries-push [] x p q = (q, tt)
AreQueries-push (y ∷ ys) x p q = (p.0, AreQueries-push ys x p.1 q)

some_byte : (q : Tree) → 1 ≤ length (query_bytes q)
some_byte all = omega arith
some_byte (term f t) = omega arith
some_byte (phrase f t) = omega arith
some_byte (range n l h) = omega arith
some_byte (bool a b c) = omega arith

-- each query has a byte at least
pub count_le : (qs : Trees) → count_of qs ≤ length (queries_bytes qs)
count_le no_trees = omega arith
count_le (tree q qs) = omega (arith, some_byte q, count_le qs, length-append (query_bytes q) (queries_bytes qs))

pub length-list_bytes : (qs : Trees) → length (list_bytes qs) ≡ 4 + length (queries_bytes qs)
length-list_bytes qs = omega (arith, length-append (be32 (count_of qs)) (queries_bytes qs), length-be32 (count_of qs))

-- a query is no longer than the list that has it
pub part_le : (xs : List Query) (i : ℕ) (x : Query) → i < length xs → x ≡ get_or xs i x → length (query_bytes (tree_of x)) ≤ length (queries_bytes (trees_of xs))
part_le [] i x lt e = absurd (omega arith)
part_le (y ∷ ys) zero x lt e = rw e (omega (arith, length-append (query_bytes (tree_of y)) (queries_bytes (trees_of ys))))
part_le (y ∷ ys) (suc i) x lt e = omega (arith, part_le ys i x (omega arith) e, length-append (query_bytes (tree_of y)) (queries_bytes (trees_of ys)))

pub length-bool : (a b c : Trees) → length (query_bytes (bool a b c)) ≡ 1 + (length (list_bytes a) + (length (list_bytes b) + length (list_bytes c)))
length-bool a b c = omega (arith, length-append (list_bytes a) (list_bytes b ++ list_bytes c), length-append (list_bytes b) (list_bytes c))

pub length-pair : (f t : List ℕ) → length (text_bytes f ++ text_bytes t) ≡ 8 + (length f + length t)
length-pair f t = omega (arith, length-append (text_bytes f) (text_bytes t), length-text_bytes f, length-text_bytes t)

-- one query more, in numbers that stop at a limit
pub size_more : (most size more total : ℕ) → size ≡ min total most → min (size + min more most) most ≡ min (total + more) most
size_more most size more total e = omega arith

-- a query has no more queries in it than the list that has it
pub part_count_le : (xs : List Query) (i : ℕ) (x : Query) → i < length xs → x ≡ get_or xs i x → tree_count (tree_of x) ≤ trees_count (trees_of xs)
part_count_le [] i x lt e = absurd (omega arith)
part_count_le (y ∷ ys) zero x lt e = rw e (omega arith)
part_count_le (y ∷ ys) (suc i) x lt e = omega (arith, part_count_le ys i x (omega arith) e)

-- one query more
pub queries_bytes-more : (xs : List Query) (i : ℕ) (x : Query) → i < length xs → x ≡ get_or xs i x → queries_bytes (trees_of (take (i + 1) xs)) ≡ queries_bytes (trees_of (take i xs)) ++ query_bytes (tree_of x)
queries_bytes-more xs i x lt e = ap (λ (ys : List Query). queries_bytes (trees_of ys)) (grind (arith, common_steps)) ∙ queries_bytes-push (take i xs) x

pub AreQueries-more : (xs : List Query) (i : ℕ) (x : Query) → i < length xs → x ≡ get_or xs i x → AreQueries (trees_of (take i xs)) → IsQuery (tree_of x) → AreQueries (trees_of (take (i + 1) xs))
AreQueries-more xs i x lt e p q =
    let more : take (i + 1) xs ≡ take i xs ++ x ∷ [] = grind (arith, common_steps) in
    subst (λ (ys : List Query). AreQueries (trees_of ys)) (sym more) (AreQueries-push (take i xs) x p q)

-- the size of a list as far as it was read, and one query more
pub list_size-more : (most size more result : ℕ) (xs : List Query) (i : ℕ) (x : Query) → i < length xs → x ≡ get_or xs i x
    → size ≡ min (4 + length (queries_bytes (trees_of (take i xs)))) most → more ≡ min (length (query_bytes (tree_of x))) most → result ≡ min (size + more) most
    → result ≡ min (4 + length (queries_bytes (trees_of (take (i + 1) xs)))) most
list_size-more most size more result xs i x lt e s m r =
    let total : length (queries_bytes (trees_of (take (i + 1) xs))) ≡ length (queries_bytes (trees_of (take i xs))) + length (query_bytes (tree_of x)) =
    ap length (queries_bytes-more xs i x lt e) ∙ length-append (queries_bytes (trees_of (take i xs))) (query_bytes (tree_of x)) in
    omega (arith, total)

pub whole : (xs : List Query) (i : ℕ) → length xs ≤ i → take i xs ≡ xs
whole xs i le = grind (arith, common_steps)

pub length-term_query : (f t : List ℕ) → length (query_bytes (term f t)) ≡ 9 + length f + length t
length-term_query f t = ap suc (length-pair f t) ∙ omega arith

pub length-phrase_query : (f t : List ℕ) → length (query_bytes (phrase f t)) ≡ 9 + length f + length t
length-phrase_query f t = ap suc (length-pair f t) ∙ omega arith

length-bounds : (n : List ℕ) (l h : ℤ) → length (text_bytes n ++ (signed64 l ++ signed64 h)) ≡ 20 + length n
length-bounds n l h =
    omega (arith, length-append (text_bytes n) (signed64 l ++ signed64 h), length-append (signed64 l) (signed64 h), length-text_bytes n, length-signed64 l, length-signed64 h)

pub length-range_query : (n : List ℕ) (l h : ℤ) → length (query_bytes (range n l h)) ≡ 21 + length n
length-range_query n l h = ap suc (length-bounds n l h) ∙ omega arith

pub exact_size : (q : Tree) (size n : ℕ) → length (query_bytes q) ≡ n → size ≡ n → size < 2 ^ 64 → size ≡ query_size q
exact_size q size n len is lt = omega arith

pub short_list : (xs : List Query) (qs : Trees) → trees_of xs ≡ qs → length (list_bytes qs) ≤ 131072 → (length xs ≡ count_of qs) × (count_of qs < 2 ^ 32)
short_list xs qs e le =
    let same : length xs ≡ count_of qs = sym (count_of-trees xs) ∙ ap count_of e in
    (same, omega (arith, count_le qs, length-list_bytes qs))

pub short_part : (xs : List Query) (qs : Trees) (i : ℕ) (x : Query) → trees_of xs ≡ qs → length (list_bytes qs) ≤ 131072 → i < length xs → x ≡ get_or xs i x → length (query_bytes (tree_of x)) ≤ 131072
short_part xs qs i x e le lt is =
    omega (arith, part_le xs i x lt is, ap (λ (rs : Trees). length (queries_bytes rs)) e, length-list_bytes qs)

pub list_more : (out front : List ℕ) (xs : List Query) (i : ℕ) (x : Query) (before now : List ℕ) → i < length xs → x ≡ get_or xs i x
    → before ≡ out ++ (front ++ queries_bytes (trees_of (take i xs))) → now ≡ before ++ query_bytes (tree_of x) → now ≡ out ++ (front ++ queries_bytes (trees_of (take (i + 1) xs)))
list_more out front xs i x before now lt is b n =
    n ∙ ap (λ (t : List ℕ). t ++ query_bytes (tree_of x)) b
    ∙ append_assoc out (front ++ queries_bytes (trees_of (take i xs))) (query_bytes (tree_of x))
    ∙ ap (λ (t : List ℕ). out ++ t) (append_assoc front (queries_bytes (trees_of (take i xs))) (query_bytes (tree_of x)) ∙ ap (λ (t : List ℕ). front ++ t) (sym (queries_bytes-more xs i x lt is)))

pub list_done : (out now : List ℕ) (xs : List Query) (qs : Trees) (i : ℕ) → trees_of xs ≡ qs → length xs ≤ i → now ≡ out ++ (be32 (length xs) ++ queries_bytes (trees_of (take i xs))) → now ≡ out ++ list_bytes qs
list_done out now xs qs i e le n =
    n ∙ ap (λ (t : List ℕ). out ++ t) (ap (λ (k : ℕ). be32 k ++ queries_bytes (trees_of (take i xs))) (sym (count_of-trees xs))
    ∙ ap (λ (ys : List Query). be32 (count_of (trees_of xs)) ++ queries_bytes (trees_of ys)) (whole xs i le) ∙ ap list_bytes e)

pub queries_done : (xs : List Query) (qs : Trees) (i : ℕ) → trees_of xs ≡ qs → length xs ≤ i → AreQueries (trees_of (take i xs)) → AreQueries qs
queries_done xs qs i e le p = subst AreQueries (ap trees_of (whole xs i le) ∙ e) p
