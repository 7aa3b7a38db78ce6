-- No query's bytes begin another's.
use Rattle.std.proofs.Common.{◌≡◌, ℕ, ◌<◌, List, ◌++◌, length, drop, refl, sym, ap, ◌∙◌, append_assoc, arith}
use Rattle.ix_base.specs.QueryBytes.{count_of, query_bytes, queries_bytes, list_bytes, IsQuery, AreQueries, IsQueryList}
use Rattle.ix_base.specs.Spelling.{be32, text_bytes, IsText, IsName}
use Rattle.ix_base.specs.Tree.{Tree, all, term, phrase, range, bool, Trees, no_trees, tree}
use Rattle.node_words.proofs.Both.{both_one_form}
use Rattle.node_words.proofs.Bounds.{one_range}
use Rattle.node_words.proofs.Forms.{OneForm, one_number, one_name, one_text}
use Rattle.node_words.specs.Reads.{Pair, IsPair, pair_bytes, Range, lists_bytes}

pub one_pair : OneForm IsPair pair_bytes
one_pair = both_one_form IsName text_bytes IsText text_bytes one_name one_text

counted : (qs rs : Trees) (x y : List ℕ) → IsQueryList qs → IsQueryList rs → list_bytes qs ++ x ≡ list_bytes rs ++ y → (count_of qs ≡ count_of rs) × (queries_bytes qs ++ x ≡ queries_bytes rs ++ y)
counted qs rs x y p q e =
    one_number (count_of qs) (count_of rs) (queries_bytes qs ++ x) (queries_bytes rs ++ y) p.0 q.0
    (sym (append_assoc (be32 (count_of qs)) (queries_bytes qs) x) ∙ e ∙ append_assoc (be32 (count_of rs)) (queries_bytes rs) y)

three : (a b c : Trees) (x : List ℕ) → lists_bytes (a, (b, c)) ++ x ≡ list_bytes a ++ (list_bytes b ++ (list_bytes c ++ x))
three a b c x = simp append_assoc

same_bool : (a b c a' b' c' : Trees) → a ≡ a' → b ≡ b' → c ≡ c' → bool a b c ≡ bool a' b' c'
same_bool a b c a' b' c' p q r = cc

same_tree : (q r : Tree) (qs rs : Trees) → q ≡ r → qs ≡ rs → tree q qs ≡ tree r rs
same_tree q r qs rs p o = cc

mutual
  pub one_query : OneForm IsQuery query_bytes
  one_query all all x y p q e = (refl, ap (drop 1) e)
  one_query (term f t) (term g u) x y p q e =
      let s = one_pair (f, t) (g, u) x y p q (ap (drop 1) e) in
      (ap (λ (v : Pair). term v.0 v.1) s.0, s.1)
  one_query (phrase f t) (phrase g u) x y p q e =
      let s = one_pair (f, t) (g, u) x y p q (ap (drop 1) e) in
      (ap (λ (v : Pair). phrase v.0 v.1) s.0, s.1)
  one_query (range n l h) (range m k i) x y p q e =
      let s = one_range (n, (l, h)) (m, (k, i)) x y p q (ap (drop 1) e) in
      (ap (λ (v : Range). range v.0 v.1.0 v.1.1) s.0, s.1)
  one_query (bool a b c) (bool a' b' c') x y p q e =
      let h : lists_bytes (a, (b, c)) ++ x ≡ lists_bytes (a', (b', c')) ++ y = ap (drop 1) e in
      let k = sym (three a b c x) ∙ h ∙ three a' b' c' y in
      let n = counted a a' _ _ p.0 q.0 k in
      let s = one_queries a a' _ _ n.0 p.0.1 q.0.1 n.1 in
      let n' = counted b b' _ _ p.1 q.1 s.1 in
      let s' = one_queries b b' _ _ n'.0 p.1.1 q.1.1 n'.1 in
      let n'' = counted c c' _ _ p.2 q.2 s'.1 in
      let s'' = one_queries c c' _ _ n''.0 p.2.1 q.2.1 n''.1 in
      (same_bool a b c a' b' c' s.0 s'.0 s''.0, s''.1)
  one_query _ _ x y p q e = absurd cc

  pub one_queries : (qs rs : Trees) (x y : List ℕ) → count_of qs ≡ count_of rs → AreQueries qs → AreQueries rs → queries_bytes qs ++ x ≡ queries_bytes rs ++ y → (qs ≡ rs) × (x ≡ y)
  one_queries no_trees no_trees x y n p q e = (refl, e)
  one_queries no_trees (tree r rs) x y n p q e = absurd (omega arith)
  one_queries (tree q qs) no_trees x y n p r e = absurd (omega arith)
  one_queries (tree q qs) (tree r rs) x y n p o e =
      let s = one_query q r (queries_bytes qs ++ x) (queries_bytes rs ++ y) p.0 o.0 (sym (append_assoc (query_bytes q) (queries_bytes qs) x) ∙ e ∙ append_assoc (query_bytes r) (queries_bytes rs) y) in
      let t = one_queries qs rs x y (omega arith) p.1 o.1 s.1 in
      (same_tree q r qs rs s.0 t.0, t.1)

pub one_list : OneForm IsQueryList list_bytes
one_list qs rs x y p q e =
    let n = counted qs rs x y p q e in
    one_queries qs rs x y n.0 p.1 q.1 n.1

-- where fewer queries than a list has are read, another one follows
pub goes_on : (before qs : Trees) (rest after : List ℕ) → count_of before < count_of qs → AreQueries before → AreQueries qs → queries_bytes before ++ rest ≡ queries_bytes qs ++ after
    → (q : Tree) × (end : List ℕ) × IsQuery q × (rest ≡ query_bytes q ++ end)
goes_on no_trees no_trees rest after lt p o e = absurd (omega arith)
goes_on no_trees (tree q qs) rest after lt p o e = (q, queries_bytes qs ++ after, o.0, e ∙ append_assoc (query_bytes q) (queries_bytes qs) after)
goes_on (tree b before) no_trees rest after lt p o e = absurd (omega arith)
goes_on (tree b before) (tree q qs) rest after lt p o e =
    let s = one_query b q (queries_bytes before ++ rest) (queries_bytes qs ++ after) p.0 o.0 (sym (append_assoc (query_bytes b) (queries_bytes before) rest) ∙ e ∙ append_assoc (query_bytes q) (queries_bytes qs) after) in
    goes_on before qs rest after (omega arith) p.1 o.1 s.1

-- ---- a query has bytes

pub query_some : (q : Tree) → 0 < length (query_bytes q)
query_some all = omega arith
query_some (term f t) = omega arith
query_some (phrase f t) = omega arith
query_some (range n l h) = omega arith
query_some (bool a b c) = omega arith
