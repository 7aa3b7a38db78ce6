-- Passing over queries without reading them.
use Rattle.std.proofs.Common.{◌≡◌, ℕ, ◌+◌, ◌<◌, ◌^◌, List, ◌++◌, refl, sym, ap, subst, ◌∙◌, append_assoc}
use Rattle.std.proofs.lemmas.List.{append-nil}
use Rattle.ix_base.specs.QueryBytes.{count_of, query_bytes, queries_bytes, list_bytes, IsQuery, AreQueries, IsQueryList}
use Rattle.ix_base.specs.Spelling.{be32}
use Rattle.ix_base.specs.Tree.{Tree, all, term, phrase, range, bool, Trees, no_trees, tree}
use Rattle.node_words.specs.Reads.{StandsAtStart, IsPair, pair_bytes, IsRange, range_bytes, byte_alone, Pair, Range}

-- these queries, and one more after them
abbrev and_one : Trees → Tree → Trees
and_one no_trees q = tree q no_trees
and_one (tree r rs) q = tree r (and_one rs q)

bytes-and_one : (qs : Trees) (q : Tree) → queries_bytes (and_one qs q) ≡ queries_bytes qs ++ query_bytes q
bytes-and_one no_trees q = append-nil (query_bytes q)
bytes-and_one (tree r rs) q = ap (λ (t : List ℕ). query_bytes r ++ t) (bytes-and_one rs q) ∙ sym (append_assoc (query_bytes r) (queries_bytes rs) (query_bytes q))

count-and_one : (qs : Trees) (q : Tree) → count_of (and_one qs q) ≡ count_of qs + 1
count-and_one no_trees q = refl
count-and_one (tree r rs) q = ap (λ (n : ℕ). n + 1) (count-and_one rs q)

are-and_one : (qs : Trees) (q : Tree) → AreQueries qs → IsQuery q → AreQueries (and_one qs q)
are-and_one no_trees q p is = (is, tt)
are-and_one (tree r rs) q p is = (p.0, are-and_one rs q p.1 is)

-- one query more was passed over
pub one_passed : (n : ℕ) (mid rest after : List ℕ) → (qs : Trees) × AreQueries qs × (count_of qs ≡ n) × (mid ≡ queries_bytes qs ++ rest) → (q : Tree) × StandsAtStart IsQuery query_bytes q rest after
    → (qs : Trees) × AreQueries qs × (count_of qs ≡ n + 1) × (mid ≡ queries_bytes qs ++ after)
one_passed n mid rest after p q = (
  and_one p.0 q.0,
  are-and_one p.0 q.0 p.1 q.1.0,
  count-and_one p.0 q.0 ∙ ap (λ (k : ℕ). k + 1) p.2,
  p.3 ∙ ap (λ (t : List ℕ). queries_bytes p.0 ++ t) q.1.1 ∙ sym (append_assoc (queries_bytes p.0) (query_bytes q.0) after)
      ∙ ap (λ (t : List ℕ). t ++ after) (sym (bytes-and_one p.0 q.0)),
)

-- as many as the count says
pub list_passed : (n counter : ℕ) (bytes mid rest : List ℕ) → StandsAtStart (λ n. n < 2 ^ 32) be32 n bytes mid → n ≡ counter → (qs : Trees) × AreQueries qs × (count_of qs ≡ counter) × (mid ≡ queries_bytes qs ++ rest)
    → (qs : Trees) × StandsAtStart IsQueryList list_bytes qs bytes rest
list_passed n counter bytes mid rest b k p =
    let count : n ≡ count_of p.0 = k ∙ sym p.2 in (
      p.0,
      (
        (subst (λ (m : ℕ). m < 2 ^ 32) count b.0, p.1),
        b.1 ∙ ap (λ (m : ℕ). be32 m ++ mid) count ∙ ap (λ (t : List ℕ). be32 (count_of p.0) ++ t) p.3 ∙ sym (append_assoc (be32 (count_of p.0)) (queries_bytes p.0) rest),
      ),
    )

after_byte : (byte tag : ℕ) (bytes mid rest front : List ℕ) → byte ≡ tag → bytes ≡ byte_alone byte ++ mid → mid ≡ front ++ rest → bytes ≡ (byte_alone tag ++ front) ++ rest
after_byte byte tag bytes mid rest front t b m =
    b ∙ ap (λ (n : ℕ). byte_alone n ++ mid) t ∙ ap (λ (ts : List ℕ). byte_alone tag ++ ts) m

pub all_passed : (byte : ℕ) (bytes rest : List ℕ) → byte ≡ 0 → bytes ≡ byte_alone byte ++ rest → (q : Tree) × StandsAtStart IsQuery query_bytes q bytes rest
all_passed byte bytes rest t b = (all, (tt, b ∙ ap (λ (n : ℕ). byte_alone n ++ rest) t))

pub term_passed : (byte : ℕ) (pair : Pair) (bytes mid rest : List ℕ) → byte ≡ 1 → bytes ≡ byte_alone byte ++ mid → StandsAtStart IsPair pair_bytes pair mid rest → (q : Tree) × StandsAtStart IsQuery query_bytes q bytes rest
term_passed byte pair bytes mid rest t b p = (term pair.0 pair.1, (p.0, after_byte byte 1 bytes mid rest (pair_bytes pair) t b p.1))

pub phrase_passed : (byte : ℕ) (pair : Pair) (bytes mid rest : List ℕ) → byte ≡ 2 → bytes ≡ byte_alone byte ++ mid → StandsAtStart IsPair pair_bytes pair mid rest → (q : Tree) × StandsAtStart IsQuery query_bytes q bytes rest
phrase_passed byte pair bytes mid rest t b p = (phrase pair.0 pair.1, (p.0, after_byte byte 2 bytes mid rest (pair_bytes pair) t b p.1))

pub range_passed : (byte : ℕ) (parts : Range) (bytes mid rest : List ℕ) → byte ≡ 4 → bytes ≡ byte_alone byte ++ mid → StandsAtStart IsRange range_bytes parts mid rest → (q : Tree) × StandsAtStart IsQuery query_bytes q bytes rest
range_passed byte parts bytes mid rest t b p = (range parts.0 parts.1.0 parts.1.1, (p.0, after_byte byte 4 bytes mid rest (range_bytes parts) t b p.1))

three_lists : (a b c rest : List ℕ) → a ++ (b ++ (c ++ rest)) ≡ (a ++ (b ++ c)) ++ rest
three_lists a b c rest = simp append_assoc

pub bool_passed : (byte : ℕ) (bytes mid should_at not_at rest : List ℕ) → byte ≡ 3 → bytes ≡ byte_alone byte ++ mid → (qs : Trees) × StandsAtStart IsQueryList list_bytes qs mid should_at
    → (qs : Trees) × StandsAtStart IsQueryList list_bytes qs should_at not_at → (qs : Trees) × StandsAtStart IsQueryList list_bytes qs not_at rest → (q : Tree) × StandsAtStart IsQuery query_bytes q bytes rest
bool_passed byte bytes mid should_at not_at rest t b p q r =
    let joined : mid ≡ (list_bytes p.0 ++ (list_bytes q.0 ++ list_bytes r.0)) ++ rest =
    p.1.1 ∙ ap (λ (ts : List ℕ). list_bytes p.0 ++ ts) (q.1.1 ∙ ap (λ (ts : List ℕ). list_bytes q.0 ++ ts) r.1.1) ∙ three_lists (list_bytes p.0) (list_bytes q.0) (list_bytes r.0) rest in
    (bool p.0 q.0 r.0, ((p.1.0, q.1.0, r.1.0), after_byte byte 3 bytes mid rest (list_bytes p.0 ++ (list_bytes q.0 ++ list_bytes r.0)) t b joined))
