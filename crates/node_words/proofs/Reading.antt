-- Reading queries from the start of bytes.
use Rattle.std.proofs.Common.{◌≡◌, ℕ, ◌+◌, ◌<◌, ◌≤◌, ◌^◌, List, [], ◌∷◌, ◌++◌, length, drop, sym, ap, subst, ◌∙◌, append_assoc, arith, length-append}
use Rattle.ix_base.proofs.EntryLaws.{length-be32}
use Rattle.ix_base.specs.Query.{tree_of, trees_of}
use Rattle.ix_base.specs.QueryBytes.{count_of, query_bytes, queries_bytes, list_bytes, IsQuery, AreQueries, IsQueryList}
use Rattle.ix_base.specs.Spelling.{be32}
use Rattle.ix_base.specs.Tree.{all, term, phrase, range, bool, Trees}
use Rattle.ix_base.specs.declared.query.Query.{Query}
use Rattle.node_words.proofs.Forms.{one_number}
use Rattle.node_words.proofs.Both.{first_fails, second_fails}
use Rattle.node_words.proofs.QueryForms.{goes_on, one_list}
use Rattle.node_words.proofs.Sizes.{queries_bytes-push, count_of-push, AreQueries-push}
use Rattle.node_words.specs.Reads.{StandsAtStart, FailsAtStart, byte_alone, IsPair, pair_bytes, IsRange, range_bytes, ThreeLists, AreLists, lists_bytes}
use Rattle.node_words.specs.declared.fault.ReadError.{ReadError}
use Rattle.node_words.specs.declared.fault.ReadError.TheVariants.{Memory, Foreign}

-- ---- the first byte of a query says its kind

first_byte : (bytes : List ℕ) → FailsAtStart (λ b. b < 256) byte_alone bytes Foreign → FailsAtStart IsQuery query_bytes bytes Foreign
first_byte bytes h all rest is e = h 0 rest (omega arith) e
first_byte bytes h (term f t) rest is e = h 1 (pair_bytes (f, t) ++ rest) (omega arith) e
first_byte bytes h (phrase f t) rest is e = h 2 (pair_bytes (f, t) ++ rest) (omega arith) e
first_byte bytes h (range n l u) rest is e = h 4 (range_bytes (n, (l, u)) ++ rest) (omega arith) e
first_byte bytes h (bool a b c) rest is e = h 3 (lists_bytes (a, (b, c)) ++ rest) (omega arith) e

pub byte_fails : (e : ReadError) (bytes : List ℕ) → FailsAtStart (λ b. b < 256) byte_alone bytes e → FailsAtStart IsQuery query_bytes bytes e
byte_fails Memory bytes h = tt
byte_fails Foreign bytes h = first_byte bytes h

after_one : (bytes mid : List ℕ) → bytes ≡ 1 ∷ mid → FailsAtStart IsPair pair_bytes mid Foreign → FailsAtStart IsQuery query_bytes bytes Foreign
after_one bytes mid b h all rest is e = absurd (cc b)
after_one bytes mid b h (term f t) rest is e = h (f, t) rest is (ap (drop 1) (sym b ∙ e))
after_one bytes mid b h (phrase f t) rest is e = absurd (cc b)
after_one bytes mid b h (range n l u) rest is e = absurd (cc b)
after_one bytes mid b h (bool x y z) rest is e = absurd (cc b)

pub term_fails : (e : ReadError) (bytes mid : List ℕ) (byte : ℕ) → byte ≡ 1 → bytes ≡ byte_alone byte ++ mid → FailsAtStart IsPair pair_bytes mid e → FailsAtStart IsQuery query_bytes bytes e
term_fails Memory bytes mid byte one b h = tt
term_fails Foreign bytes mid byte one b h = after_one bytes mid (b ∙ ap (λ (n : ℕ). n ∷ mid) one) h

after_two : (bytes mid : List ℕ) → bytes ≡ 2 ∷ mid → FailsAtStart IsPair pair_bytes mid Foreign → FailsAtStart IsQuery query_bytes bytes Foreign
after_two bytes mid b h all rest is e = absurd (cc b)
after_two bytes mid b h (term f t) rest is e = absurd (cc b)
after_two bytes mid b h (phrase f t) rest is e = h (f, t) rest is (ap (drop 1) (sym b ∙ e))
after_two bytes mid b h (range n l u) rest is e = absurd (cc b)
after_two bytes mid b h (bool x y z) rest is e = absurd (cc b)

pub phrase_fails : (e : ReadError) (bytes mid : List ℕ) (byte : ℕ) → byte ≡ 2 → bytes ≡ byte_alone byte ++ mid → FailsAtStart IsPair pair_bytes mid e → FailsAtStart IsQuery query_bytes bytes e
phrase_fails Memory bytes mid byte two b h = tt
phrase_fails Foreign bytes mid byte two b h = after_two bytes mid (b ∙ ap (λ (n : ℕ). n ∷ mid) two) h

after_three : (bytes mid : List ℕ) → bytes ≡ 3 ∷ mid → FailsAtStart AreLists lists_bytes mid Foreign → FailsAtStart IsQuery query_bytes bytes Foreign
after_three bytes mid b h all rest is e = absurd (cc b)
after_three bytes mid b h (term f t) rest is e = absurd (cc b)
after_three bytes mid b h (phrase f t) rest is e = absurd (cc b)
after_three bytes mid b h (range n l u) rest is e = absurd (cc b)
after_three bytes mid b h (bool x y z) rest is e = h (x, (y, z)) rest (is.0, (is.1, is.2)) (ap (drop 1) (sym b ∙ e))

pub bool_fails : (e : ReadError) (bytes mid : List ℕ) (byte : ℕ) → byte ≡ 3 → bytes ≡ byte_alone byte ++ mid → FailsAtStart AreLists lists_bytes mid e → FailsAtStart IsQuery query_bytes bytes e
bool_fails Memory bytes mid byte three b h = tt
bool_fails Foreign bytes mid byte three b h = after_three bytes mid (b ∙ ap (λ (n : ℕ). n ∷ mid) three) h

after_four : (bytes mid : List ℕ) → bytes ≡ 4 ∷ mid → FailsAtStart IsRange range_bytes mid Foreign → FailsAtStart IsQuery query_bytes bytes Foreign
after_four bytes mid b h all rest is e = absurd (cc b)
after_four bytes mid b h (term f t) rest is e = absurd (cc b)
after_four bytes mid b h (phrase f t) rest is e = absurd (cc b)
after_four bytes mid b h (range n l u) rest is e = h (n, (l, u)) rest is (ap (drop 1) (sym b ∙ e))
after_four bytes mid b h (bool x y z) rest is e = absurd (cc b)

pub range_fails : (e : ReadError) (bytes mid : List ℕ) (byte : ℕ) → byte ≡ 4 → bytes ≡ byte_alone byte ++ mid → FailsAtStart IsRange range_bytes mid e → FailsAtStart IsQuery query_bytes bytes e
range_fails Memory bytes mid byte four b h = tt
range_fails Foreign bytes mid byte four b h = after_four bytes mid (b ∙ ap (λ (n : ℕ). n ∷ mid) four) h

front-of : (byte tag : ℕ) (mid rest : List ℕ) → byte ∷ mid ≡ tag ∷ rest → byte ≡ tag
front-of byte tag mid rest e = cc

-- any other first byte
pub other_fails : (bytes mid : List ℕ) (byte : ℕ) → 5 ≤ byte → bytes ≡ byte_alone byte ++ mid → FailsAtStart IsQuery query_bytes bytes Foreign
other_fails bytes mid byte le b all rest is e = absurd (omega (arith, front-of byte 0 mid rest (sym b ∙ e)))
other_fails bytes mid byte le b (term f t) rest is e = absurd (omega (arith, front-of byte 1 mid (pair_bytes (f, t) ++ rest) (sym b ∙ e)))
other_fails bytes mid byte le b (phrase f t) rest is e = absurd (omega (arith, front-of byte 2 mid (pair_bytes (f, t) ++ rest) (sym b ∙ e)))
other_fails bytes mid byte le b (range n l u) rest is e = absurd (omega (arith, front-of byte 4 mid (range_bytes (n, (l, u)) ++ rest) (sym b ∙ e)))
other_fails bytes mid byte le b (bool x y z) rest is e = absurd (omega (arith, front-of byte 3 mid (lists_bytes (x, (y, z)) ++ rest) (sym b ∙ e)))

-- ---- a list of queries

-- fewer queries than the count were read, and the next can't be
pub list_fails : (e : ReadError) (bytes mid rest : List ℕ) (n : ℕ) (before : Trees) → StandsAtStart (λ n. n < 2 ^ 32) be32 n bytes mid → AreQueries before → count_of before < n
    → mid ≡ queries_bytes before ++ rest → FailsAtStart IsQuery query_bytes rest e → FailsAtStart IsQueryList list_bytes bytes e
list_fails Memory bytes mid rest n before p are lt m h = tt
list_fails Foreign bytes mid rest n before p are lt m h = λ qs after is e.
    let s = one_number n (count_of qs) mid (queries_bytes qs ++ after) p.0 is.0 (sym p.1 ∙ e ∙ append_assoc (be32 (count_of qs)) (queries_bytes qs) after) in
    let next = goes_on before qs rest after (omega (arith, s.0)) are is.1 (sym m ∙ s.1) in
    h next.0 next.1 next.2 next.3

pub one_read : (items more : List Query) (q : Query) (mid rest after : List ℕ) → more ≡ items ++ q ∷ [] → AreQueries (trees_of items) → IsQuery (tree_of q)
    → mid ≡ queries_bytes (trees_of items) ++ rest → rest ≡ query_bytes (tree_of q) ++ after
    → AreQueries (trees_of more) × (count_of (trees_of more) ≡ count_of (trees_of items) + 1) × (mid ≡ queries_bytes (trees_of more) ++ after)
one_read items more q mid rest after m are is e r = (
  subst (λ (xs : List Query). AreQueries (trees_of xs)) (sym m) (AreQueries-push items q are is),
  ap (λ (xs : List Query). count_of (trees_of xs)) m ∙ count_of-push items q,
  e ∙ ap (λ (t : List ℕ). queries_bytes (trees_of items) ++ t) r ∙ sym (append_assoc (queries_bytes (trees_of items)) (query_bytes (tree_of q)) after)
      ∙ ap (λ (t : List ℕ). t ++ after) (sym (queries_bytes-push items q) ∙ ap (λ (xs : List Query). queries_bytes (trees_of xs)) (sym m)),
)

pub left_le : (front bytes rest : List ℕ) → bytes ≡ front ++ rest → length rest ≤ length bytes
left_le front bytes rest e = omega (arith, ap length e, length-append front rest)

pub count_taken : (n : ℕ) (bytes rest : List ℕ) → bytes ≡ be32 n ++ rest → length rest + 4 ≡ length bytes
count_taken n bytes rest e = omega (arith, ap length e, length-append (be32 n) rest, length-be32 n)

-- ---- the three lists of a bool

abbrev TwoLists : Type 0
TwoLists = Trees × Trees

abbrev AreTwo : TwoLists → Type 0
AreTwo v = IsQueryList v.0 × IsQueryList v.1

abbrev two_bytes : TwoLists → List ℕ
two_bytes v = list_bytes v.0 ++ list_bytes v.1

pub must_fails : (e : ReadError) (bytes : List ℕ) → FailsAtStart IsQueryList list_bytes bytes e → FailsAtStart AreLists lists_bytes bytes e
must_fails e bytes h = first_fails IsQueryList list_bytes AreTwo two_bytes (λ (v : ThreeLists). v.0) (λ (v : ThreeLists). v.1) e bytes h

pub should_fails : (e : ReadError) (must : Trees) (bytes mid : List ℕ) → StandsAtStart IsQueryList list_bytes must bytes mid → FailsAtStart IsQueryList list_bytes mid e → FailsAtStart AreLists lists_bytes bytes e
should_fails e must bytes mid p h =
    second_fails IsQueryList list_bytes AreTwo two_bytes (λ (v : ThreeLists). v.0) (λ (v : ThreeLists). v.1) one_list e must bytes mid p
    (first_fails IsQueryList list_bytes IsQueryList list_bytes (λ (v : TwoLists). v.0) (λ (v : TwoLists). v.1) e mid h)

pub must_not_fails : (e : ReadError) (must should : Trees) (bytes mid rest : List ℕ) → StandsAtStart IsQueryList list_bytes must bytes mid → StandsAtStart IsQueryList list_bytes should mid rest
    → FailsAtStart IsQueryList list_bytes rest e → FailsAtStart AreLists lists_bytes bytes e
must_not_fails e must should bytes mid rest p q h =
    second_fails IsQueryList list_bytes AreTwo two_bytes (λ (v : ThreeLists). v.0) (λ (v : ThreeLists). v.1) one_list e must bytes mid p
    (second_fails IsQueryList list_bytes IsQueryList list_bytes (λ (v : TwoLists). v.0) (λ (v : TwoLists). v.1) one_list e should mid rest q h)
