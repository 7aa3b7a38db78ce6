-- A binary search among numbers whose names rise finds where a name's number stands, or would be put.
use Rattle.std.proofs.Common.{◌≡◌, ◌∙◌, ℕ, ℤ, zero, suc, ◌+◌, ◌<◌, ◌≤◌, Bool, true, false, cond, List, [], ◌∷◌, length, get_or, set, map, Some, None, Result, Ok, Err, refl, ap, subst, arith, Ordering, Less, Equal, Greater}
use Rattle.std.specs.Cmp.Lexicographic.{slice_cmp, texts_ties}
use Rattle.std.specs.List.{insert, HoldsAt}
use Rattle.std.specs.List.Sorted.{IsBinarySearchResult, IsSearchInRange, IsNonDecreasingBy, IsPartitionPoint, IsSortedBy}
use Rattle.std.specs.Ordering.{nat_cmp, is_lt, is_eq, ordering_index, ordering_reverse, match_ordering}
use Rattle.std.specs.Prelude.{IfOk}
use Rattle.std.proofs.lemmas.Bool.{and_parts}
use Rattle.std.proofs.lemmas.Cmp.{nat_list_cmp_total}
use Rattle.std.proofs.lemmas.List.Sorted.{searchable_from_sorted}
use Rattle.ix_base.specs.Limits.{text_lt, rise_after, names_rise}
use Rattle.ix_base.specs.Steps.{Named, with_number}
use Rattle.ix_base.proofs.TermOrder.{text_same}
use Rattle.live_docs.specs.Marks.{value_of}
use Rattle.live_docs.specs.Places.{placed, IsReadAt}

abbrev names : List Named → List (List ℕ)
names ns = map (λ n. n.0) ns

abbrev order : List ℕ → List ℕ → Ordering
order = slice_cmp nat_cmp

-- ---- names that rise

rise_next : (low : Named) (ns : List Named) (k : ℕ) (d : Named) → rise_after low.0 (names ns) ≡ true → k < length ns → text_lt (get_or (low ∷ ns) k d).0 (get_or ns k d).0 ≡ true
rise_next low [] k d e lt = absurd (omega arith)
rise_next low (n ∷ ns) zero d e lt = (and_parts (text_lt low.0 n.0) (rise_after n.0 (names ns)) e).0
rise_next low (n ∷ ns) (suc k) d e lt = rise_next n ns k d (and_parts (text_lt low.0 n.0) (rise_after n.0 (names ns)) e).1 (omega arith)

next_comes : (ns : List Named) (k : ℕ) (d : Named) → names_rise (names ns) ≡ true → k + 1 < length ns → text_lt (get_or ns k d).0 (get_or ns (k + 1) d).0 ≡ true
next_comes [] k d e lt = absurd (omega arith)
next_comes (n ∷ ns) k d e lt = subst (λ (q : ℕ). text_lt (get_or (n ∷ ns) k d).0 (get_or (n ∷ ns) q d).0 ≡ true) {x = suc k} {y = k + 1} (omega arith) (rise_next n ns k d e (omega arith))

turned : (o : Ordering) → is_lt o ≡ true → is_lt (ordering_reverse o) ≡ false
turned Less e = refl
turned Equal e = refl
turned Greater e = absurd cc

in_order : (ns : List Named) (name : List ℕ) → names_rise (names ns) ≡ true → IsNonDecreasingBy (λ n. ordering_index (order n.0 name)) ns
in_order ns name rise =
    let sorted : IsSortedBy (λ (a : Named) (b : Named). is_lt (order a.0 b.0)) ns = λ k d low lt.
    ap is_lt (nat_list_cmp_total.antisymm (get_or ns (k + 1) d).0 (get_or ns k d).0) ∙ turned (order (get_or ns k d).0 (get_or ns (k + 1) d).0) (next_comes ns k d rise lt) in
    searchable_from_sorted nat_list_cmp_total (λ (n : Named). n.0) ns name sorted

is_less : (o : Ordering) → is_lt o ≡ true → o ≡ Less
is_less Less e = refl
is_less Equal e = absurd cc
is_less Greater e = absurd cc

rest_rises : (n : Named) (ns : List Named) → names_rise (names (n ∷ ns)) ≡ true → names_rise (names ns) ≡ true
rest_rises n [] rise = refl
rest_rises n (m ∷ ns) rise = (and_parts (text_lt n.0 m.0) (rise_after m.0 (names ns)) rise).1

-- all behind the first come after it
first_before : (n : Named) (ns : List Named) (k : ℕ) (d : Named) → names_rise (names (n ∷ ns)) ≡ true → k < length ns → order n.0 (get_or ns k d).0 ≡ Less
first_before n [] k d rise lt = absurd (omega arith)
first_before n (m ∷ ns) zero d rise lt = is_less (order n.0 m.0) (and_parts (text_lt n.0 m.0) (rise_after m.0 (names ns)) rise).0
first_before n (m ∷ ns) (suc k) d rise lt =
    nat_list_cmp_total.trans n.0 m.0 (get_or ns k d).0
    (is_less (order n.0 m.0) (and_parts (text_lt n.0 m.0) (rise_after m.0 (names ns)) rise).0)
    (first_before m ns k d (rest_rises n (m ∷ ns) rise) (omega arith))

-- ---- the first number has a name before, or after

reversed : (a b : List ℕ) (o : Ordering) → order a b ≡ o → order b a ≡ ordering_reverse o
reversed a b o e = nat_list_cmp_total.antisymm b a ∙ ap ordering_reverse e

set_past : (name : List ℕ) (value : ℤ) (n : Named) (ns : List Named) → order n.0 name ≡ Less → with_number name value (n ∷ ns) ≡ n ∷ with_number name value ns
set_past name value n ns less =
    ap (λ (o : Ordering). match_ordering o ((name, value) ∷ n ∷ ns) ((name, value) ∷ ns) (n ∷ with_number name value ns)) (reversed n.0 name Less less)

read_past : (name : List ℕ) (n : Named) (ns : List Named) (o : Ordering) → order n.0 name ≡ o → is_eq o ≡ false → value_of name (n ∷ ns) ≡ value_of name ns
read_past name n ns o e other = ap (λ (b : Bool). cond b (Some n.1) (value_of name ns)) (texts_ties n.0 name ∙ ap is_eq e ∙ other)

-- ---- where the search ends at a place to put in

put_in : (ns : List Named) (name : List ℕ) (value : ℤ) (i : ℕ) → i ≤ length ns → ((k : ℕ) (d : Named) → k < i → order (get_or ns k d).0 name ≡ Less)
    → ((k : ℕ) (d : Named) → i ≤ k → k < length ns → order (get_or ns k d).0 name ≡ Greater) → with_number name value ns ≡ insert ns i (name, value)
put_in [] name value zero le before behind = refl
put_in [] name value (suc i) le before behind = absurd (omega (arith, le))
put_in (n ∷ ns) name value zero le before behind =
    ap (λ (o : Ordering). match_ordering o ((name, value) ∷ n ∷ ns) ((name, value) ∷ ns) (n ∷ with_number name value ns)) (reversed n.0 name Greater (behind 0 n (omega arith) (omega arith)))
put_in (n ∷ ns) name value (suc i) le before behind =
    set_past name value n ns (before 0 n (omega arith))
    ∙ ap (λ (rest : List Named). n ∷ rest) (put_in ns name value i (omega (arith, le)) (λ k d lt. before (suc k) d (omega (arith, lt))) (λ k d low lt. behind (suc k) d (omega (arith, low)) (omega (arith, lt))))

none_read : (ns : List Named) (name : List ℕ) (i : ℕ) → ((k : ℕ) (d : Named) → k < i → order (get_or ns k d).0 name ≡ Less)
    → ((k : ℕ) (d : Named) → i ≤ k → k < length ns → order (get_or ns k d).0 name ≡ Greater) → value_of name ns ≡ None
none_read [] name i before behind = refl
none_read (n ∷ ns) name zero before behind =
    read_past name n ns Greater (behind 0 n (omega arith) (omega arith)) refl
    ∙ none_read ns name zero (λ k d lt. absurd (omega (arith, lt))) (λ k d low lt. behind (suc k) d (omega arith) (omega (arith, lt)))
none_read (n ∷ ns) name (suc i) before behind =
    read_past name n ns Less (before 0 n (omega arith)) refl
    ∙ none_read ns name i (λ k d lt. before (suc k) d (omega (arith, lt))) (λ k d low lt. behind (suc k) d (omega (arith, low)) (omega (arith, lt)))

-- ---- where the search ends at the name

put_over : (ns : List Named) (name : List ℕ) (value : ℤ) (i : ℕ) → names_rise (names ns) ≡ true → i < length ns → ((d : Named) → order (get_or ns i d).0 name ≡ Equal) → with_number name value ns ≡ set ns i (name, value)
put_over [] name value i rise lt at = absurd (omega (arith, lt))
put_over (n ∷ ns) name value zero rise lt at =
    ap (λ (o : Ordering). match_ordering o ((name, value) ∷ n ∷ ns) ((name, value) ∷ ns) (n ∷ with_number name value ns)) (reversed n.0 name Equal (at n))
put_over (n ∷ ns) name value (suc i) rise lt at =
    let same : (get_or ns i n).0 ≡ name = text_same (get_or ns i n).0 name (at n) in
    let before : order n.0 name ≡ Less = subst (λ (x : List ℕ). order n.0 x ≡ Less) same (first_before n ns i n rise (omega (arith, lt))) in
    set_past name value n ns before ∙ ap (λ (rest : List Named). n ∷ rest) (put_over ns name value i (rest_rises n ns rise) (omega (arith, lt)) at)

read_there : (ns : List Named) (name : List ℕ) (i : ℕ) (d : Named) → names_rise (names ns) ≡ true → i < length ns → ((d : Named) → order (get_or ns i d).0 name ≡ Equal) → value_of name ns ≡ Some (get_or ns i d).1
read_there [] name i d rise lt at = absurd (omega (arith, lt))
read_there (n ∷ ns) name zero d rise lt at = ap (λ (b : Bool). cond b (Some n.1) (value_of name ns)) (texts_ties n.0 name ∙ ap is_eq (at n))
read_there (n ∷ ns) name (suc i) d rise lt at =
    let same : (get_or ns i n).0 ≡ name = text_same (get_or ns i n).0 name (at n) in
    let before : order n.0 name ≡ Less = subst (λ (x : List ℕ). order n.0 x ≡ Less) same (first_before n ns i n rise (omega (arith, lt))) in
    read_past name n ns Less before refl ∙ read_there ns name i d (rest_rises n ns rise) (omega (arith, lt)) at

-- ---- both

abbrev FoundBy : List ℕ → List Named → Result ℕ ℕ → Type 0
FoundBy name ns r = IsBinarySearchResult (λ (n : Named). order n.0 name) ns r

pub sets_at : (ns : List Named) (name : List ℕ) (r : Result ℕ ℕ) → names_rise (names ns) ≡ true → IsSearchInRange r (length ns) → FoundBy name ns r → (value : ℤ) → with_number name value ns ≡ placed name value ns r
sets_at ns name (Ok i) rise within found value = put_over ns name value i rise within found
sets_at ns name (Err i) rise within parted value =
    let p : IsPartitionPoint (λ (n : Named). order n.0 name ≡ Less) (λ (n : Named). order n.0 name ≡ Greater) ns i = parted (in_order ns name rise) in
    put_in ns name value i within (λ k d lt. p.0 k d (omega arith) lt) p.1

pub reads_at : (ns : List Named) (name : List ℕ) (r : Result ℕ ℕ) → names_rise (names ns) ≡ true → IsSearchInRange r (length ns) → FoundBy name ns r → IsReadAt name ns r
reads_at ns name (Ok i) rise within found = λ d. read_there ns name i d rise within found
reads_at ns name (Err i) rise within parted =
    let p : IsPartitionPoint (λ (n : Named). order n.0 name ≡ Less) (λ (n : Named). order n.0 name ≡ Greater) ns i = parted (in_order ns name rise) in
    none_read ns name i (λ k d lt. p.0 k d (omega arith) lt) p.1

pub named_at : (ns : List Named) (name : List ℕ) (r : Result ℕ ℕ) → FoundBy name ns r → IfOk r (HoldsAt (λ (n : Named). n.0 ≡ name) ns)
named_at ns name (Ok i) found = λ d. text_same (get_or ns i d).0 name (found d)
named_at ns name (Err i) parted = tt
