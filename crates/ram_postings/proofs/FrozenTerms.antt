-- The terms of a buffer, in the order of its lists.
use Rattle.std.proofs.Common.{◌≡◌, ℕ, zero, suc, ◌+◌, ◌<◌, Option, Some, List, [], ◌∷◌, ◌++◌, Bool, true, false, ◌&&◌, ◌||◌, ◌==◌, ◌↔◌, IsTrue, cond, length, map, get_or, refl, sym, ap, ◌∙◌, subst, arith}
use Rattle.std.specs.List.{list_any, AllPairs, AllByRecursion, IsDistinct, All}
use Rattle.std.specs.Prelude.{IsPermutation}
use Rattle.std.specs.List.Sorted.{IsStrictlySortedBy, IsSortedBy}
use Rattle.std.specs.Option.{option_map_or}
use Rattle.std.specs.Map.{lookup}
use Rattle.std.specs.Ordering.{is_eq, is_lt, eq_by_cmp, ordering_reverse}
use Rattle.std.specs.declared.cmp.Ordering.{Ordering}
use Rattle.std.specs.declared.cmp.Ordering.TheVariants.{Less, Equal, Greater}
use Rattle.std.proofs.lemmas.Bool.{eqb-true}
use Rattle.std.proofs.lemmas.List.{append_assoc, append-nil, map-append, length-map}
use Rattle.std.proofs.lemmas.List.Folds.{list_any-append}
use Rattle.std.proofs.lemmas.List.Elements.{All-from_recursion}
use Rattle.std.proofs.lemmas.Map.Keys.{Less-from_sorted, sorted_from_all_adjacent, IsDistinct-IsPermutation}
use Rattle.std.proofs.lemmas.List.Sorted.{IsPermutation-map, list_any-IsPermutation, All-permutation}
use Rattle.ix_base.specs.Grouped.{with_spot, grouped_from, grouped, joined, ArePostings}
use Rattle.ix_base.specs.Inversion.{term_cmp, posted, posted_at, IsTermPostings, IsPostings}
use Rattle.ix_base.specs.declared.document.Term.{Term}
use Rattle.ix_base.specs.declared.postings.Posting.{Posting}
use Rattle.ix_base.specs.declared.postings.TermPostings.{TermPostings}
use Rattle.ix_base.specs.declared.spots.Spot.{Spot}
use Rattle.ix_base.proofs.TermOrder.{term_total}
use Rattle.ram_postings.specs.Kept.{kept, number_of, HasNoNumber}
use Rattle.ix_base.proofs.GroupedLaws.{or_false}
use Rattle.ram_postings.proofs.KeptLists.{is_term, is_term_same, is_term_itself, posted_more, term_equal, term_itself}

-- ---- lists with no place

joined_some : (b : Bool) (g : Posting) (s : Spot) → joined b g s ≡ [] → true ≡ false
joined_some true g s e = cc
joined_some false g s e = cc

with_some : (gs : List Posting) (s : Spot) → with_spot gs s ≡ [] → true ≡ false
with_some [] s e = cc
with_some (g ∷ []) s e = joined_some _ g s e
with_some (g ∷ h ∷ gs) s e = cc

from_some : (gs : List Posting) (spots : List Spot) → (gs ≡ [] → true ≡ false) → grouped_from gs spots ≡ [] → true ≡ false
from_some gs [] some e = some e
from_some gs (s ∷ spots) some e = from_some (with_spot gs s) spots (with_some gs s) e

pub no_place : (spots : List Spot) → grouped spots ≡ [] → spots ≡ []
no_place [] e = refl
no_place (s ∷ spots) e = absurd (let f : true ≡ false = from_some (with_spot [] s) spots (with_some [] s) e in cc)

pub empty_list : (rows : List Posting) (spots : List Spot) (b : Bool) → rows ≡ grouped spots → b ≡ (length spots == 0) → IsTrue b ↔ (rows ≡ [])
empty_list rows [] b is e = (λ h. is, λ h. e)
empty_list rows (s ∷ spots) b is e = (λ h. (let z : length (s ∷ spots) ≡ 0 = eqb-true (length (s ∷ spots)) 0 (sym e ∙ h) in absurd (omega arith)), λ h. (let f : (s ∷ spots) ≡ [] = no_place (s ∷ spots) (sym is ∙ h) in cc))

pub some_place : (rows : List Posting) → (rows ≡ [] → ⊥) → 0 < length rows
some_place [] h = absurd (h refl)
some_place (g ∷ gs) h = omega arith

-- ---- entries passed one after another

-- an entry of the term has it under the mark at the position
abbrev pub held : List (Term × List Posting) → Term → ℕ → ℕ → Bool
held seen t m x = list_any (λ e. is_term t e.0 && posted_at e.1 m x) seen

held_more : (seen : List (Term × List Posting)) (k : Term) (rows : List Posting) (t : Term) (m x : ℕ)
    → held (seen ++ (k, rows) ∷ []) t m x ≡ (held seen t m x || (is_term t k && posted_at rows m x))
held_more seen k rows t m x =
    list_any-append (λ (e : Term × List Posting). is_term t e.0 && posted_at e.1 m x) seen ((k, rows) ∷ [])
    ∙ ap (λ (b : Bool). held seen t m x || b) (sym (or_false (is_term t k && posted_at rows m x)))

abbrev pub same_term : Term → Term → Bool
same_term = eq_by_cmp term_cmp

-- the entries that were passed, and the terms that were made of them
pub record AreTaken (all : List (Term × List Posting)) (numbers : List (Option ℕ)) (seen rest : List (Term × List Posting)) (made : List TermPostings) : Type 0 where
  pub whole : seen ++ rest ≡ all
  pub apart : IsDistinct same_term (map (λ (e : Term × List Posting). e.0) all)
  pub left : IsDistinct same_term (map (λ (e : TermPostings). e.term) made ++ map (λ (e : Term × List Posting). e.0) rest)
  pub each : AllByRecursion IsTermPostings made
  pub others : (t : Term) (r x : ℕ) → HasNoNumber numbers r → posted made t.field t.bytes r x ≡ false
  pub ok : (t : Term) (m r x : ℕ) → number_of numbers m ≡ Some r → posted made t.field t.bytes r x ≡ held seen t m x

each_push : (xs : List TermPostings) (y : TermPostings) → AllByRecursion IsTermPostings xs → IsTermPostings y → AllByRecursion IsTermPostings (xs ++ y ∷ [])
each_push [] y h p = (p, tt)
each_push (x ∷ xs) y h p = (h.0, each_push xs y h.1 p)

-- an entry of which a term is made
pub taken_term : (all : List (Term × List Posting)) (numbers : List (Option ℕ)) (seen rest : List (Term × List Posting)) (made : List TermPostings) (k t' : Term) (list rows : List Posting)
    → AreTaken all numbers seen ((k, list) ∷ rest) made → t' ≡ k → (rows ≡ [] → ⊥) → ArePostings rows
    → ((r x : ℕ) → HasNoNumber numbers r → posted_at rows r x ≡ false)
    → ((m r x : ℕ) → number_of numbers m ≡ Some r → posted_at rows r x ≡ posted_at list m x)
    → AreTaken all numbers (seen ++ (k, list) ∷ []) rest (made ++ record { term = t'; rows = rows } ∷ [])
taken_term all numbers seen rest made k t' list rows h same some are others ok =
    let entry : TermPostings = record { term = t'; rows = rows } in
    let terms : map (λ (e : TermPostings). e.term) (made ++ entry ∷ []) ++ map (λ (e : Term × List Posting). e.0) rest ≡ map (λ (e : TermPostings). e.term) made ++ k ∷ map (λ (e : Term × List Posting). e.0) rest =
    ap (λ (l : List Term). l ++ map (λ (e : Term × List Posting). e.0) rest) (map-append (λ (e : TermPostings). e.term) made (entry ∷ []))
    ∙ append_assoc (map (λ (e : TermPostings). e.term) made) (t' ∷ []) (map (λ (e : Term × List Posting). e.0) rest)
    ∙ ap (λ (u : Term). map (λ (e : TermPostings). e.term) made ++ u ∷ map (λ (e : Term × List Posting). e.0) rest) same in
    record {
      whole = append_assoc seen ((k, list) ∷ []) rest ∙ h.whole;
      apart = h.apart;
      left = subst (IsDistinct same_term) (sym terms) h.left;
      each = each_push made entry h.each (record { some = some_place rows some; rise = are.rise; each = are.each });
      others = λ t r x free. posted_more made entry t r x ∙ ap (λ (b : Bool). b || (is_term t t' && posted_at rows r x)) (h.others t r x free) ∙ ap (λ (b : Bool). is_term t t' && b) (others r x free) ∙ and_false (is_term t t');
      ok = λ t m r x has.
          posted_more made entry t r x
          ∙ ap (λ (b : Bool). b || (is_term t t' && posted_at rows r x)) (h.ok t m r x has)
          ∙ ap (λ (b : Bool). held seen t m x || (is_term t t' && b)) (ok m r x has)
          ∙ ap (λ (u : Term). held seen t m x || (is_term t u && posted_at list m x)) same
          ∙ sym (held_more seen k list t m x);
    }
  where
    and_false : (b : Bool) → (b && false) ≡ false
    and_false true = refl
    and_false false = refl

all_skip : (P : Term → Type 0) (xs ys : List Term) (k : Term) → AllByRecursion P (xs ++ k ∷ ys) → AllByRecursion P (xs ++ ys)
all_skip P [] ys k h = h.1
all_skip P (x ∷ xs) ys k h = (h.0, all_skip P xs ys k h.1)

distinct_skip : (xs ys : List Term) (k : Term) → IsDistinct same_term (xs ++ k ∷ ys) → IsDistinct same_term (xs ++ ys)
unfolding IsDistinct
distinct_skip [] ys k h = h.1
distinct_skip (x ∷ xs) ys k h = (all_skip (λ y. same_term x y ≡ false) xs ys k h.0, distinct_skip xs ys k h.1)

-- an entry with no place in a row that has a number
pub taken_nothing : (all : List (Term × List Posting)) (numbers : List (Option ℕ)) (seen rest : List (Term × List Posting)) (made : List TermPostings) (k : Term) (list rows : List Posting)
    → AreTaken all numbers seen ((k, list) ∷ rest) made → rows ≡ []
    → ((m r x : ℕ) → number_of numbers m ≡ Some r → posted_at rows r x ≡ posted_at list m x)
    → AreTaken all numbers (seen ++ (k, list) ∷ []) rest made
taken_nothing all numbers seen rest made k list rows h none ok = record {
  whole = append_assoc seen ((k, list) ∷ []) rest ∙ h.whole;
  apart = h.apart;
  left = distinct_skip (map (λ (e : TermPostings). e.term) made) (map (λ (e : Term × List Posting). e.0) rest) k h.left;
  each = h.each;
  others = h.others;
  ok = λ t m r x has.
      h.ok t m r x has
      ∙ or_false (held seen t m x)
      ∙ ap (λ (b : Bool). held seen t m x || b) (sym (and_none (is_term t k) (posted_at list m x) (sym (ok m r x has) ∙ ap (λ (l : List Posting). posted_at l r x) none)))
      ∙ sym (held_more seen k list t m x);
}
  where
    and_none : (a b : Bool) → b ≡ false → (a && b) ≡ false
    and_none true b e = e
    and_none false b e = refl

-- ---- the end

is_term_cmp : (t u : Term) → is_eq (term_cmp t u) ≡ is_term t u
is_term_cmp t u = go (is_eq (term_cmp t u)) (is_term t u) refl refl
  where
    go : (a b : Bool) → is_eq (term_cmp t u) ≡ a → is_term t u ≡ b → a ≡ b
    go true true p q = refl
    go true false p q = sym (is_term_itself t) ∙ ap (is_term t) (term_equal t u p) ∙ q
    go false true p q = sym p ∙ ap (λ (v : Term). is_eq (term_cmp t v)) (is_term_same t u q) ∙ term_itself t
    go false false p q = refl

not_later : (e : Term) (es : List (Term × List Posting)) (m x : ℕ) → AllByRecursion (λ y. same_term e y ≡ false) (map (λ (e : Term × List Posting). e.0) es) → held es e m x ≡ false
not_later e [] m x h = refl
not_later e (f ∷ es) m x h =
    ap (λ (b : Bool). (b && posted_at f.1 m x) || held es e m x) (sym (is_term_cmp e f.0) ∙ h.0) ∙ not_later e es m x h.1

-- an entry of the term is the one that a look-up finds
pub held_kept : (es : List (Term × List Posting)) → IsDistinct same_term (map (λ (e : Term × List Posting). e.0) es) → (t : Term) (m x : ℕ) → held es t m x ≡ kept es t m x
unfolding IsDistinct
held_kept [] apart t m x = refl
held_kept (e ∷ es) apart t m x = ap (λ (b : Bool). (b && posted_at e.1 m x) || held es t m x) (sym (is_term_cmp t e.0)) ∙ go (is_eq (term_cmp t e.0)) refl (held_kept es apart.1 t m x)
  where
    go : (b : Bool) → is_eq (term_cmp t e.0) ≡ b → held es t m x ≡ kept es t m x
        → ((b && posted_at e.1 m x) || held es t m x) ≡ option_map_or (λ rows. posted_at rows m x) (cond b (Some e.1) (lookup (same_term t) es)) false
    go true q more =
        let none : held es t m x ≡ false = ap (λ (u : Term). held es u m x) (term_equal t e.0 q) ∙ not_later e.0 es m x apart.0 in
        ap (λ (b : Bool). posted_at e.1 m x || b) none ∙ sym (or_false (posted_at e.1 m x))
    go false q more = more

terms_rise : (made : List TermPostings) → IsStrictlySortedBy term_cmp (map (λ (e : TermPostings). e.term) made) → AllPairs (λ a b. term_cmp a.term b.term ≡ Less) made
terms_rise made sorted i j d lt in' =
    let less = Less-from_sorted term_cmp (map (λ (e : TermPostings). e.term) made) i j d.term sorted lt (omega (arith, length-map made (λ (e : TermPostings). e.term))) in
    subst (λ (a : Term). term_cmp a (get_or made j d).term ≡ Less) (term_at made i d) (subst (λ (b : Term). term_cmp (get_or (map (λ (e : TermPostings). e.term) made) i d.term) b ≡ Less) (term_at made j d) less)
  where
    term_at : (es : List TermPostings) (i : ℕ) (d : TermPostings) → get_or (map (λ (e : TermPostings). e.term) es) i d.term ≡ (get_or es i d).term
    term_at [] i d = refl
    term_at (e ∷ es) zero d = refl
    term_at (e ∷ es) (suc i) d = term_at es i d

pub taken_apart : (all : List (Term × List Posting)) (numbers : List (Option ℕ)) (seen : List (Term × List Posting)) (made : List TermPostings) → AreTaken all numbers seen [] made
    → IsDistinct same_term (map (λ (e : TermPostings). e.term) made)
taken_apart all numbers seen made h = subst (IsDistinct same_term) (append-nil (map (λ (e : TermPostings). e.term) made)) h.left

pub taken_each : (all : List (Term × List Posting)) (numbers : List (Option ℕ)) (seen : List (Term × List Posting)) (made : List TermPostings) → AreTaken all numbers seen [] made → All IsTermPostings made
taken_each all numbers seen made h = All-from_recursion IsTermPostings made h.each

pub taken_exact : (all : List (Term × List Posting)) (numbers : List (Option ℕ)) (seen : List (Term × List Posting)) (made : List TermPostings) → AreTaken all numbers seen [] made
    → (t : Term) (m r x : ℕ) → number_of numbers m ≡ Some r → posted made t.field t.bytes r x ≡ kept all t m x
taken_exact all numbers seen made h t m r x has =
    h.ok t m r x has
    ∙ ap (λ (l : List (Term × List Posting)). held l t m x) (sym (append-nil seen) ∙ h.whole)
    ∙ held_kept all h.apart t m x

pub taken_begin : (all : List (Term × List Posting)) (numbers : List (Option ℕ)) → IsDistinct same_term (map (λ (e : Term × List Posting). e.0) all) → AreTaken all numbers [] all []
taken_begin all numbers apart = record { whole = refl; apart = apart; left = apart; each = tt; others = λ t r x free. refl; ok = λ t m r x has. refl }

-- ---- different terms that are sorted

next_differs : (ks : List Term) (k : ℕ) (d : Term) → IsDistinct same_term ks → k + 1 < length ks → same_term (get_or ks k d) (get_or ks (k + 1) d) ≡ false
unfolding IsDistinct
next_differs [] k d h lt = absurd (omega arith)
next_differs (a ∷ []) k d h lt = absurd (omega arith)
next_differs (a ∷ b ∷ ks) zero d h lt = h.0.0
next_differs (a ∷ b ∷ ks) (suc k) d h lt =
    subst (λ (n : ℕ). same_term (get_or (b ∷ ks) k d) (get_or (a ∷ b ∷ ks) n d) ≡ false) {x = suc (k + 1)} {y = suc k + 1} (omega arith) (next_differs (b ∷ ks) k d h.1 (omega arith))

less : (a b : Term) → is_lt (term_cmp b a) ≡ false → same_term a b ≡ false → term_cmp a b ≡ Less
less a b up apart = go (term_cmp a b) refl
  where
    go : (o : Ordering) → term_cmp a b ≡ o → o ≡ Less
    go Less e = refl
    go Equal e = let f : true ≡ false = sym (ap is_eq e) ∙ apart in cc
    go Greater e = let f : true ≡ false = sym (ap is_lt (term_total.antisymm b a ∙ ap ordering_reverse e)) ∙ up in cc

term_at : (es : List TermPostings) (i : ℕ) (d : TermPostings) → get_or (map (λ (e : TermPostings). e.term) es) i d.term ≡ (get_or es i d).term
term_at [] i d = refl
term_at (e ∷ es) zero d = refl
term_at (e ∷ es) (suc i) d = term_at es i d

flips : (a b : Term) → same_term a b ≡ same_term b a
flips a b = go (same_term a b) (same_term b a) refl refl
  where
    go : (p q : Bool) → same_term a b ≡ p → same_term b a ≡ q → p ≡ q
    go true true e f = refl
    go false false e f = refl
    go true false e f = sym (ap (λ (t : Term). same_term t a) (sym (term_equal a b e)) ∙ term_itself a) ∙ f
    go false true e f = sym e ∙ ap (λ (t : Term). same_term a t) (term_equal b a f) ∙ term_itself a

pub sorted_terms : (made sorted : List TermPostings) → IsDistinct same_term (map (λ (e : TermPostings). e.term) made) → All IsTermPostings made
    → IsPermutation made sorted → IsSortedBy (λ a b. is_lt (term_cmp a.term b.term)) sorted → IsPostings sorted
sorted_terms made [] apart each same up = record { rise = λ i j d lt in'. absurd (omega arith); each = All-permutation IsTermPostings made [] same each }
sorted_terms made (first ∷ more) apart each same up = record { rise = terms_rise sorted keys_rise; each = All-permutation IsTermPostings made sorted same each }
  where
    sorted : List TermPostings
    sorted = first ∷ more

    keys : List Term
    keys = map (λ (e : TermPostings). e.term) sorted

    differ : IsDistinct same_term keys
    differ = IsDistinct-IsPermutation same_term flips (map (λ (e : TermPostings). e.term) made) keys (IsPermutation-map (λ (e : TermPostings). e.term) made sorted same) apart

    step : (k : ℕ) → k + 1 < length keys → term_cmp (get_or keys k first.term) (get_or keys (k + 1) first.term) ≡ Less
    step k lt =
        let low : is_lt (term_cmp (get_or sorted (k + 1) first).term (get_or sorted k first).term) ≡ false = up k first (omega arith) (omega (arith, length-map sorted (λ (e : TermPostings). e.term))) in
        let raised : is_lt (term_cmp (get_or keys (k + 1) first.term) (get_or keys k first.term)) ≡ false = (λ i. is_lt (term_cmp (term_at sorted (k + 1) first i) (term_at sorted k first i))) ∙ low in
        less (get_or keys k first.term) (get_or keys (k + 1) first.term) raised (next_differs keys k first.term differ lt)

    keys_rise : IsStrictlySortedBy term_cmp keys
    keys_rise = sorted_from_all_adjacent term_total keys first.term step

pub posted_sorted : (made sorted : List TermPostings) → IsPermutation made sorted → (t : Term) (r x : ℕ) → posted sorted t.field t.bytes r x ≡ posted made t.field t.bytes r x
posted_sorted made sorted same t r x = sym (list_any-IsPermutation (λ (e : TermPostings). is_term t e.term && posted_at e.rows r x) made sorted same)
