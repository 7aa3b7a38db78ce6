-- The words of all fields as terms, field by field.
use Rattle.std.proofs.Common.{◌≡◌, ℕ, List, [], ◌∷◌, ◌++◌, ◌&&◌, ◌||◌, map, get_or, zero, suc, refl, sym, ap, ◌∙◌, subst, arith}
use Rattle.std.specs.List.{AllByRecursion, AllPairs}
use Rattle.std.specs.List.Sorted.{IsStrictlySortedBy}
use Rattle.std.specs.Map.{keys_of}
use Rattle.std.specs.Str.{bytes_eq}
use Rattle.std.specs.Cmp.Lexicographic.{slice_cmp}
use Rattle.std.specs.Ordering.{nat_cmp, ordering_then}
use Rattle.std.specs.declared.cmp.Ordering.{Ordering}
use Rattle.std.specs.declared.cmp.Ordering.TheVariants.{Less}
use Rattle.std.proofs.lemmas.List.{append_assoc, append-nil, map-append, length-map}
use Rattle.std.proofs.lemmas.List.Folds.{list_any-append}
use Rattle.std.proofs.lemmas.List.Elements.{All-from_recursion}
use Rattle.std.proofs.lemmas.Map.Keys.{Less-from_sorted}
use Rattle.ix_base.specs.Inversion.{term_cmp, posted, posted_at, IsTermPostings}
use Rattle.ix_base.specs.declared.document.Term.{Term}
use Rattle.ix_base.specs.declared.postings.TermPostings.{TermPostings}
use Rattle.analysis.specs.Kept.{WordLists, FieldLists, kept_in, kept, AreTermsOf, AreAllTerms}
use Rattle.analysis.proofs.Entries.{finds_push}

abbrev term_in : TermPostings → Term
term_in t = t.term

-- The terms of the fields that were taken: they are below all fields that are left.
pub record AreTaken (all seen rest : FieldLists) (terms : List TermPostings) : Type 0 where
  pub whole : seen ++ rest ≡ all
  pub sorted : IsStrictlySortedBy (slice_cmp nat_cmp) (keys_of rest)
  pub below : AllByRecursion (λ t. AllByRecursion (λ n. slice_cmp nat_cmp t.term.field n ≡ Less) (keys_of rest)) terms
  pub rise : IsStrictlySortedBy term_cmp (map (λ t. t.term) terms)
  pub each : AllByRecursion IsTermPostings terms
  pub exact : (f w : List ℕ) (r x : ℕ) → posted terms f w r x ≡ kept seen f w r x

none_rise : IsStrictlySortedBy term_cmp []
unfolding IsStrictlySortedBy
none_rise = tt

pub taken_begin : (all : FieldLists) → IsStrictlySortedBy (slice_cmp nat_cmp) (keys_of all) → AreTaken all [] all []
taken_begin all sorted = record { whole = refl; sorted = sorted; below = tt; rise = none_rise; each = tt; exact = λ f w r x. refl }

all_append : {X : Type 0} (P : X → Type 0) (xs ys : List X) → AllByRecursion P xs → AllByRecursion P ys → AllByRecursion P (xs ++ ys)
all_append P [] ys h k = k
all_append P (x ∷ xs) ys h k = (h.0, all_append P xs ys h.1 k)

all_weaker : {X : Type 0} (P Q : X → Type 0) → ((x : X) → P x → Q x) → (xs : List X) → AllByRecursion P xs → AllByRecursion Q xs
all_weaker P Q f [] h = tt
all_weaker P Q f (x ∷ xs) h = (f x h.0, all_weaker P Q f xs h.1)

sorted_append : (xs ys : List Term) → IsStrictlySortedBy term_cmp xs → IsStrictlySortedBy term_cmp ys → AllByRecursion (λ a. AllByRecursion (λ b. term_cmp a b ≡ Less) ys) xs → IsStrictlySortedBy term_cmp (xs ++ ys)
unfolding IsStrictlySortedBy
sorted_append [] ys h k cross = k
sorted_append (x ∷ xs) ys h k cross = (all_append (λ b. term_cmp x b ≡ Less) xs ys h.0 cross.0, sorted_append xs ys h.1 k cross.1)

sorted_tail : (n : List ℕ) (ns : List (List ℕ)) → IsStrictlySortedBy (slice_cmp nat_cmp) (n ∷ ns) → AllByRecursion (λ m. slice_cmp nat_cmp n m ≡ Less) ns × IsStrictlySortedBy (slice_cmp nat_cmp) ns
unfolding IsStrictlySortedBy
sorted_tail n ns h = h

-- a term of a lower field is below the terms of this field
field_less : (a b : Term) (n : List ℕ) → slice_cmp nat_cmp a.field n ≡ Less → b.field ≡ n → term_cmp a b ≡ Less
field_less a b n low is =
    ap (λ (m : List ℕ). ordering_then (slice_cmp nat_cmp a.field m) (slice_cmp nat_cmp a.bytes b.bytes)) is
    ∙ ap (λ (o : Ordering). ordering_then o (slice_cmp nat_cmp a.bytes b.bytes)) low

less_than_made : (a : Term) (n : List ℕ) (made : List TermPostings) → slice_cmp nat_cmp a.field n ≡ Less → AllByRecursion (λ t. t.term.field ≡ n) made → AllByRecursion (λ b. term_cmp a b ≡ Less) (map term_in made)
less_than_made a n [] low named = tt
less_than_made a n (t ∷ made) low named = (field_less a t.term n low named.0, less_than_made a n made low named.1)

crossed : (n : List ℕ) (ns : List (List ℕ)) (terms made : List TermPostings) → AllByRecursion (λ t. AllByRecursion (λ m. slice_cmp nat_cmp t.term.field m ≡ Less) (n ∷ ns)) terms
    → AllByRecursion (λ t. t.term.field ≡ n) made → AllByRecursion (λ a. AllByRecursion (λ b. term_cmp a b ≡ Less) (map term_in made)) (map term_in terms)
crossed n ns [] made below named = tt
crossed n ns (t ∷ terms) made below named = (less_than_made t.term n made below.0.0 named, crossed n ns terms made below.1 named)

-- one more field
pub taken_step : (all seen rest : FieldLists) (n : List ℕ) (words : WordLists) (terms made : List TermPostings)
    → AreTaken all seen ((n, words) ∷ rest) terms → AreTermsOf n words made → AreTaken all (seen ++ (n, words) ∷ []) rest (terms ++ made)
taken_step all seen rest n words terms made h m =
    let parts = sorted_tail n (keys_of rest) h.sorted in
    let lower : TermPostings → Type 0 = λ t. AllByRecursion (λ k. slice_cmp nat_cmp t.term.field k ≡ Less) (keys_of rest) in
    record {
      whole = append_assoc seen ((n, words) ∷ []) rest ∙ h.whole;
      sorted = parts.1;
      below = all_append lower terms made
          (all_weaker (λ (t : TermPostings). AllByRecursion (λ k. slice_cmp nat_cmp t.term.field k ≡ Less) (n ∷ keys_of rest)) lower (λ t p. p.1) terms h.below)
          (all_weaker (λ (t : TermPostings). t.term.field ≡ n) lower (λ t is. subst (λ (f : List ℕ). AllByRecursion (λ k. slice_cmp nat_cmp f k ≡ Less) (keys_of rest)) (sym is) parts.0) made m.named);
      rise = subst (IsStrictlySortedBy term_cmp) (sym (map-append term_in terms made))
          (sorted_append (map term_in terms) (map term_in made) h.rise m.rise (crossed n (keys_of rest) terms made h.below m.named));
      each = all_append IsTermPostings terms made h.each m.each;
      exact = λ f w r x.
          list_any-append (λ (t : TermPostings). (bytes_eq t.term.field f && bytes_eq t.term.bytes w) && posted_at t.rows r x) terms made
          ∙ (λ i. h.exact f w r x i || m.exact f w r x i)
          ∙ sym (finds_push (λ (k : List ℕ). k) (λ (l : WordLists). kept_in l w r x) f n words seen);
    }

terms_rise : (terms : List TermPostings) → IsStrictlySortedBy term_cmp (map term_in terms) → AllPairs (λ a b. term_cmp a.term b.term ≡ Less) terms
terms_rise terms sorted i j d lt in' =
    let less = Less-from_sorted term_cmp (map term_in terms) i j d.term sorted lt (omega (arith, length-map terms term_in)) in
    subst (λ (a : Term). term_cmp a (get_or terms j d).term ≡ Less) (term_at terms i d) (subst (λ (b : Term). term_cmp (get_or (map term_in terms) i d.term) b ≡ Less) (term_at terms j d) less)
  where
    term_at : (es : List TermPostings) (i : ℕ) (d : TermPostings) → get_or (map term_in es) i d.term ≡ (get_or es i d).term
    term_at [] i d = refl
    term_at (e ∷ es) zero d = refl
    term_at (e ∷ es) (suc i) d = term_at es i d

pub taken_all : (all seen : FieldLists) (terms : List TermPostings) → AreTaken all seen [] terms → AreAllTerms all terms
taken_all all seen terms h = record {
  ordered = record { rise = terms_rise terms h.rise; each = All-from_recursion IsTermPostings terms h.each };
  exact = λ f w r x. h.exact f w r x ∙ ap (λ (l : FieldLists). kept l f w r x) (sym (append-nil seen) ∙ h.whole);
}
