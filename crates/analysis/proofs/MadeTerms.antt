-- The words of one field as terms.
use Rattle.std.proofs.Common.{◌≡◌, ℕ, zero, suc, ◌+◌, ◌<◌, List, [], ◌∷◌, Bool, true, false, ◌&&◌, ◌||◌, map, length, get_or, refl, sym, ap, ◌∙◌, subst, arith}
use Rattle.std.specs.Prelude.{IsPermutation}
use Rattle.std.specs.List.{All, AllByRecursion, IsDistinct}
use Rattle.std.specs.List.Sorted.{IsSorted, IsStrictlySortedBy}
use Rattle.std.specs.Map.{keys_of, values_of}
use Rattle.std.specs.Str.{bytes_eq}
use Rattle.std.specs.Cmp.{IsTotalOrder}
use Rattle.std.specs.Cmp.Lexicographic.{slice_cmp, texts_ties}
use Rattle.std.specs.Ordering.{nat_cmp, is_lt, is_eq, ordering_then, ordering_reverse}
use Rattle.std.specs.declared.cmp.Ordering.{Ordering}
use Rattle.std.specs.declared.cmp.Ordering.TheVariants.{Less, Equal, Greater}
use Rattle.std.proofs.lemmas.Cmp.{on_total, nat_list_cmp_total, tied_itself}
use Rattle.std.proofs.lemmas.List.Elements.{recursion_from_All}
use Rattle.std.proofs.lemmas.List.Sorted.{list_any-IsPermutation}
use Rattle.std.proofs.lemmas.Map.Keys.{sorted_from_all_adjacent}
use Rattle.std.proofs.lemmas.Map.Views.{All-map-IsPermutation}
use Rattle.ix_base.specs.Inversion.{term_cmp, posted, posted_at, IsTermPostings}
use Rattle.ix_base.specs.declared.document.Term.{Term}
use Rattle.ix_base.specs.declared.postings.Posting.{Posting}
use Rattle.ix_base.specs.declared.postings.TermPostings.{TermPostings}
use Rattle.analysis.specs.Kept.{term_of, IsWordList, AreTermsOf}
use Rattle.analysis.proofs.Entries.{finds}
use Rattle.analysis.proofs.WordPlaces.{shown, kept_shown}

module _ {K : Type 0} (name : K → List ℕ) where
  abbrev key_cmp : K → K → Ordering
  key_cmp a b = slice_cmp nat_cmp (name a) (name b)

  abbrev key_eq : K → K → Bool
  key_eq a b = bytes_eq (name a) (name b)

  -- ---- order

  next_differs : (ks : List K) (k : ℕ) (d : K) → IsDistinct key_eq ks → k + 1 < length ks → key_eq (get_or ks k d) (get_or ks (k + 1) d) ≡ false
  unfolding IsDistinct
  next_differs [] k d h lt = absurd (omega arith)
  next_differs (a ∷ []) k d h lt = absurd (omega arith)
  next_differs (a ∷ b ∷ ks) zero d h lt = h.0.0
  next_differs (a ∷ b ∷ ks) (suc k) d h lt =
      subst (λ (n : ℕ). key_eq (get_or (b ∷ ks) k d) (get_or (a ∷ b ∷ ks) n d) ≡ false) {x = suc (k + 1)} {y = suc k + 1} (omega arith) (next_differs (b ∷ ks) k d h.1 (omega arith))

  less : (a b : K) → is_lt (key_cmp b a) ≡ false → key_eq a b ≡ false → key_cmp a b ≡ Less
  less a b up apart = go (key_cmp a b) refl
    where
      go : (o : Ordering) → key_cmp a b ≡ o → o ≡ Less
      go Less e = refl
      go Equal e = let f : true ≡ false = sym (texts_ties (name a) (name b) ∙ ap is_eq e) ∙ apart in cc
      go Greater e = let f : true ≡ false = sym (ap is_lt (nat_list_cmp_total.antisymm (name b) (name a) ∙ ap ordering_reverse e)) ∙ up in cc

  keys_rise : (ks : List K) → IsSorted key_cmp ks → IsDistinct key_eq ks → IsStrictlySortedBy key_cmp ks
  unfolding IsStrictlySortedBy
  keys_rise [] up apart = tt
  keys_rise (a ∷ ks) up apart =
      let total : IsTotalOrder key_cmp = on_total name nat_list_cmp_total in
      sorted_from_all_adjacent total (a ∷ ks) a (λ k lt. less (get_or (a ∷ ks) k a) (get_or (a ∷ ks) (k + 1) a) (up k a (omega arith) lt) (next_differs (a ∷ ks) k a apart lt))

  module _ (field : List ℕ) where
    -- words as terms
    abbrev pub made : List (K × List Posting) → List TermPostings
    made es = map (λ e. term_of field (name e.0, e.1)) es

    term_less : (a b : List ℕ) (left right : Term) → left ≡ record { field = field; bytes = a } → right ≡ record { field = field; bytes = b } → slice_cmp nat_cmp a b ≡ Less → term_cmp left right ≡ Less
    term_less a b left right l r h =
        (λ i. term_cmp (l i) (r i)) ∙ ap (λ (o : Ordering). ordering_then o (slice_cmp nat_cmp a b)) (tied_itself nat_list_cmp_total field) ∙ h

    below : (e : K × List Posting) (es : List (K × List Posting)) → AllByRecursion (λ k. key_cmp e.0 k ≡ Less) (keys_of es)
        → AllByRecursion (λ t. term_cmp (record { field = field; bytes = name e.0 }) t ≡ Less) (map (λ (t : TermPostings). t.term) (made es))
    below e [] h = tt
    below e (f ∷ es) h = (term_less (name e.0) (name f.0) (record { field = field; bytes = name e.0 }) (record { field = field; bytes = name f.0 }) refl refl h.0, below e es h.1)

    terms_rise : (es : List (K × List Posting)) → IsStrictlySortedBy key_cmp (keys_of es) → IsStrictlySortedBy term_cmp (map (λ (t : TermPostings). t.term) (made es))
    unfolding IsStrictlySortedBy
    terms_rise [] h = tt
    terms_rise (e ∷ es) h = (below e es h.0, terms_rise es h.1)

    -- ---- lists and places

    terms_each : (es : List (K × List Posting)) → AllByRecursion IsWordList (values_of es) → AllByRecursion IsTermPostings (made es)
    terms_each [] h = tt
    terms_each (e ∷ es) h = (record { some = h.0.0; rise = h.0.1.rise; each = h.0.1.each }, terms_each es h.1)

    terms_named : (es : List (K × List Posting)) → AllByRecursion (λ t. t.term.field ≡ field) (made es)
    terms_named [] = tt
    terms_named (e ∷ es) = (refl, terms_named es)

    drawn : (n b p r : Bool) → ((n && b && p) || (n && r)) ≡ (n && (b && p || r))
    drawn true b p r = refl
    drawn false b p r = refl

    terms_exact : (es : List (K × List Posting)) (f w : List ℕ) (r x : ℕ) → posted (made es) f w r x ≡ (bytes_eq field f && finds name (λ rows. posted_at rows r x) w es)
    terms_exact [] f w r x = none (bytes_eq field f)
      where
        none : (b : Bool) → false ≡ (b && false)
        none true = refl
        none false = refl
    terms_exact (e ∷ es) f w r x =
        ap (λ (b : Bool). ((bytes_eq field f && bytes_eq (name e.0) w) && posted_at e.1 r x) || b) (terms_exact es f w r x)
        ∙ drawn (bytes_eq field f) (bytes_eq (name e.0) w) (posted_at e.1 r x) (finds name (λ rows. posted_at rows r x) w es)

    -- the words in order, as terms
    pub terms_made : (old sorted : List (K × List Posting)) → All IsWordList (values_of old) → IsPermutation old sorted → IsSorted key_cmp (keys_of sorted) → IsDistinct key_eq (keys_of sorted)
        → AreTermsOf field (shown name old) (made sorted)
    terms_made old sorted lists same up apart = record {
      rise = terms_rise sorted (keys_rise (keys_of sorted) up apart);
      each = terms_each sorted (recursion_from_All IsWordList (values_of sorted) (All-map-IsPermutation (λ (e : K × List Posting). e.1) IsWordList old sorted same lists));
      named = terms_named sorted;
      exact = λ f w r x.
          terms_exact sorted f w r x
          ∙ ap (λ (b : Bool). bytes_eq field f && b) (sym (list_any-IsPermutation (λ (e : K × List Posting). bytes_eq (name e.0) w && posted_at e.1 r x) old sorted same) ∙ sym (kept_shown name old w r x));
    }
