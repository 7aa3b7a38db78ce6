-- Numbers that are set, in one walk through two lists that rise by name.
use Rattle.std.proofs.Common.{◌≡◌, ◌∙◌, ℕ, zero, suc, ◌+◌, ◌<◌, ◌≤◌, ℤ, List, [], ◌∷◌, ◌++◌, true, ◌⊎◌, inl, inr, length, map, drop, get_or, refl, sym, ap, subst, is_eq, Ordering, Less, Equal, Greater, arith}
use Rattle.std.specs.Cmp.Lexicographic.{slice_cmp, texts_ties}
use Rattle.std.specs.Ordering.{nat_cmp, match_ordering, is_lt, ordering_reverse}
use Rattle.std.proofs.lemmas.Bool.{and_from, and_parts}
use Rattle.std.proofs.lemmas.Cmp.{nat_list_cmp_total}
use Rattle.std.proofs.lemmas.List.{append_assoc, append-nil}
use Rattle.std.proofs.lemmas.Slice.Eq.{bytes_eq-Decides}
use Rattle.std.proofs.Math.ListN.{drop_of_length-le}
use Rattle.ix_base.specs.Limits.{text_lt, rise_after, names_rise}
use Rattle.ix_base.specs.Steps.{Named, with_number}
use Rattle.segment_core.specs.LiveRows.{with_numbers}

abbrev pub names : List Named → List (List ℕ)
names = map (λ n. n.0)

same_text : (a b : List ℕ) → slice_cmp nat_cmp a b ≡ Equal → a ≡ b
same_text a b e = (bytes_eq-Decides a b).0 (texts_ties a b ∙ ap is_eq e)

turned : (a b : List ℕ) (o : Ordering) → slice_cmp nat_cmp a b ≡ o → slice_cmp nat_cmp b a ≡ ordering_reverse o
turned a b o e = nat_list_cmp_total.antisymm b a ∙ ap ordering_reverse e

less : (a b : List ℕ) → text_lt a b ≡ true → slice_cmp nat_cmp a b ≡ Less
less a b h = go (slice_cmp nat_cmp a b) h
  where
    go : (o : Ordering) → is_lt o ≡ true → o ≡ Less
    go Less h = refl
    go Equal h = cc
    go Greater h = cc

less_all : (a b c : List ℕ) → text_lt a b ≡ true → text_lt b c ≡ true → text_lt a c ≡ true
less_all a b c h k = ap is_lt (nat_list_cmp_total.trans a b c (less a b h) (less b c k))

-- ---- numbers that rise

after_lower : (low name : List ℕ) (ns : List (List ℕ)) → text_lt low name ≡ true → rise_after name ns ≡ true → rise_after low ns ≡ true
after_lower low name [] lt rise = refl
after_lower low name (n ∷ ns) lt rise =
    let parts = and_parts (text_lt name n) (rise_after n ns) rise in
    and_from (text_lt low n) (rise_after n ns) (less_all low name n lt parts.0) parts.1

after_set : (low name : List ℕ) (value : ℤ) (ns : List Named) → text_lt low name ≡ true → rise_after low (names ns) ≡ true → rise_after low (names (with_number name value ns)) ≡ true
after_set low name value [] lt rise = and_from (text_lt low name) true lt refl
after_set low name value (n ∷ ns) lt rise =
    by_order (slice_cmp nat_cmp name n.0) refl (and_parts (text_lt low n.0) (rise_after n.0 (names ns)) rise) (after_set n.0 name value ns)
  where
    by_order : (o : Ordering) → slice_cmp nat_cmp name n.0 ≡ o → (text_lt low n.0 ≡ true) × (rise_after n.0 (names ns) ≡ true)
        → (text_lt n.0 name ≡ true → rise_after n.0 (names ns) ≡ true → rise_after n.0 (names (with_number name value ns)) ≡ true)
        → rise_after low (names (match_ordering o ((name, value) ∷ n ∷ ns) ((name, value) ∷ ns) (n ∷ with_number name value ns))) ≡ true
    by_order Less e here more = and_from _ _ lt (and_from _ _ (ap is_lt e) here.1)
    by_order Equal e here more = and_from _ _ lt (subst (λ (low : List ℕ). rise_after low (names ns) ≡ true) (sym (same_text name n.0 e)) here.1)
    by_order Greater e here more = and_from _ _ here.0 (more (ap is_lt (turned name n.0 Greater e)) here.1)

rise_set : (name : List ℕ) (value : ℤ) (ns : List Named) → names_rise (names ns) ≡ true → names_rise (names (with_number name value ns)) ≡ true
rise_set name value [] rise = refl
rise_set name value (n ∷ ns) rise = by_order (slice_cmp nat_cmp name n.0) refl
  where
    by_order : (o : Ordering) → slice_cmp nat_cmp name n.0 ≡ o
        → names_rise (names (match_ordering o ((name, value) ∷ n ∷ ns) ((name, value) ∷ ns) (n ∷ with_number name value ns))) ≡ true
    by_order Less e = and_from _ _ (ap is_lt e) rise
    by_order Equal e = subst (λ (low : List ℕ). rise_after low (names ns) ≡ true) (sym (same_text name n.0 e)) rise
    by_order Greater e = after_set n.0 name value ns (ap is_lt (turned name n.0 Greater e)) rise

-- numbers rise by name where others are set in them
pub rise_with : (values numbers : List Named) → names_rise (names numbers) ≡ true → names_rise (names (with_numbers values numbers)) ≡ true
rise_with [] numbers rise = rise
rise_with (v ∷ values) numbers rise = rise_set v.0 v.1 (with_numbers values numbers) (rise_with values numbers rise)

after_with : (low : List ℕ) (values numbers : List Named) → rise_after low (names values) ≡ true → rise_after low (names numbers) ≡ true → rise_after low (names (with_numbers values numbers)) ≡ true
after_with low [] numbers set rise = rise
after_with low (v ∷ values) numbers set rise =
    let parts = and_parts (text_lt low v.0) (rise_after v.0 (names values)) set in
    after_set low v.0 v.1 (with_numbers values numbers) parts.0 (after_with low values numbers (after_lower low v.0 (names values) parts.0 parts.1) rise)

-- ---- the next number

put_first : (name : List ℕ) (value : ℤ) (ns : List Named) → rise_after name (names ns) ≡ true → with_number name value ns ≡ (name, value) ∷ ns
put_first name value [] rise = refl
put_first name value (n ∷ ns) rise =
    let parts = and_parts (text_lt name n.0) (rise_after n.0 (names ns)) rise in
    ap (λ (o : Ordering). match_ordering o ((name, value) ∷ n ∷ ns) ((name, value) ∷ ns) (n ∷ with_number name value ns)) (less name n.0 parts.0)

-- a number whose name comes before those of all that are set stays first
own_first : (n : Named) (values numbers : List Named) → rise_after n.0 (names values) ≡ true → with_numbers values (n ∷ numbers) ≡ n ∷ with_numbers values numbers
own_first n [] numbers rise = refl
own_first n (v ∷ values) numbers rise =
    let parts = and_parts (text_lt n.0 v.0) (rise_after v.0 (names values)) rise in
    let after : slice_cmp nat_cmp v.0 n.0 ≡ Greater = turned n.0 v.0 Less (less n.0 v.0 parts.0) in
    let rest = with_numbers values numbers in
    ap (with_number v.0 v.1) (own_first n values numbers (after_lower n.0 v.0 (names values) parts.0 parts.1))
    ∙ ap (λ (o : Ordering). match_ordering o (v ∷ n ∷ rest) (v ∷ rest) (n ∷ with_number v.0 v.1 rest)) after

-- a number of the same name is set in its place
set_equal : (n v : Named) (values numbers : List Named) → names_rise (names (v ∷ values)) ≡ true → slice_cmp nat_cmp n.0 v.0 ≡ Equal → with_numbers (v ∷ values) (n ∷ numbers) ≡ v ∷ with_numbers values numbers
set_equal n v values numbers rise e =
    let rest = with_numbers values numbers in
    let above : rise_after n.0 (names values) ≡ true = subst (λ (low : List ℕ). rise_after low (names values) ≡ true) (sym (same_text n.0 v.0 e)) rise in
    ap (with_number v.0 v.1) (own_first n values numbers above)
    ∙ ap (λ (o : Ordering). match_ordering o (v ∷ n ∷ rest) (v ∷ rest) (n ∷ with_number v.0 v.1 rest)) (turned n.0 v.0 Equal e)

-- a number whose name comes before all is set before them
set_first : (v : Named) (values numbers : List Named) → names_rise (names (v ∷ values)) ≡ true → rise_after v.0 (names numbers) ≡ true → with_numbers (v ∷ values) numbers ≡ v ∷ with_numbers values numbers
set_first v values numbers rise above = put_first v.0 v.1 (with_numbers values numbers) (after_with v.0 values numbers rise above)

-- ---- the walk

rise_rest : (n : List ℕ) (ns : List (List ℕ)) → rise_after n ns ≡ true → names_rise ns ≡ true
rise_rest n [] rise = refl
rise_rest n (m ∷ ns) rise = (and_parts (text_lt n m) (rise_after m ns) rise).1

pub rise_drop : (j : ℕ) (ns : List Named) → names_rise (names ns) ≡ true → names_rise (names (drop j ns)) ≡ true
rise_drop zero [] rise = rise
rise_drop (suc j) [] rise = rise
rise_drop zero (n ∷ ns) rise = rise
rise_drop (suc j) (n ∷ ns) rise = rise_drop j ns (rise_rest n.0 (names ns) rise)

at_drop : (j : ℕ) (ns : List Named) (d : Named) → j < length ns → drop j ns ≡ get_or ns j d ∷ drop (j + 1) ns
at_drop j [] d lt = absurd (omega arith)
at_drop zero (n ∷ ns) d lt = refl
at_drop (suc j) (n ∷ ns) d lt = at_drop j ns d (omega arith) ∙ ap (λ (m : ℕ). get_or ns j d ∷ drop m (n ∷ ns)) (let e : suc (j + 1) ≡ suc j + 1 = omega arith in e)

module _ (own set made : List Named) (i j : ℕ) (d e : Named) (in' : i < length own) (on : j < length set)
    (own_rise : names_rise (names own) ≡ true) (set_rise : names_rise (names set) ≡ true)
    (so_far : made ++ with_numbers (drop j set) (drop i own) ≡ with_numbers set own) where
  abbrev n : Named
  n = get_or own i d

  abbrev v : Named
  v = get_or set j e

  owned : drop i own ≡ n ∷ drop (i + 1) own
  owned = at_drop i own d in'

  setted : drop j set ≡ v ∷ drop (j + 1) set
  setted = at_drop j set e on

  set_above : names_rise (names (v ∷ drop (j + 1) set)) ≡ true
  set_above = subst (λ (l : List Named). names_rise (names l) ≡ true) setted (rise_drop j set set_rise)

  own_above : names_rise (names (n ∷ drop (i + 1) own)) ≡ true
  own_above = subst (λ (l : List Named). names_rise (names l) ≡ true) owned (rise_drop i own own_rise)

  next : (x : Named) (rest : List Named) → with_numbers (drop j set) (drop i own) ≡ x ∷ rest → (made ++ x ∷ []) ++ rest ≡ with_numbers set own
  next x rest e = append_assoc made (x ∷ []) rest ∙ ap (λ (l : List Named). made ++ l) (sym e) ∙ so_far

  pub next_less : slice_cmp nat_cmp n.0 v.0 ≡ Less → (made ++ n ∷ []) ++ with_numbers (drop j set) (drop (i + 1) own) ≡ with_numbers set own
  next_less e =
      next n (with_numbers (drop j set) (drop (i + 1) own))
      (ap (with_numbers (drop j set)) owned
      ∙ own_first n (drop j set) (drop (i + 1) own) (subst (λ (l : List Named). rise_after n.0 (names l) ≡ true) (sym setted) (and_from (text_lt n.0 v.0) (rise_after v.0 (names (drop (j + 1) set))) (ap is_lt e) set_above)))

  pub next_equal : slice_cmp nat_cmp n.0 v.0 ≡ Equal → (made ++ v ∷ []) ++ with_numbers (drop (j + 1) set) (drop (i + 1) own) ≡ with_numbers set own
  next_equal e =
      next v (with_numbers (drop (j + 1) set) (drop (i + 1) own))
      ((λ k. with_numbers (setted k) (owned k)) ∙ set_equal n v (drop (j + 1) set) (drop (i + 1) own) set_above e)

  pub next_greater : slice_cmp nat_cmp n.0 v.0 ≡ Greater → (made ++ v ∷ []) ++ with_numbers (drop (j + 1) set) (drop i own) ≡ with_numbers set own
  next_greater e =
      next v (with_numbers (drop (j + 1) set) (drop i own))
      (ap (λ (l : List Named). with_numbers l (drop i own)) setted
      ∙ set_first v (drop (j + 1) set) (drop i own) set_above (subst (λ (l : List Named). rise_after v.0 (names l) ≡ true) (sym owned) (and_from (text_lt v.0 n.0) (rise_after n.0 (names (drop (i + 1) own))) (ap is_lt (turned n.0 v.0 Greater e)) own_above)))

-- what is set where no number is left, in a list that rises
all_set : (values : List Named) → names_rise (names values) ≡ true → with_numbers values [] ≡ values
all_set [] rise = refl
all_set (v ∷ values) rise = ap (with_number v.0 v.1) (all_set values (rise_rest v.0 (names values) rise)) ∙ put_first v.0 v.1 values rise

-- the rest of both lists, of which one has ended
pub rest_of_both : (own set made : List Named) (i j : ℕ) → names_rise (names set) ≡ true → made ++ with_numbers (drop j set) (drop i own) ≡ with_numbers set own → (length own ≤ i) ⊎ (length set ≤ j) → (made ++ drop i own) ++ drop j set ≡ with_numbers set own
rest_of_both own set made i j rise so_far (inl ended) =
    let none : drop i own ≡ [] = drop_of_length-le own ended in
    ap (λ (l : List Named). (made ++ l) ++ drop j set) none ∙ ap (λ (l : List Named). l ++ drop j set) (append-nil made)
    ∙ ap (λ (l : List Named). made ++ l) (sym (all_set (drop j set) (rise_drop j set rise)))
    ∙ ap (λ (l : List Named). made ++ with_numbers (drop j set) l) (sym none) ∙ so_far
rest_of_both own set made i j rise so_far (inr ended) =
    let none : drop j set ≡ [] = drop_of_length-le set ended in
    ap (λ (l : List Named). (made ++ drop i own) ++ l) none ∙ append-nil (made ++ drop i own)
    ∙ ap (λ (l : List Named). made ++ with_numbers l (drop i own)) (sym none) ∙ so_far
