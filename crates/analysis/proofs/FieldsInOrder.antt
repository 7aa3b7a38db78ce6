-- Fields of a document, one after another: none gets a place twice.
use Rattle.std.proofs.Common.{◌≡◌, ℕ, zero, suc, ◌<◌, List, [], ◌∷◌, ◌++◌, Bool, true, false, not, ◌&&◌, ◌||◌, ◌==◌, map, length, get_or, take, codes, ◌⊎◌, inl, inr, refl, sym, ap, ◌∙◌, subst, arith}
use Rattle.std.specs.List.{flat_map}
use Rattle.std.specs.Str.{bytes_eq}
use Rattle.std.specs.Cmp.Lexicographic.{slice_cmp, texts_ties}
use Rattle.std.specs.Ordering.{nat_cmp, is_lt, is_eq}
use Rattle.std.specs.declared.cmp.Ordering.{Ordering}
use Rattle.std.specs.declared.cmp.Ordering.TheVariants.{Less, Equal, Greater}
use Rattle.std.proofs.lemmas.Bool.{and_parts}
use Rattle.std.proofs.lemmas.Cmp.{nat_list_cmp_total}
use Rattle.std.proofs.lemmas.List.{append-nil, append_assoc}
use Rattle.std.proofs.lemmas.List.Folds.{list_any-append}
use Rattle.std.proofs.lemmas.Slice.Eq.{bytes_eq-Decides}
use Rattle.ix_base.specs.Limits.{text_lt, rise_after, names_rise, is_among, share_name, names_are_apart}
use Rattle.ix_base.specs.Documents.{Document}
use Rattle.ix_base.specs.Matches.{is_term, stands_at}
use Rattle.ix_base.specs.Terms.{Place, whole, terms}
use Rattle.analysis.specs.Kept.{FieldLists, kept, IsFieldBelow, AreFieldsBelow, AddsPlaces, spelled_from, cut_words, cut_places}
use Rattle.analysis.specs.declared.word_lists.Cut.{Cut}
use Rattle.analysis.specs.declared.word_lists.Cut.TheVariants.{Whole, Words}
use Rattle.analysis.proofs.FieldPlaces.{placed_stand}

abbrev Pair : Type 0
Pair = List ℕ × List ℕ

abbrev names : List Pair → List (List ℕ)
names pairs = map (λ pair. pair.0) pairs

-- ---- places that are added

either : (a b : Bool) → (a || b) ≡ true → (a ≡ true) ⊎ (b ≡ true)
either true b e = inl refl
either false b e = inr e

stands_both : (a b : List Place) (f w : List ℕ) (x : ℕ) → stands_at (a ++ b) f w x ≡ (stands_at a f w x || stands_at b f w x)
stands_both a b f w x = list_any-append (λ (place : Place). is_term f w place && (place.position == x)) a b

joined : (old here a b : Bool) → ((old || (here && a)) || (here && b)) ≡ (old || (here && (a || b)))
joined true here a b = refl
joined false true a b = refl
joined false false a b = refl

pub adds_both : (row : ℕ) (a b : List Place) (old mid new : FieldLists) → AddsPlaces row a old mid → AddsPlaces row b mid new → AddsPlaces row (a ++ b) old new
adds_both row a b old mid new first second f w r x =
    second f w r x
    ∙ ap (λ (p : Bool). p || ((row == r) && stands_at b f w x)) (first f w r x)
    ∙ joined (kept old f w r x) (row == r) (stands_at a f w x) (stands_at b f w x)
    ∙ ap (λ (p : Bool). kept old f w r x || ((row == r) && p)) (sym (stands_both a b f w x))

-- a field that got no place is below as before
pub still_below : (row : ℕ) (places : List Place) (field : List ℕ) (old now : FieldLists) → AddsPlaces row places old now
    → ((w : List ℕ) (x : ℕ) → stands_at places field w x ≡ false) → IsFieldBelow row field old → IsFieldBelow row field now
still_below row places field old now adds none below w r x h = go (either (kept old field w r x) ((row == r) && stands_at places field w x) (sym (adds field w r x) ∙ h))
  where
    go : (kept old field w r x ≡ true) ⊎ (((row == r) && stands_at places field w x) ≡ true) → r < row
    go (inl k) = below w r x k
    go (inr k) = let f : true ≡ false = sym (and_parts (row == r) (stands_at places field w x) k).1 ∙ none w x in absurd (let g : true ≡ false = f in cc)

-- ---- names

or_parts : (a b : Bool) → (a || b) ≡ false → (a ≡ false) × (b ≡ false)
or_parts true b e = cc
or_parts false b e = (refl, e)

pub none_of_field : (cut : Cut) (pair : Pair) (field : List ℕ) → bytes_eq pair.0 field ≡ false → (w : List ℕ) (x : ℕ) → stands_at (cut_places cut pair) field w x ≡ false
none_of_field cut pair field other w x = placed_stand 0 pair.0 (cut_words cut pair.1) field w x ∙ ap (λ (b : Bool). b && spelled_from 0 (cut_words cut pair.1) w x) other

pub none_of_fields : (cut : Cut) (pairs : List Pair) (field : List ℕ) → is_among (names pairs) field ≡ false → (w : List ℕ) (x : ℕ) → stands_at (flat_map (cut_places cut) pairs) field w x ≡ false
none_of_fields cut [] field none w x = refl
none_of_fields cut (p ∷ ps) field none w x =
    let parts = or_parts (bytes_eq p.0 field) (is_among (names ps) field) none in
    stands_both (cut_places cut p) (flat_map (cut_places cut) ps) field w x
    ∙ (λ i. none_of_field cut p field parts.0 w x i || none_of_fields cut ps field parts.1 w x i)

is_less : (o : Ordering) → is_lt o ≡ true → o ≡ Less
is_less Less e = refl
is_less Equal e = cc
is_less Greater e = cc

lt_trans : (a b c : List ℕ) → text_lt a b ≡ true → text_lt b c ≡ true → text_lt a c ≡ true
lt_trans a b c h k = ap is_lt (nat_list_cmp_total.trans a b c (is_less (slice_cmp nat_cmp a b) h) (is_less (slice_cmp nat_cmp b c) k))

lt_differs : (a b : List ℕ) → text_lt a b ≡ true → bytes_eq a b ≡ false
lt_differs a b h = texts_ties a b ∙ ap is_eq (is_less (slice_cmp nat_cmp a b) h)

rise_far : (low : List ℕ) (pairs : List Pair) (i : ℕ) (d : Pair) → rise_after low (names pairs) ≡ true → i < length pairs → text_lt low (get_or pairs i d).0 ≡ true
rise_far low [] i d h lt = absurd (omega arith)
rise_far low (p ∷ ps) zero d h lt = (and_parts (text_lt low p.0) (rise_after p.0 (names ps)) h).0
rise_far low (p ∷ ps) (suc i) d h lt =
    let parts = and_parts (text_lt low p.0) (rise_after p.0 (names ps)) h in
    lt_trans low p.0 (get_or ps i d).0 parts.0 (rise_far p.0 ps i d parts.1 (omega arith))

rise_tail : (low : List ℕ) (pairs : List Pair) → rise_after low (names pairs) ≡ true → names_rise (names pairs) ≡ true
rise_tail low [] h = refl
rise_tail low (p ∷ ps) h = (and_parts (text_lt low p.0) (rise_after p.0 (names ps)) h).1

-- no earlier field has the name
not_earlier : (pairs : List Pair) (i : ℕ) (d : Pair) → names_rise (names pairs) ≡ true → i < length pairs → is_among (names (take i pairs)) (get_or pairs i d).0 ≡ false
not_earlier [] i d h lt = absurd (omega arith)
not_earlier (p ∷ ps) zero d h lt = refl
not_earlier (p ∷ ps) (suc i) d h lt =
    let other : bytes_eq p.0 (get_or ps i d).0 ≡ false = lt_differs p.0 (get_or ps i d).0 (rise_far p.0 ps i d h (omega arith)) in
    ap (λ (b : Bool). b || is_among (names (take i ps)) (get_or ps i d).0) other ∙ not_earlier ps i d (rise_tail p.0 ps h) (omega arith)

or_true : (a b : Bool) → b ≡ true → (a || b) ≡ true
or_true true b e = refl
or_true false b e = e

is_there : (pairs : List Pair) (i : ℕ) (d : Pair) → i < length pairs → is_among (names pairs) (get_or pairs i d).0 ≡ true
is_there [] i d lt = absurd (omega arith)
is_there (p ∷ ps) zero d lt = ap (λ (b : Bool). b || is_among (names ps) p.0) ((bytes_eq-Decides p.0 p.0).1 refl)
is_there (p ∷ ps) (suc i) d lt = or_true (bytes_eq p.0 (get_or ps i d).0) (is_among (names ps) (get_or ps i d).0) (is_there ps i d (omega arith))

-- ---- a step

-- the next field is below
pub next_below : (row : ℕ) (cut : Cut) (pairs : List Pair) (i : ℕ) (pair : Pair) (old now : FieldLists) → i < length pairs → pair ≡ get_or pairs i pair → names_rise (names pairs) ≡ true
    → ((field : List ℕ) → is_among (names pairs) field ≡ true → IsFieldBelow row field old)
    → AddsPlaces row (flat_map (cut_places cut) (take i pairs)) old now → IsFieldBelow row pair.0 now
next_below row cut pairs i pair old now lt is rise below adds =
    let there : is_among (names pairs) pair.0 ≡ true = ap (λ (q : Pair). is_among (names pairs) q.0) is ∙ is_there pairs i pair lt in
    let none : is_among (names (take i pairs)) pair.0 ≡ false = ap (λ (q : Pair). is_among (names (take i pairs)) q.0) is ∙ not_earlier pairs i pair rise lt in
    still_below row (flat_map (cut_places cut) (take i pairs)) pair.0 old now adds (none_of_fields cut (take i pairs) pair.0 none) (below pair.0 there)

flat_push : (g : Pair → List Place) (pairs : List Pair) (pair : Pair) → flat_map g (pairs ++ pair ∷ []) ≡ flat_map g pairs ++ g pair
flat_push g [] pair = append-nil (g pair)
flat_push g (p ∷ ps) pair = ap (λ (l : List Place). g p ++ l) (flat_push g ps pair) ∙ sym (append_assoc (g p) (flat_map g ps) (g pair))

nothing : (a b : Bool) → a ≡ (a || (b && false))
nothing true b = refl
nothing false true = refl
nothing false false = refl

-- ---- the three kinds of fields of a document

pub whole_fields : (pairs : List Pair) → flat_map (cut_places Whole) pairs ≡ map whole pairs
whole_fields [] = refl
whole_fields (p ∷ ps) = ap (λ (l : List Place). whole p ∷ l) (whole_fields ps)

-- a name that is among these differs from one that isn't
pub among_differs : (ns : List (List ℕ)) (key field : List ℕ) → is_among ns key ≡ false → is_among ns field ≡ true → bytes_eq key field ≡ false
among_differs ns key field none there = go (bytes_eq key field) refl
  where
    go : (b : Bool) → bytes_eq key field ≡ b → b ≡ false
    go true e = let same : key ≡ field = (bytes_eq-Decides key field).0 e in sym there ∙ ap (is_among ns) (sym same) ∙ none
    go false e = refl

-- a name that is among these isn't among those that share none with these
pub among_apart : (xs ys : List (List ℕ)) (field : List ℕ) → share_name xs ys ≡ false → is_among xs field ≡ true → is_among ys field ≡ false
among_apart [] ys field apart there = cc
among_apart (x ∷ xs) ys field apart there = go (either (bytes_eq x field) (is_among xs field) there) (among_apart xs ys field parts.1)
  where
    parts : (is_among ys x ≡ false) × (share_name xs ys ≡ false)
    parts = or_parts (is_among ys x) (share_name xs ys) apart

    go : (bytes_eq x field ≡ true) ⊎ (is_among xs field ≡ true) → (is_among xs field ≡ true → is_among ys field ≡ false) → is_among ys field ≡ false
    go (inl e) later = ap (is_among ys) (sym ((bytes_eq-Decides x field).0 e)) ∙ parts.0
    go (inr e) later = later e

not_true : (b : Bool) → not b ≡ true → b ≡ false
not_true true e = cc
not_true false e = refl

-- no field of a document has the name `key`, and no text field has the name of an exact one
pub are_apart : (text exact : List Pair) → names_are_apart (names text) (names exact) ≡ true
    → (is_among (names text) (codes "key") ≡ false) × ((is_among (names exact) (codes "key") ≡ false) × (share_name (names text) (names exact) ≡ false))
are_apart text exact h =
    let key = not (is_among (names text) (codes "key")) in
    let other = not (is_among (names exact) (codes "key")) in
    let one = and_parts key (other && not (share_name (names text) (names exact))) h in
    let two = and_parts other (not (share_name (names text) (names exact))) one.1 in
    (not_true (is_among (names text) (codes "key")) one.0, (not_true (is_among (names exact) (codes "key")) two.0, not_true (share_name (names text) (names exact)) two.1))

-- fields that are none of these are below after these
pub text_below : (row : ℕ) (key : List ℕ) (text exact : List Pair) (old first second : FieldLists) → names_are_apart (names text) (names exact) ≡ true
    → AreFieldsBelow row old → AddsPlaces row (cut_places Whole (codes "key", key)) old first → AddsPlaces row (flat_map (cut_places Whole) exact) first second
    → (field : List ℕ) → is_among (names text) field ≡ true → IsFieldBelow row field second
text_below row key text exact old first second h below one two field there =
    let apart = are_apart text exact h in
    still_below row (flat_map (cut_places Whole) exact) field first second two (none_of_fields Whole exact field (among_apart (names text) (names exact) field apart.1.1 there))
    (still_below row (cut_places Whole (codes "key", key)) field old first one (none_of_field Whole (codes "key", key) field (among_differs (names text) (codes "key") field apart.0 there)) (below field))

-- the key, the exact fields and the text fields together
pub adds_document : (row : ℕ) (doc : Document) (old first second third : FieldLists)
    → AddsPlaces row (cut_places Whole (codes "key", doc.key)) old first → AddsPlaces row (flat_map (cut_places Whole) doc.exact) first second → AddsPlaces row (flat_map (cut_places Words) doc.text) second third
    → AddsPlaces row (terms doc) old third
adds_document row doc old first second third one two three =
    let both = adds_both row (flat_map (cut_places Whole) doc.exact) (flat_map (cut_places Words) doc.text) first second third two three in
    subst (λ (l : List Place). AddsPlaces row (cut_places Whole (codes "key", doc.key) ++ (l ++ flat_map (cut_places Words) doc.text)) old third) (whole_fields doc.exact)
    (adds_both row (cut_places Whole (codes "key", doc.key)) (flat_map (cut_places Whole) doc.exact ++ flat_map (cut_places Words) doc.text) old first third one both)
