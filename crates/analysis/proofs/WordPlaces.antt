-- The words of one field, of which one gets a place.
use Rattle.std.proofs.Common.{◌≡◌, ℕ, ◌<◌, List, [], ◌∷◌, ◌++◌, Bool, true, false, ◌&&◌, ◌||◌, ◌==◌, Option, Some, None, Result, Ok, Err, OnOk, OnErr, IfSome, map, length, ◌⊎◌, inl, inr, refl, sym, ap, ◌∙◌, subst, arith}
use Rattle.std.specs.List.{All}
use Rattle.std.specs.Str.{bytes_eq}
use Rattle.std.specs.Map.{lookup, set_value, values_of}
use Rattle.std.proofs.lemmas.Bool.{and_from, eq-eqb}
use Rattle.std.proofs.lemmas.List.{map-append}
use Rattle.std.proofs.lemmas.Map.Views.{All-values-set_value, IfSome-lookup_from_All}
use Rattle.indexmap.specs.IndexMap.{insert_entry}
use Rattle.indexmap.proofs.MapLemmas.{insert_entry-absent, absent_from_lookup}
use Rattle.ix_base.proofs.Ends.{All-push}
use Rattle.ix_base.specs.Grouped.{ArePostings}
use Rattle.ix_base.specs.Inversion.{posted_at}
use Rattle.ix_base.specs.declared.postings.Posting.{Posting}
use Rattle.analysis.specs.Kept.{WordLists, kept_in, spelled_from, IsWordList, IsWordBefore, AddsWord}
use Rattle.analysis.proofs.Entries.{any_map, finds, finds_set, finds_there, finds_push}

-- the words of keys, with their places
abbrev pub shown : {K : Type 0} (name : K → List ℕ) → List (K × List Posting) → List (List ℕ × List Posting)
shown name es = map (λ e. (name e.0, e.1)) es

pub kept_shown : {K : Type 0} (name : K → List ℕ) (es : List (K × List Posting)) (word : List ℕ) (r x : ℕ)
    → kept_in (shown name es) word r x ≡ finds name (λ rows. posted_at rows r x) word es
kept_shown {K} name es word r x = any_map (λ (e : List ℕ × List Posting). bytes_eq e.0 word && posted_at e.1 r x) (λ (e : K × List Posting). (name e.0, e.1)) es

-- the place of the list that was found is kept
pub word_there : {K : Type 0} (name : K → List ℕ) (test : K → Bool) (word : List ℕ) (rows : List Posting) (es : List (K × List Posting))
    → ((k : K) → test k ≡ true → name k ≡ word) → lookup test es ≡ Some rows → (r x : ℕ) → posted_at rows r x ≡ true → kept_in (shown name es) word r x ≡ true
word_there name test word rows es names found r x h = kept_shown name es word r x ∙ finds_there name (λ rows. posted_at rows r x) test word rows es names found h

pub word_set : {K : Type 0} (name : K → List ℕ) (test : K → Bool) (row position : ℕ) (word : List ℕ) (rows new : List Posting) (es : List (K × List Posting))
    → ((k : K) → test k ≡ true → name k ≡ word) → lookup test es ≡ Some rows
    → ((r x : ℕ) → posted_at new r x ≡ (posted_at rows r x || ((row == r) && (position == x))))
    → AddsWord row position word (shown name es) (shown name (set_value test es new))
word_set name test row position word rows new es names found exact w r x =
    kept_shown name (set_value test es new) w r x
    ∙ finds_set name (λ rows. posted_at rows r x) test word w ((row == r) && (position == x)) rows new es names found (exact r x)
    ∙ ap (λ (b : Bool). b || (bytes_eq word w && ((row == r) && (position == x)))) (sym (kept_shown name es w r x))

pub word_push : {K : Type 0} (name : K → List ℕ) (row position : ℕ) (word : List ℕ) (k : K) (new : List Posting) (es : List (K × List Posting))
    → name k ≡ word
    → ((r x : ℕ) → posted_at new r x ≡ ((row == r) && (position == x)))
    → AddsWord row position word (shown name es) (shown name (es ++ (k, new) ∷ []))
word_push name row position word k new es is exact w r x =
    kept_shown name (es ++ (k, new) ∷ []) w r x
    ∙ finds_push name (λ rows. posted_at rows r x) w k new es
    ∙ (λ i. finds name (λ rows. posted_at rows r x) w es || (bytes_eq (is i) w && exact r x i))
    ∙ ap (λ (b : Bool). b || (bytes_eq word w && ((row == r) && (position == x)))) (sym (kept_shown name es w r x))

-- an entry of a word that wasn't there comes last
pub pushed : {K : Type 0} (name : K → List ℕ) (word : List ℕ) (k : K) (v : List Posting) (old es new : List (K × List Posting))
    → old ≡ es → name k ≡ word → lookup (λ q. bytes_eq word (name q)) es ≡ None → new ≡ insert_entry (λ a b. bytes_eq (name a) (name b)) old k v → new ≡ es ++ (k, v) ∷ []
pushed {K} name word k v old es new same is none made =
    let eq : K → K → Bool = λ a b. bytes_eq (name a) (name b) in
    let absent : lookup (eq k) es ≡ None = ap (λ (w : List ℕ). lookup (λ (q : K). bytes_eq w (name q)) es) is ∙ none in
    made ∙ ap (λ (l : List (K × List Posting)). insert_entry eq l k v) same ∙ insert_entry-absent eq k v es (absent_from_lookup (eq k) es absent)

-- ---- lists that have places

some_posted : (rows : List Posting) (r x : ℕ) → posted_at rows r x ≡ true → 0 < length rows
some_posted [] r x h = cc
some_posted (g ∷ rows) r x h = omega arith

or_true : (a b : Bool) → b ≡ true → (a || b) ≡ true
or_true true b e = refl
or_true false b e = e

-- a list to which a place was added
pub list_added : (row position : ℕ) (old new : List Posting) → ArePostings new → ((r x : ℕ) → posted_at new r x ≡ (posted_at old r x || ((row == r) && (position == x)))) → IsWordList new
list_added row position old new are exact =
    let is : ((row == row) && (position == position)) ≡ true = and_from (row == row) (position == position) (eq-eqb row row refl) (eq-eqb position position refl) in
    (some_posted new row position (exact row position ∙ or_true (posted_at old row position) ((row == row) && (position == position)) is), are)

-- a list to which a place was added, or that is as before
pub list_after : {T E : Type 0} (result : Result T E) (row position : ℕ) (old new : List Posting) → IsWordList old → OnOk result (ArePostings new)
    → OnOk result ((r x : ℕ) → posted_at new r x ≡ (posted_at old r x || ((row == r) && (position == x)))) → OnErr result (new ≡ old) → IsWordList new
list_after (Ok t) row position old new was are exact same = list_added row position old new are exact
list_after (Err e) row position old new was are exact same = subst IsWordList (sym same) was

pub lists_set : {K : Type 0} (test : K → Bool) (es : List (K × List Posting)) (new : List Posting) → All IsWordList (values_of es) → IsWordList new → All IsWordList (values_of (set_value test es new))
lists_set test es new all is = All-values-set_value test IsWordList es new all is

pub list_found : {K : Type 0} (test : K → Bool) (es : List (K × List Posting)) (rows : List Posting) → All IsWordList (values_of es) → lookup test es ≡ Some rows → IsWordList rows
list_found test es rows all found = subst (λ (o : Option (List Posting)). IfSome o IsWordList) found (IfSome-lookup_from_All IsWordList test es all)

pub lists_push : {K : Type 0} (es : List (K × List Posting)) (k : K) (new : List Posting) → All IsWordList (values_of es) → IsWordList new → All IsWordList (values_of (es ++ (k, new) ∷ []))
lists_push {K} es k new all is = subst (All IsWordList) (sym (map-append (λ (e : K × List Posting). e.1) es ((k, new) ∷ []))) (All-push IsWordList (values_of es) new all is)

-- ---- words that follow one another

-- These words are left, the first at this position; with them all words will have their places.
pub record WordsLeft (row : ℕ) (all : List (List ℕ)) (position : ℕ) (left : List (List ℕ)) (old now : WordLists) : Type 0 where
  pub before : (w : List ℕ) → IsWordBefore row position w now
  pub adds : (w : List ℕ) (r x : ℕ) → (kept_in now w r x || ((row == r) && spelled_from position left w x)) ≡ (kept_in old w r x || ((row == r) && spelled_from 0 all w x))

either : (a b : Bool) → (a || b) ≡ true → (a ≡ true) ⊎ (b ≡ true)
either true b e = inl refl
either false b e = inr e

moved : (k w p s here : Bool) → ((k || (w && (here && p))) || (here && s)) ≡ (k || (here && ((w && p) || s)))
moved true w p s here = refl
moved false true true true true = refl
moved false true true true false = refl
moved false true true false true = refl
moved false true true false false = refl
moved false true false s true = refl
moved false true false s false = refl
moved false false p s true = refl
moved false false p s false = refl

nothing : (a b : Bool) → a ≡ (a || (b && false))
nothing true b = refl
nothing false true = refl
nothing false false = refl
