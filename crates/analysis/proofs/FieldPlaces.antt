-- Fields, of which one gets words in a row.
use Rattle.std.proofs.Common.{◌≡◌, ℕ, ◌+◌, List, [], ◌∷◌, Bool, true, false, ◌&&◌, ◌||◌, ◌==◌, Some, None, refl, sym, ap, ◌∙◌}
use Rattle.std.specs.Str.{bytes_eq}
use Rattle.std.specs.Map.{lookup, set_value}
use Rattle.std.specs.BTreeMap.{is_at, insert_entry}
use Rattle.std.specs.Cmp.Lexicographic.{slice_cmp, texts_ties}
use Rattle.std.specs.Ordering.{nat_cmp, is_eq}
use Rattle.std.proofs.lemmas.Slice.Eq.{bytes_eq-Decides}
use Rattle.ix_base.specs.Matches.{stands_at}
use Rattle.ix_base.specs.Terms.{placed_from}
use Rattle.analysis.specs.Kept.{WordLists, FieldLists, kept_in, kept, spelled_from, AreWordsBelow, IsFieldBelow, AddsWords, AddsPlaces}
use Rattle.analysis.proofs.Entries.{finds_set, finds_there, finds_insert}

pub same_name : (a b : List ℕ) → is_eq (slice_cmp nat_cmp a b) ≡ true → b ≡ a
same_name a b e = sym ((bytes_eq-Decides a b).0 (texts_ties a b ∙ e))

drawn : (n b p r : Bool) → (((n && b) && p) || (n && r)) ≡ (n && ((b && p) || r))
drawn true b p r = refl
drawn false b p r = refl

-- where words stand that are placed one after another
pub placed_stand : (first : ℕ) (field : List ℕ) (words : List (List ℕ)) (f w : List ℕ) (x : ℕ)
    → stands_at (placed_from first field words) f w x ≡ (bytes_eq field f && spelled_from first words w x)
placed_stand first field [] f w x = none (bytes_eq field f)
  where
    none : (b : Bool) → false ≡ (b && false)
    none true = refl
    none false = refl
placed_stand first field (word ∷ words) f w x =
    ap (λ (b : Bool). ((bytes_eq field f && bytes_eq word w) && (first == x)) || b) (placed_stand (first + 1) field words f w x)
    ∙ drawn (bytes_eq field f) (bytes_eq word w) (first == x) (spelled_from (first + 1) words w x)

-- the words of the field that was found are below where the field is
pub words_below : (row : ℕ) (field : List ℕ) (words : WordLists) (fields : FieldLists)
    → lookup (is_at (slice_cmp nat_cmp field)) fields ≡ Some words → IsFieldBelow row field fields → AreWordsBelow row words
words_below row field words fields found below w r x h =
    below w r x (finds_there (λ (n : List ℕ). n) (λ (l : WordLists). kept_in l w r x) (is_at (slice_cmp nat_cmp field)) field words fields (same_name field) found h)

turned : (n h s : Bool) → (n && (h && s)) ≡ (h && (n && s))
turned true h s = refl
turned false true s = refl
turned false false s = refl

-- what is added to a field, as places
placed : (row : ℕ) (field : List ℕ) (spelled : List (List ℕ)) (f w : List ℕ) (r x : ℕ) (old : Bool)
    → (old || (bytes_eq field f && ((row == r) && spelled_from 0 spelled w x))) ≡ (old || ((row == r) && stands_at (placed_from 0 field spelled) f w x))
placed row field spelled f w r x old =
    ap (λ (b : Bool). old || b) (turned (bytes_eq field f) (row == r) (spelled_from 0 spelled w x) ∙ ap (λ (b : Bool). (row == r) && b) (sym (placed_stand 0 field spelled f w x)))

pub field_set : (row : ℕ) (field : List ℕ) (spelled : List (List ℕ)) (words new : WordLists) (fields : FieldLists)
    → lookup (is_at (slice_cmp nat_cmp field)) fields ≡ Some words → AddsWords row spelled words new
    → AddsPlaces row (placed_from 0 field spelled) fields (set_value (is_at (slice_cmp nat_cmp field)) fields new)
field_set row field spelled words new fields found adds f w r x =
    finds_set (λ (n : List ℕ). n) (λ (l : WordLists). kept_in l w r x) (is_at (slice_cmp nat_cmp field)) field f ((row == r) && spelled_from 0 spelled w x) words new fields (same_name field) found (adds w r x)
    ∙ placed row field spelled f w r x (kept fields f w r x)

pub field_insert : (row : ℕ) (field : List ℕ) (spelled : List (List ℕ)) (new : WordLists) (fields : FieldLists)
    → lookup (is_at (slice_cmp nat_cmp field)) fields ≡ None → AddsWords row spelled [] new
    → AddsPlaces row (placed_from 0 field spelled) fields (insert_entry (slice_cmp nat_cmp) fields field new)
field_insert row field spelled new fields none adds f w r x =
    finds_insert (λ (n : List ℕ). n) (λ (l : WordLists). kept_in l w r x) (slice_cmp nat_cmp) f field new fields none
    ∙ ap (λ (b : Bool). kept fields f w r x || (bytes_eq field f && b)) (adds w r x)
    ∙ placed row field spelled f w r x (kept fields f w r x)
