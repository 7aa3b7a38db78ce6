-- The places of the words of fields, while documents are read one after another.
use Rattle.std.specs.Prelude.{◌≡◌, ℕ, ◌+◌, ◌<◌, List, [], ◌∷◌, Bool, true, false, ◌&&◌, ◌||◌, ◌==◌, length, map, ◌⊎◌}
use Rattle.std.specs.List.{list_any, AllByRecursion}
use Rattle.std.specs.List.Sorted.{IsStrictlySortedBy}
use Rattle.std.specs.Str.{bytes_eq}
use Rattle.ix_base.specs.Limits.{is_among}
use Rattle.ix_base.specs.Grouped.{ArePostings}
use Rattle.ix_base.specs.Inversion.{term_cmp, posted_at, posted, IsPostings, IsTermPostings, stands_in_row}
use Rattle.ix_base.specs.Matches.{stands_at}
use Rattle.ix_base.specs.Terms.{Place, placed_from, folded_words}
use Rattle.ix_base.specs.Documents.{Document}
use Rattle.ix_base.specs.declared.postings.Posting.{Posting}
use Rattle.ix_base.specs.declared.postings.TermPostings.{TermPostings}
use Rattle.analysis.specs.declared.word_lists.Cut.{Cut}
use Rattle.analysis.specs.declared.word_lists.Cut.TheVariants.{Whole, Words}

-- words with their places
abbrev pub WordLists : Type 0
WordLists = List (List ℕ × List Posting)

-- fields with their words
abbrev pub FieldLists : Type 0
FieldLists = List (List ℕ × WordLists)

-- the word is kept in the row at the position
abbrev pub kept_in : WordLists → List ℕ → ℕ → ℕ → Bool
kept_in lists word row at = list_any (λ e. bytes_eq e.0 word && posted_at e.1 row at) lists

-- the field's word is kept in the row at the position
abbrev pub kept : FieldLists → List ℕ → List ℕ → ℕ → ℕ → Bool
kept fields field word row at = list_any (λ e. bytes_eq e.0 field && kept_in e.1 word row at) fields

-- the places of a word: one at least, in order
abbrev pub IsWordList : List Posting → Type 0
IsWordList rows = (0 < length rows) × ArePostings rows

-- ---- places that come

-- where the word stands among these, the first of which is at this position
abbrev pub spelled_from : ℕ → List (List ℕ) → List ℕ → ℕ → Bool
spelled_from first [] word at = false
spelled_from first (w ∷ more) word at = (bytes_eq w word && (first == at)) || spelled_from (first + 1) more word at

-- the terms of a text
abbrev pub cut_words : Cut → List ℕ → List (List ℕ)
cut_words Whole text = text ∷ []
cut_words Words text = folded_words text

-- the places of a field's terms
abbrev pub cut_places : Cut → List ℕ × List ℕ → List Place
cut_places cut pair = placed_from 0 pair.0 (cut_words cut pair.1)

-- all places of the word are before this one
abbrev pub IsWordBefore : ℕ → ℕ → List ℕ → WordLists → Type 0
IsWordBefore row position word lists =
    (r x : ℕ) → kept_in lists word r x ≡ true → (r < row) ⊎ ((r ≡ row) × (x < position))

-- all places of all words are in earlier rows
abbrev pub AreWordsBelow : ℕ → WordLists → Type 0
AreWordsBelow row lists = (word : List ℕ) (r x : ℕ) → kept_in lists word r x ≡ true → r < row

-- all places of the field's words are in earlier rows
abbrev pub IsFieldBelow : ℕ → List ℕ → FieldLists → Type 0
IsFieldBelow row field fields = (word : List ℕ) (r x : ℕ) → kept fields field word r x ≡ true → r < row

-- all places of the words of fields that have the names of these are in earlier rows
abbrev pub AreNamedBelow : ℕ → List (List ℕ × List ℕ) → FieldLists → Type 0
AreNamedBelow row pairs fields =
    (field : List ℕ) → is_among (map (λ pair. pair.0) pairs) field ≡ true → IsFieldBelow row field fields

-- all places are in earlier rows
abbrev pub AreFieldsBelow : ℕ → FieldLists → Type 0
AreFieldsBelow row fields = (field : List ℕ) → IsFieldBelow row field fields

-- one more place of one word
abbrev pub AddsWord : ℕ → ℕ → List ℕ → WordLists → WordLists → Type 0
AddsWord row position word old new =
    (w : List ℕ) (r x : ℕ)
    → kept_in new w r x ≡ (kept_in old w r x || (bytes_eq word w && ((row == r) && (position == x))))

-- the places of words that follow one another, in one row
abbrev pub AddsWords : ℕ → List (List ℕ) → WordLists → WordLists → Type 0
AddsWords row words old new =
    (w : List ℕ) (r x : ℕ) → kept_in new w r x ≡ (kept_in old w r x || ((row == r) && spelled_from 0 words w x))

-- these places in one row
abbrev pub AddsPlaces : ℕ → List Place → FieldLists → FieldLists → Type 0
AddsPlaces row places old new =
    (f w : List ℕ) (r x : ℕ) → kept new f w r x ≡ (kept old f w r x || ((row == r) && stands_at places f w x))

-- the terms of these documents
abbrev pub AreKept : List Document → FieldLists → Type 0
AreKept docs fields = (f w : List ℕ) (r x : ℕ) → kept fields f w r x ≡ stands_in_row docs f w r x

-- ---- terms that are made

-- a word of the field as a term
abbrev pub term_of : List ℕ → List ℕ × List Posting → TermPostings
term_of field e = record { term = record { field = field; bytes = e.0 }; rows = e.1 }

-- the words of one field as terms, rising
pub record AreTermsOf (field : List ℕ) (lists : WordLists) (terms : List TermPostings) : Type 0 where
  pub rise : IsStrictlySortedBy term_cmp (map (λ e. e.term) terms)
  pub each : AllByRecursion IsTermPostings terms
  pub named : AllByRecursion (λ e. e.term.field ≡ field) terms
  pub exact : (f w : List ℕ) (r x : ℕ) → posted terms f w r x ≡ (bytes_eq field f && kept_in lists w r x)

-- the words of all fields as terms, rising
pub record AreAllTerms (fields : FieldLists) (terms : List TermPostings) : Type 0 where
  pub ordered : IsPostings terms
  pub exact : (f w : List ℕ) (r x : ℕ) → posted terms f w r x ≡ kept fields f w r x
