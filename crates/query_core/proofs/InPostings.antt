-- What postings say of one term.
use Rattle.std.proofs.Common.{◌≡◌, ◌≢◌, ℕ, zero, suc, ◌<◌, List, [], ◌∷◌, ◌++◌, Bool, true, false, ◌&&◌, ◌||◌, ◌==◌, if◌then◌else◌, length, get_or, map, ◌⊎◌, inl, inr, refl, sym, ap, ◌∙◌, subst, arith}
use Rattle.std.specs.List.{All, AllPairs, list_any}
use Rattle.std.specs.Str.{bytes_eq}
use Rattle.std.specs.declared.cmp.Ordering.TheVariants.{Less, Equal}
use Rattle.std.proofs.lemmas.Bool.{eq-eqb, ne_eqb, eqb-true, and_parts, and_from, false_from_ne_true, cases_order}
use Rattle.std.proofs.lemmas.Cmp.{tied_itself}
use Rattle.std.proofs.lemmas.List.{length-map, get_or-map, get_or_default, append-nil}
use Rattle.std.proofs.lemmas.List.Elements.{All-weaker, All-head, All-tail}
use Rattle.std.proofs.lemmas.List.Folds.{Any-from_list_any, list_any_at, list_any_none, list_any-append}
use Rattle.std.proofs.lemmas.Slice.Eq.{bytes_eq-Decides}
use Rattle.ix_base.specs.Terms.{Place, terms}
use Rattle.ix_base.specs.Matches.{is_term, holds_term}
use Rattle.ix_base.specs.Inversion.{term_cmp, has_number, at_row, stands_in_row, posted, posted_at, IsInversion, IsPostings, IsTermPostings, IsPosting, rows_where}
use Rattle.ix_base.proofs.TermOrder.{term_total}
use Rattle.ix_base.specs.Documents.{Document}
use Rattle.ix_base.specs.declared.document.Term.{Term}
use Rattle.ix_base.specs.declared.postings.Posting.{Posting}
use Rattle.ix_base.specs.declared.postings.Postings.{Postings}
use Rattle.ix_base.specs.declared.postings.TermPostings.{TermPostings}
use Rattle.query_core.specs.Answers.{IsRising, ArePositions}
use Rattle.ix_base.specs.Grouped.{positions_in}
use Rattle.query_core.proofs.Rising.{has_at, same_bool, contains, pairs_head, pairs_tail}
use Rattle.query_core.proofs.Documents.{rows_are}

-- where one element alone has the name, it alone tells
any_only : {X : Type 0} (named said : X → Bool) (xs : List X) (i : ℕ) (d : X) → i < length xs → named (get_or xs i d) ≡ true → ((k : ℕ) → k < length xs → k ≢ i → named (get_or xs k d) ≡ false) → list_any (λ x. named x && said x) xs ≡ said (get_or xs i d)
any_only named said [] i d lt here others = absurd (omega arith)
any_only named said (x ∷ xs) zero d lt here others =
    let none : All (λ y. (named y && said y) ≡ false) xs = λ k e in'. ap (λ (b : Bool). b && said (get_or xs k e)) (ap named (get_or_default xs k e d in') ∙ others (suc k) (omega arith) (λ q. omega arith)) in
    (λ i. (here i && said x) || list_any_none (λ y. named y && said y) xs none i) ∙ only (said x)
  where
    only : (b : Bool) → (b || false) ≡ b
    only true = refl
    only false = refl
any_only named said (x ∷ xs) (suc i) d lt here others =
    ap (λ (b : Bool). (b && said x) || list_any (λ y. named y && said y) xs) (others zero (omega arith) (λ q. omega arith))
    ∙ any_only named said xs i d (omega arith) here (λ k in' ne. others (suc k) (omega arith) (λ q. ne (omega arith)))

-- elements whose keys are in strict order differ
apart : {X : Type 0} (R : X → X → Type 0) (xs : List X) (i k : ℕ) (d : X) → AllPairs R xs → i < length xs → k < length xs → k ≢ i → R (get_or xs i d) (get_or xs k d) ⊎ R (get_or xs k d) (get_or xs i d)
apart R xs i k d rise in' on ne = go (cases_order i k)
  where
    go : (i ≡ k) ⊎ ((i < k) ⊎ (k < i)) → R (get_or xs i d) (get_or xs k d) ⊎ R (get_or xs k d) (get_or xs i d)
    go (inl e) = absurd (ne (sym e))
    go (inr (inl lt)) = inl (rise i k d lt on)
    go (inr (inr lt)) = inr (rise k i d lt in')

abbrev pub is_named : List ℕ → List ℕ → Term → Bool
is_named field bytes other = bytes_eq other.field field && bytes_eq other.bytes bytes

named_same : (term other : Term) → other ≡ term → is_named term.field term.bytes other ≡ true
named_same term other e =
    and_from (bytes_eq other.field term.field) (bytes_eq other.bytes term.bytes) ((bytes_eq-Decides other.field term.field).1 (ap (λ (t : Term). t.field) e)) ((bytes_eq-Decides other.bytes term.bytes).1 (ap (λ (t : Term). t.bytes) e))

pub named_other : (term other : Term) → other ≢ term → is_named term.field term.bytes other ≡ false
named_other term other ne =
    false_from_ne_true (is_named term.field term.bytes other) (λ h.
    let parts = and_parts (bytes_eq other.field term.field) (bytes_eq other.bytes term.bytes) h in
    let field : other.field ≡ term.field = (bytes_eq-Decides other.field term.field).0 parts.0 in
    let bytes : other.bytes ≡ term.bytes = (bytes_eq-Decides other.bytes term.bytes).0 parts.1 in
    ne (λ i. record { field = field i; bytes = bytes i }))

pub posted_found : (entries : List TermPostings) (i : ℕ) (d : TermPostings) (term : Term) (row at : ℕ) → IsPostings entries → i < length entries → (get_or entries i d).term ≡ term → posted entries term.field term.bytes row at ≡ posted_at (get_or entries i d).rows row at
posted_found entries i d term row at lawful in' is =
    any_only (λ e. is_named term.field term.bytes e.term) (λ e. posted_at e.rows row at) entries i d in' (named_same term (get_or entries i d).term is)
    (λ k on ne. named_other term (get_or entries k d).term (λ same. clash (get_or entries i d).term (get_or entries k d).term (is ∙ sym same) (apart (λ a b. term_cmp a.term b.term ≡ Less) entries i k d lawful.rise in' on ne)))
  where
    clash : (a b : Term) → a ≡ b → (term_cmp a b ≡ Less) ⊎ (term_cmp b a ≡ Less) → ⊥
    clash a b e (inl l) = let q : Less ≡ Equal = sym l ∙ ap (term_cmp a) (sym e) ∙ tied_itself term_total a in cc
    clash a b e (inr l) = let q : Less ≡ Equal = sym l ∙ ap (term_cmp b) e ∙ tied_itself term_total b in cc

pub posted_nowhere : (entries : List TermPostings) (term : Term) (row at : ℕ) → All (λ e. e.term ≢ term) entries → posted entries term.field term.bytes row at ≡ false
posted_nowhere entries term row at none =
    list_any_none (λ e. is_named term.field term.bytes e.term && posted_at e.rows row at) entries
    (All-weaker (λ e. e.term ≢ term) (λ e. (is_named term.field term.bytes e.term && posted_at e.rows row at) ≡ false) (λ e ne. ap (λ (b : Bool). b && posted_at e.rows row at) (named_other term e.term ne)) entries none)

pub row_found : (rows : List Posting) (j : ℕ) (d : Posting) (row at : ℕ) → AllPairs (λ a b. a.row < b.row) rows → j < length rows → (get_or rows j d).row ≡ row → posted_at rows row at ≡ has_number (get_or rows j d).positions at
row_found rows j d row at rise in' is =
    any_only (λ p. p.row == row) (λ p. has_number p.positions at) rows j d in' (eq-eqb (get_or rows j d).row row is)
    (λ k on ne. ne_eqb (get_or rows k d).row row (λ same. clash (get_or rows j d).row (get_or rows k d).row (is ∙ sym same) (apart (λ a b. a.row < b.row) rows j k d rise in' on ne)))
  where
    clash : (a b : ℕ) → a ≡ b → (a < b) ⊎ (b < a) → ⊥
    clash a b e (inl l) = omega arith
    clash a b e (inr l) = omega arith

pub row_nowhere : (rows : List Posting) (row at : ℕ) → All (λ p. p.row ≢ row) rows → posted_at rows row at ≡ false
row_nowhere rows row at none =
    list_any_none (λ p. (p.row == row) && has_number p.positions at) rows
    (All-weaker (λ p. p.row ≢ row) (λ p. ((p.row == row) && has_number p.positions at) ≡ false) (λ p ne. ap (λ (b : Bool). b && has_number p.positions at) (ne_eqb p.row row ne)) rows none)

-- ---- rows that hold a term

row_has : (rows : List Posting) (row at : ℕ) → posted_at rows row at ≡ true → has_number (map (λ p. p.row) rows) row ≡ true
row_has rows row at h =
    let a = Any-from_list_any (λ p. (p.row == row) && has_number p.positions at) rows h in
    let parts = and_parts (a.1.row == row) (has_number a.1.positions at) a.4 in
    let long : a.0 < length (map (λ (p : Posting). p.row) rows) = subst (λ (n : ℕ). a.0 < n) (sym (length-map rows (λ (p : Posting). p.row))) a.2 in
    has_at (map (λ (p : Posting). p.row) rows) a.0 row 0 long (get_or-map (λ (p : Posting). p.row) rows a.0 a.1 0 a.2 ∙ ap (λ (p : Posting). p.row) a.3 ∙ eqb-true a.1.row row parts.0)

pub no_posting : Posting
no_posting = record { row = 0; positions = [] }

row_stands : (rows : List Posting) (row : ℕ) → All IsPosting rows → has_number (map (λ p. p.row) rows) row ≡ true → (at : ℕ) × (posted_at rows row at ≡ true)
row_stands rows row each h =
    let c = contains (map (λ (p : Posting). p.row) rows) row h in
    let in' : c.0 < length rows = subst (λ (n : ℕ). c.0 < n) (length-map rows (λ (p : Posting). p.row)) c.1 in
    let posting = get_or rows c.0 no_posting in
    let at = get_or posting.positions 0 0 in
    let here : posting.row ≡ row = sym (get_or-map (λ (p : Posting). p.row) rows c.0 no_posting row in') ∙ c.2 in
    let there : has_number posting.positions at ≡ true = has_at posting.positions 0 at 0 (each c.0 no_posting in').some refl in
    (at, list_any_at (λ p. (p.row == row) && has_number p.positions at) rows c.0 no_posting in' (and_from (posting.row == row) (has_number posting.positions at) (eq-eqb posting.row row here) there))

rows_rising : (rows : List Posting) → AllPairs (λ a b. a.row < b.row) rows → IsRising (map (λ p. p.row) rows)
rows_rising rows rise i j d lt in' =
    let row : Posting → ℕ = λ p. p.row in
    let on : j < length rows = subst (λ (n : ℕ). j < n) (length-map rows row) in' in
    let first : get_or (map row rows) i d ≡ row (get_or rows i no_posting) = get_or-map row rows i no_posting d (omega arith) in
    let second : get_or (map row rows) j d ≡ row (get_or rows j no_posting) = get_or-map row rows j no_posting d on in
    let below : row (get_or rows i no_posting) < row (get_or rows j no_posting) = rise i j no_posting lt on in
    subst (λ (n : ℕ). get_or (map row rows) i d < n) (sym second) (subst (λ (n : ℕ). n < row (get_or rows j no_posting)) (sym first) below)

-- ---- documents that hold a term

any_weaker : {X : Type 0} (p q : X → Bool) (xs : List X) → ((x : X) → p x ≡ true → q x ≡ true) → list_any p xs ≡ true → list_any q xs ≡ true
any_weaker p q xs f h = let a = Any-from_list_any p xs h in list_any_at q xs a.0 a.1 a.2 (ap q a.3 ∙ f a.1 a.4)

stands_holds : (docs : List Document) (field bytes : List ℕ) (row at : ℕ) → stands_in_row docs field bytes row at ≡ true → at_row (holds_term field bytes) docs row ≡ true
stands_holds [] field bytes row at h = cc
stands_holds (doc ∷ docs) field bytes zero at h =
    any_weaker (λ place. is_term field bytes place && (place.position == at)) (is_term field bytes) (terms doc) (λ place e. (and_parts (is_term field bytes place) (place.position == at) e).0) h
stands_holds (doc ∷ docs) field bytes (suc row) at h = stands_holds docs field bytes row at h

holds_stands : (docs : List Document) (field bytes : List ℕ) (row : ℕ) → at_row (holds_term field bytes) docs row ≡ true → (at : ℕ) × (stands_in_row docs field bytes row at ≡ true)
holds_stands [] field bytes row h = cc
holds_stands (doc ∷ docs) field bytes zero h =
    let a = Any-from_list_any (is_term field bytes) (terms doc) h in
    let at = a.1.position in
    let here : (is_term field bytes a.1 && (a.1.position == at)) ≡ true = and_from (is_term field bytes a.1) (a.1.position == at) a.4 (eq-eqb a.1.position at refl) in
    (at, list_any_at (λ place. is_term field bytes place && (place.position == at)) (terms doc) a.0 a.1 a.2 (ap (λ (p : Place). is_term field bytes p && (p.position == at)) a.3 ∙ here))
holds_stands (doc ∷ docs) field bytes (suc row) h = holds_stands docs field bytes row h

-- ---- postings that are an inversion

pub rows_of_term : (docs : List Document) (postings : Postings) (i : ℕ) (d : TermPostings) (term : Term) → IsInversion docs postings → i < length postings.terms → (get_or postings.terms i d).term ≡ term
    → map (λ p. p.row) (get_or postings.terms i d).rows ≡ rows_where (holds_term term.field term.bytes) docs
rows_of_term docs postings i d term inversion in' is =
    let entry = get_or postings.terms i d in
    let lawful : IsTermPostings entry = inversion.ordered.each i d in' in
    let told : (row at : ℕ) → posted_at entry.rows row at ≡ stands_in_row docs term.field term.bytes row at = λ row at. sym (posted_found postings.terms i d term row at inversion.ordered in' is) ∙ inversion.exact term.field term.bytes row at in
    rows_are (holds_term term.field term.bytes) docs (map (λ p. p.row) entry.rows) (rows_rising entry.rows lawful.rise)
    (λ r. same_bool (has_number (map (λ p. p.row) entry.rows) r) (at_row (holds_term term.field term.bytes) docs r)
    (λ h. let s = row_stands entry.rows r lawful.each h in stands_holds docs term.field term.bytes r s.0 (sym (told r s.0) ∙ s.1))
    (λ h. let s = holds_stands docs term.field term.bytes r h in row_has entry.rows r s.0 (told r s.0 ∙ s.1)))

pub rows_of_none : (docs : List Document) (postings : Postings) (term : Term) → IsInversion docs postings → All (λ e. e.term ≢ term) postings.terms → [] ≡ rows_where (holds_term term.field term.bytes) docs
rows_of_none docs postings term inversion none =
    rows_are (holds_term term.field term.bytes) docs [] (λ i j d lt in'. absurd (omega arith))
    (λ r. sym (false_from_ne_true (at_row (holds_term term.field term.bytes) docs r) (λ h.
    let s = holds_stands docs term.field term.bytes r h in
    let q : false ≡ true = sym (posted_nowhere postings.terms term r s.0 none) ∙ inversion.exact term.field term.bytes r s.0 ∙ s.1 in cc)))

-- the positions in a row are those at which it is posted
positions_has : (rows : List Posting) (row at : ℕ) → has_number (positions_in row rows) at ≡ posted_at rows row at
positions_has [] row at = refl
positions_has (g ∷ rows) row at =
    list_any-append (λ y. y == at) (if g.row == row then g.positions else []) (positions_in row rows)
    ∙ ap (λ (b : Bool). has_number (if g.row == row then g.positions else []) at || b) (positions_has rows row at)
    ∙ ap (λ (b : Bool). b || posted_at rows row at) (chosen (g.row == row))
  where
    chosen : (b : Bool) → has_number (if b then g.positions else []) at ≡ (b && has_number g.positions at)
    chosen true = refl
    chosen false = refl

positions_nowhere : (rows : List Posting) (row : ℕ) → All (λ p. p.row ≢ row) rows → positions_in row rows ≡ []
positions_nowhere [] row none = refl
positions_nowhere (g ∷ rows) row none =
    ap (λ (b : Bool). (if b then g.positions else []) ++ positions_in row rows) (ne_eqb g.row row (All-head (λ p. p.row ≢ row) g rows none))
    ∙ positions_nowhere rows row (All-tail (λ p. p.row ≢ row) g rows none)

positions_rise : (rows : List Posting) (row : ℕ) → AllPairs (λ a b. a.row < b.row) rows → All IsPosting rows → IsRising (positions_in row rows)
positions_rise [] row rise each = λ i j d lt in'. absurd (omega arith)
positions_rise (g ∷ rows) row rise each = go (positions_rise rows row (pairs_tail (λ a b. a.row < b.row) g rows rise) (All-tail IsPosting g rows each)) (g.row == row) refl
  where
    go : IsRising (positions_in row rows) → (b : Bool) → (g.row == row) ≡ b → IsRising ((if b then g.positions else []) ++ positions_in row rows)
    go later true e =
        let is : g.row ≡ row = eqb-true g.row row e in
        let none : positions_in row rows ≡ [] = positions_nowhere rows row (All-weaker (λ p. g.row < p.row) (λ p. p.row ≢ row) (λ p l q. omega arith) rows (pairs_head (λ a b. a.row < b.row) g rows rise)) in
        subst IsRising (sym (ap (λ (l : List ℕ). g.positions ++ l) none ∙ append-nil g.positions)) (All-head IsPosting g rows each).rise
    go later false e = later

pub places_of_row : (docs : List Document) (postings : Postings) (i : ℕ) (d : TermPostings) (term : Term) (row : ℕ) → IsInversion docs postings → i < length postings.terms → (get_or postings.terms i d).term ≡ term
    → ArePositions docs term row (positions_in row (get_or postings.terms i d).rows)
places_of_row docs postings i d term row inversion in' is =
    let entry = get_or postings.terms i d in
    let lawful : IsTermPostings entry = inversion.ordered.each i d in' in
    record {
      rise = positions_rise entry.rows row lawful.rise lawful.each;
      exact = λ at. positions_has entry.rows row at ∙ sym (posted_found postings.terms i d term row at inversion.ordered in' is) ∙ inversion.exact term.field term.bytes row at;
    }

pub places_of_none : (docs : List Document) (postings : Postings) (term : Term) (row : ℕ) → IsInversion docs postings → All (λ e. e.term ≢ term) postings.terms → ArePositions docs term row []
places_of_none docs postings term row inversion none = record {
  rise = λ k l c lt in''. absurd (omega arith);
  exact = λ at. sym (posted_nowhere postings.terms term row at none) ∙ inversion.exact term.field term.bytes row at;
}

-- ---- the same of the list that the code reads

pub rows_of_term_in : (docs : List Document) (postings : Postings) (entries : List TermPostings) (i : ℕ) (d : TermPostings) (term : Term) → IsInversion docs postings → entries ≡ postings.terms → i < length entries → (get_or entries i d).term ≡ term
    → map (λ p. p.row) (get_or entries i d).rows ≡ rows_where (holds_term term.field term.bytes) docs
rows_of_term_in docs postings entries i d term inversion e =
    subst (λ (l : List TermPostings). i < length l → (get_or l i d).term ≡ term → map (λ (p : Posting). p.row) (get_or l i d).rows ≡ rows_where (holds_term term.field term.bytes) docs) (sym e) (rows_of_term docs postings i d term inversion)

pub places_of_row_in : (docs : List Document) (postings : Postings) (entries : List TermPostings) (i : ℕ) (d : TermPostings) (term : Term) (row : ℕ) → IsInversion docs postings → entries ≡ postings.terms → i < length entries → (get_or entries i d).term ≡ term
    → ArePositions docs term row (positions_in row (get_or entries i d).rows)
places_of_row_in docs postings entries i d term row inversion e =
    subst (λ (l : List TermPostings). i < length l → (get_or l i d).term ≡ term → ArePositions docs term row (positions_in row (get_or l i d).rows)) (sym e) (places_of_row docs postings i d term row inversion)

pub none_among : (postings : Postings) (entries : List TermPostings) (term : Term) → entries ≡ postings.terms → IsPostings postings.terms → (IsPostings entries → All (λ e. e.term ≢ term) entries) → All (λ e. e.term ≢ term) postings.terms
none_among postings entries term e lawful none = subst (λ (l : List TermPostings). All (λ (g : TermPostings). g.term ≢ term) l) e (none (subst IsPostings (sym e) lawful))
