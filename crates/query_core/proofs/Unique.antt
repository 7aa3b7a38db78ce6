-- Documents have one inversion at most, and its rows are theirs.
use Rattle.std.proofs.Common.{◌≡◌, ◌≢◌, ℕ, zero, suc, ◌<◌, List, [], ◌∷◌, Bool, true, false, ◌&&◌, ◌||◌, length, get_or, ◌⊎◌, inl, inr, refl, sym, ap, ◌∙◌, arith}
use Rattle.std.specs.List.{All, AllPairs}
use Rattle.std.specs.Ordering.{ordering_reverse}
use Rattle.std.specs.declared.cmp.Ordering.{Ordering}
use Rattle.std.specs.declared.cmp.Ordering.TheVariants.{Less, Equal, Greater}
use Rattle.std.proofs.lemmas.Bool.{ne_eqb, cases_order}
use Rattle.std.proofs.lemmas.Cmp.{tied_itself}
use Rattle.std.proofs.lemmas.List.Elements.{All-weaker, All-cons, All-head, All-tail}
use Rattle.ix_base.specs.Inversion.{term_cmp, has_number, stands_in_row, posted, posted_at, IsPosting, IsTermPostings, IsPostings, IsInversion}
use Rattle.ix_base.proofs.TermOrder.{term_total, term_same}
use Rattle.ix_base.specs.Documents.{Document}
use Rattle.ix_base.specs.declared.document.Term.{Term}
use Rattle.ix_base.specs.declared.postings.Posting.{Posting}
use Rattle.ix_base.specs.declared.postings.Postings.{Postings}
use Rattle.ix_base.specs.declared.postings.TermPostings.{TermPostings}
use Rattle.query_core.proofs.Rising.{pairs_head, pairs_tail, has_at, rising_unique}
use Rattle.query_core.proofs.InPostings.{posted_found, posted_nowhere, row_found, row_nowhere, no_posting, named_other}

either : (a b : ℕ) → (a < b) ⊎ (b < a) → a ≢ b
either a b (inl l) e = omega arith
either a b (inr l) e = omega arith

-- ---- the rows of a term

row_here : (posting : Posting) (rows : List Posting) → AllPairs (λ a b. a.row < b.row) (posting ∷ rows) → IsPosting posting → (at : ℕ) × (posted_at (posting ∷ rows) posting.row at ≡ true)
row_here posting rows rise is =
    let at = get_or posting.positions 0 0 in
    (at, row_found (posting ∷ rows) 0 posting posting.row at rise (omega arith) refl ∙ has_at posting.positions 0 at 0 is.some refl)

row_not : (row at : ℕ) (posting : Posting) (rows : List Posting) → row < posting.row → AllPairs (λ a b. a.row < b.row) (posting ∷ rows) → posted_at (posting ∷ rows) row at ≡ false
row_not row at posting rows lt rise =
    row_nowhere (posting ∷ rows) row at (All-cons (λ p. p.row ≢ row) posting rows (λ e. omega arith) (All-weaker (λ p. posting.row < p.row) (λ p. p.row ≢ row) (λ p l e. omega arith) rows (pairs_head (λ a b. a.row < b.row) posting rows rise)))

row_rest : (row at : ℕ) (posting : Posting) (rows : List Posting) → AllPairs (λ a b. a.row < b.row) (posting ∷ rows) → posting.row ≡ row → posted_at rows row at ≡ false
row_rest row at posting rows rise e = row_nowhere rows row at (All-weaker (λ p. posting.row < p.row) (λ p. p.row ≢ row) (λ p l q. omega arith) rows (pairs_head (λ a b. a.row < b.row) posting rows rise))

row_past : (row at : ℕ) (posting : Posting) (rows : List Posting) → posting.row ≢ row → posted_at (posting ∷ rows) row at ≡ posted_at rows row at
row_past row at posting rows ne = ap (λ (b : Bool). (b && has_number posting.positions at) || posted_at rows row at) (ne_eqb posting.row row ne)

pub rows_unique : (xs ys : List Posting) → AllPairs (λ a b. a.row < b.row) xs → AllPairs (λ a b. a.row < b.row) ys → All IsPosting xs → All IsPosting ys → ((row at : ℕ) → posted_at xs row at ≡ posted_at ys row at) → xs ≡ ys
rows_unique [] [] rx ry ex ey same = refl
rows_unique [] (y ∷ ys) rx ry ex ey same = let h = row_here y ys ry (All-head IsPosting y ys ey) in let q : false ≡ true = same y.row h.0 ∙ h.1 in cc
rows_unique (x ∷ xs) [] rx ry ex ey same = let h = row_here x xs rx (All-head IsPosting x xs ex) in let q : false ≡ true = sym (same x.row h.0) ∙ h.1 in cc
rows_unique (x ∷ xs) (y ∷ ys) rx ry ex ey same =
    let first : x ≡ y = one (meet (cases_order x.row y.row)) in
    let rest : xs ≡ ys = rows_unique xs ys (pairs_tail (λ a b. a.row < b.row) x xs rx) (pairs_tail (λ a b. a.row < b.row) y ys ry) (All-tail IsPosting x xs ex) (All-tail IsPosting y ys ey) (λ row at. tails (ap (λ (p : Posting). p.row) first) row at (cases_order x.row row)) in
    λ i. first i ∷ rest i
  where
    is_x : IsPosting x
    is_x = All-head IsPosting x xs ex

    is_y : IsPosting y
    is_y = All-head IsPosting y ys ey

    meet : (x.row ≡ y.row) ⊎ ((x.row < y.row) ⊎ (y.row < x.row)) → x.row ≡ y.row
    meet (inl e) = e
    meet (inr (inl l)) = let h = row_here x xs rx is_x in let q : true ≡ false = sym h.1 ∙ same x.row h.0 ∙ row_not x.row h.0 y ys l ry in cc
    meet (inr (inr l)) = let h = row_here y ys ry is_y in let q : false ≡ true = sym (row_not y.row h.0 x xs l rx) ∙ same y.row h.0 ∙ h.1 in cc

    one : x.row ≡ y.row → x ≡ y
    one e =
        let positions : x.positions ≡ y.positions = rising_unique x.positions y.positions is_x.rise is_y.rise (λ at.
        sym (row_found (x ∷ xs) 0 x x.row at rx (omega arith) refl) ∙ same x.row at ∙ row_found (y ∷ ys) 0 y x.row at ry (omega arith) (sym e)) in
        λ i. record { row = e i; positions = positions i }

    tails : x.row ≡ y.row → (row at : ℕ) → (x.row ≡ row) ⊎ ((x.row < row) ⊎ (row < x.row)) → posted_at xs row at ≡ posted_at ys row at
    tails e row at (inl q) = row_rest row at x xs rx q ∙ sym (row_rest row at y ys ry (sym e ∙ q))
    tails e row at (inr o) =
        let ne : x.row ≢ row = either x.row row o in
        sym (row_past row at x xs ne) ∙ same row at ∙ row_past row at y ys (λ q. ne (e ∙ q))

-- ---- the terms

entry_here : (entry : TermPostings) (entries : List TermPostings) → IsPostings (entry ∷ entries) → (row : ℕ) × (at : ℕ) × (posted (entry ∷ entries) entry.term.field entry.term.bytes row at ≡ true)
entry_here entry entries lawful =
    let is : IsTermPostings entry = All-head IsTermPostings entry entries lawful.each in
    let posting = get_or entry.rows 0 no_posting in
    let one : IsPosting posting = is.each 0 no_posting is.some in
    let at = get_or posting.positions 0 0 in
    (posting.row, at, posted_found (entry ∷ entries) 0 entry entry.term posting.row at lawful (omega arith) refl ∙ row_found entry.rows 0 no_posting posting.row at is.rise is.some refl ∙ has_at posting.positions 0 at 0 one.some refl)

below_differs : (a b : Term) → term_cmp a b ≡ Less → b ≢ a
below_differs a b l e = let q : Less ≡ Equal = sym l ∙ ap (term_cmp a) e ∙ tied_itself term_total a in cc

entry_not : (term : Term) (row at : ℕ) (entry : TermPostings) (entries : List TermPostings) → term_cmp term entry.term ≡ Less → IsPostings (entry ∷ entries) → posted (entry ∷ entries) term.field term.bytes row at ≡ false
entry_not term row at entry entries lt lawful =
    posted_nowhere (entry ∷ entries) term row at (All-cons (λ e. e.term ≢ term) entry entries (below_differs term entry.term lt)
    (All-weaker (λ e. term_cmp entry.term e.term ≡ Less) (λ e. e.term ≢ term) (λ e l. below_differs term e.term (term_total.trans term entry.term e.term lt l)) entries (pairs_head (λ a b. term_cmp a.term b.term ≡ Less) entry entries lawful.rise)))

rest_of : (entry : TermPostings) (entries : List TermPostings) → IsPostings (entry ∷ entries) → IsPostings entries
rest_of entry entries lawful = record { rise = pairs_tail (λ a b. term_cmp a.term b.term ≡ Less) entry entries lawful.rise; each = All-tail IsTermPostings entry entries lawful.each }

entry_past : (term : Term) (row at : ℕ) (entry : TermPostings) (entries : List TermPostings) → entry.term ≢ term → posted (entry ∷ entries) term.field term.bytes row at ≡ posted entries term.field term.bytes row at
entry_past term row at entry entries ne = ap (λ (b : Bool). (b && posted_at entry.rows row at) || posted entries term.field term.bytes row at) (named_other term entry.term ne)

entry_rest : (term : Term) (row at : ℕ) (entry : TermPostings) (entries : List TermPostings) → IsPostings (entry ∷ entries) → entry.term ≡ term → posted entries term.field term.bytes row at ≡ false
entry_rest term row at entry entries lawful e =
    posted_nowhere entries term row at (All-weaker (λ g. term_cmp entry.term g.term ≡ Less) (λ g. g.term ≢ term) (λ g l q. below_differs entry.term g.term l (q ∙ sym e)) entries (pairs_head (λ a b. term_cmp a.term b.term ≡ Less) entry entries lawful.rise))

turned : (a b : Term) → term_cmp a b ≡ Greater → term_cmp b a ≡ Less
turned a b e = term_total.antisymm b a ∙ ap ordering_reverse e

apart : (a b : Term) (o : Ordering) → term_cmp a b ≡ o → (a ≡ b) ⊎ (a ≢ b)
apart a b Less e = inr (λ q. below_differs a b e (sym q))
apart a b Equal e = inl (term_same a b e)
apart a b Greater e = inr (λ q. below_differs b a (turned a b e) q)

pub entries_unique : (xs ys : List TermPostings) → IsPostings xs → IsPostings ys → ((field bytes : List ℕ) (row at : ℕ) → posted xs field bytes row at ≡ posted ys field bytes row at) → xs ≡ ys
entries_unique [] [] lx ly same = refl
entries_unique [] (y ∷ ys) lx ly same = let h = entry_here y ys ly in let q : false ≡ true = same y.term.field y.term.bytes h.0 h.1 ∙ h.2 in cc
entries_unique (x ∷ xs) [] lx ly same = let h = entry_here x xs lx in let q : false ≡ true = sym (same x.term.field x.term.bytes h.0 h.1) ∙ h.2 in cc
entries_unique (x ∷ xs) (y ∷ ys) lx ly same =
    let term : x.term ≡ y.term = meet (term_cmp x.term y.term) refl in
    let first : x ≡ y = one term in
    let rest : xs ≡ ys = entries_unique xs ys (rest_of x xs lx) (rest_of y ys ly) (λ field bytes row at. tails term (record { field = field; bytes = bytes }) row at) in
    λ i. first i ∷ rest i
  where
    is_x : IsTermPostings x
    is_x = All-head IsTermPostings x xs lx.each

    is_y : IsTermPostings y
    is_y = All-head IsTermPostings y ys ly.each

    meet : (o : Ordering) → term_cmp x.term y.term ≡ o → x.term ≡ y.term
    meet Less e = let h = entry_here x xs lx in let q : true ≡ false = sym h.2 ∙ same x.term.field x.term.bytes h.0 h.1 ∙ entry_not x.term h.0 h.1 y ys e ly in cc
    meet Equal e = term_same x.term y.term e
    meet Greater e = let h = entry_here y ys ly in let q : false ≡ true = sym (entry_not y.term h.0 h.1 x xs (turned x.term y.term e) lx) ∙ same y.term.field y.term.bytes h.0 h.1 ∙ h.2 in cc

    one : x.term ≡ y.term → x ≡ y
    one e =
        let rows : x.rows ≡ y.rows = rows_unique x.rows y.rows is_x.rise is_y.rise is_x.each is_y.each (λ row at.
        sym (posted_found (x ∷ xs) 0 x x.term row at lx (omega arith) refl) ∙ same x.term.field x.term.bytes row at ∙ posted_found (y ∷ ys) 0 y x.term row at ly (omega arith) (sym e)) in
        λ i. record { term = e i; rows = rows i }

    tails : x.term ≡ y.term → (term : Term) (row at : ℕ) → posted xs term.field term.bytes row at ≡ posted ys term.field term.bytes row at
    tails e term row at = by (apart x.term term (term_cmp x.term term) refl)
      where
        by : (x.term ≡ term) ⊎ (x.term ≢ term) → posted xs term.field term.bytes row at ≡ posted ys term.field term.bytes row at
        by (inl q) = entry_rest term row at x xs lx q ∙ sym (entry_rest term row at y ys ly (sym e ∙ q))
        by (inr ne) = sym (entry_past term row at x xs ne) ∙ same term.field term.bytes row at ∙ entry_past term row at y ys (λ q. ne (e ∙ q))

-- two inversions of the same documents are one
pub inversion_unique : (docs : List Document) (p q : Postings) → IsInversion docs p → IsInversion docs q → p ≡ q
inversion_unique docs p q ip iq =
    let terms : p.terms ≡ q.terms = entries_unique p.terms q.terms ip.ordered iq.ordered (λ field bytes row at. ip.exact field bytes row at ∙ sym (iq.exact field bytes row at)) in
    λ i. record { terms = terms i }

stands_within : (docs : List Document) (field bytes : List ℕ) (row at : ℕ) → stands_in_row docs field bytes row at ≡ true → row < length docs
stands_within [] field bytes row at h = cc
stands_within (doc ∷ docs) field bytes zero at h = omega arith
stands_within (doc ∷ docs) field bytes (suc row) at h = let r = stands_within docs field bytes row at h in omega arith

-- a row in an inversion is the number of a document
pub inversion_within : (docs : List Document) (p : Postings) (field bytes : List ℕ) (row at : ℕ) → IsInversion docs p → posted p.terms field bytes row at ≡ true → row < length docs
inversion_within docs p field bytes row at inversion h = stands_within docs field bytes row at (sym (inversion.exact field bytes row at) ∙ h)
