-- The rows of staged documents, as one is staged and one gets its number.
use Rattle.std.proofs.Common.{◌≡◌, ℕ, zero, suc, ◌+◌, ◌<◌, ◌≤◌, Option, Some, None, List, [], ◌∷◌, ◌++◌, length, map, drop, get_or, set, refl, sym, ap, ◌∙◌, subst, arith}
use Rattle.std.proofs.Math.ListN.{get_or-map}
use Rattle.std.specs.List.{All}
use Rattle.std.proofs.lemmas.List.{append_assoc, append-nil, map-set, length-map}
use Rattle.std.proofs.lemmas.List.Quantifiers.{all_pairs_push}
use Rattle.std.proofs.lemmas.List.Elements.{All-head, All-tail, All-push}
use Rattle.ix_base.specs.Births.{first_birth, rows_from}
use Rattle.ix_base.specs.Documents.{Document}
use Rattle.ix_base.specs.declared.document.Row.{Row}
use Rattle.ram_postings.specs.Buffer.{Staged, waiting, row_of, born_rows, with_births}
use Rattle.ram_postings.specs.Kept.{AreBirths, staged_of}
use Rattle.ram_postings.specs.declared.entry.Entry.{Entry}

pub rows_push : (xs : List Staged) (y : Staged) → born_rows (xs ++ y ∷ []) ≡ born_rows xs ++ row_of y.doc y.birth
rows_push [] y = append-nil (row_of y.doc y.birth)
rows_push (x ∷ xs) y = ap (λ (l : List Row). row_of x.doc x.birth ++ l) (rows_push xs y) ∙ sym (append_assoc (row_of x.doc x.birth) (born_rows xs) (row_of y.doc y.birth))

-- one that waits is in no row
pub rows_waiting : (xs : List Staged) (doc : Document) → born_rows (xs ++ waiting doc ∷ []) ≡ born_rows xs
rows_waiting xs doc = rows_push xs (waiting doc) ∙ append-nil (born_rows xs)

none_born : (xs : List Staged) → All (λ s. s.birth ≡ None) xs → born_rows xs ≡ []
none_born [] h = refl
none_born (x ∷ xs) h =
    ap (λ (o : Option ℕ). row_of x.doc o ++ born_rows xs) (All-head (λ (s : Staged). s.birth ≡ None) x xs h)
    ∙ none_born xs (All-tail (λ (s : Staged). s.birth ≡ None) x xs h)

-- ---- documents that get their births

pub births_none : (xs : List Staged) (place birth : ℕ) → with_births xs place zero birth ≡ xs
births_none [] place birth = refl
births_none (x ∷ xs) zero birth = refl
births_none (x ∷ xs) (suc place) birth = ap (λ (l : List Staged). x ∷ l) (births_none xs place birth)

-- so many get them, and then the one behind them
next_born : (xs : List Staged) (place count birth at now : ℕ) (s : Staged) → at ≡ place + count → now ≡ birth + count → at < length xs
    → s.doc ≡ (get_or (with_births xs place count birth) at s).doc → s.birth ≡ Some now
    → set (with_births xs place count birth) at s ≡ with_births xs place (suc count) birth
next_born [] place count birth at now s is last lt doc born = absurd (omega arith)
next_born (x ∷ xs) (suc place) count birth zero now s is last lt doc born = absurd (omega arith)
next_born (x ∷ xs) (suc place) count birth (suc at) now s is last lt doc born =
    ap (λ (l : List Staged). x ∷ l) (next_born xs place count birth at now s (omega arith) last (omega arith) doc born)
next_born (x ∷ xs) zero zero birth zero now s is last lt doc born =
    let same : now ≡ birth = omega arith in
    (λ i. record { doc = doc i; birth = (born ∙ ap (λ (n : ℕ). Some n) same) i } ∷ xs)
    ∙ ap (λ (l : List Staged). record { doc = x.doc; birth = Some birth } ∷ l) (sym (births_none xs zero (birth + 1)))
next_born (x ∷ xs) zero zero birth (suc at) now s is last lt doc born = absurd (omega arith)
next_born (x ∷ xs) zero (suc count) birth zero now s is last lt doc born = absurd (omega arith)
next_born (x ∷ xs) zero (suc count) birth (suc at) now s is last lt doc born =
    ap (λ (l : List Staged). record { doc = x.doc; birth = Some birth } ∷ l)
    (next_born xs zero count (birth + 1) at now s (omega arith) (omega arith) (omega arith) doc born)

-- where documents and all behind them wait, those that get their births are the last rows
pub rows_born : (xs : List Staged) (place count birth room : ℕ) → place + count ≤ length xs → count ≤ room
    → All (λ s. s.birth ≡ None) (drop place xs)
    → (docs : List Document) × (born_rows (with_births xs place count birth) ≡ born_rows xs ++ rows_from room birth docs)
rows_born [] place count birth room lt fits h = ([], sym (append-nil []))
rows_born (x ∷ xs) (suc place) count birth room lt fits h =
    let more = rows_born xs place count birth room (omega arith) fits h in
    (more.0, ap (λ (l : List Row). row_of x.doc x.birth ++ l) more.1 ∙ sym (append_assoc (row_of x.doc x.birth) (born_rows xs) (rows_from room birth more.0)))
rows_born (x ∷ xs) zero zero birth room lt fits h = ([], sym (append-nil (born_rows (x ∷ xs))))
rows_born (x ∷ xs) zero (suc count) birth zero lt fits h = absurd (omega arith)
rows_born (x ∷ xs) zero (suc count) birth (suc room) lt fits h =
    let behind : All (λ (s : Staged). s.birth ≡ None) xs = All-tail (λ (s : Staged). s.birth ≡ None) x xs h in
    let more = rows_born xs zero count (birth + 1) room (omega arith) (omega arith) behind in
    let row : Row = record { birth = birth; doc = x.doc } in (
      x.doc ∷ more.0,
      ap (λ (l : List Row). row ∷ l) more.1
          ∙ ap (λ (l : List Row). row ∷ l ++ rows_from room (birth + 1) more.0) (none_born xs behind)
          ∙ ap (λ (l : List Row). l ++ row ∷ rows_from room (birth + 1) more.0) (sym (none_born (x ∷ xs) h)),
    )

one_more : (rows : List Row) (row : Row) → AreBirths rows → first_birth 1 ≤ row.birth → All (λ r. r.birth < row.birth) rows → AreBirths (rows ++ row ∷ [])
one_more rows row h positive above = record {
  rise = all_pairs_push (λ (a : Row) (b : Row). a.birth < b.birth) rows row h.rise above;
  positive = All-push (λ (r : Row). first_birth 1 ≤ r.birth) rows row h.positive positive;
}

pub births_more : (room birth : ℕ) (docs : List Document) (rows : List Row) → AreBirths rows → first_birth 1 ≤ birth
    → All (λ r. r.birth < birth) rows → AreBirths (rows ++ rows_from room birth docs)
births_more room birth [] rows h positive above = subst AreBirths (sym (append-nil rows)) h
births_more zero birth (doc ∷ docs) rows h positive above = subst AreBirths (sym (append-nil rows)) h
births_more (suc room) birth (doc ∷ docs) rows h positive above =
    let row : Row = record { birth = birth; doc = doc } in
    let below : All (λ r. r.birth < birth + 1) rows = λ i d lt. let h = above i d lt in omega (arith, h) in
    subst AreBirths (append_assoc rows (row ∷ []) (rows_from room (birth + 1) docs))
    (births_more room (birth + 1) docs (rows ++ row ∷ []) (one_more rows row h positive above) (omega arith)
    (All-push (λ (r : Row). r.birth < birth + 1) rows row below (omega arith)))

-- ---- in place

pub staged_born : (es now : List Entry) (place count birth at last : ℕ) (e : Entry) → map staged_of now ≡ with_births (map staged_of es) place count birth
    → length now ≡ length es → at ≡ place + count → at < length es → last ≡ birth + count → e.doc ≡ (get_or now at e).doc → e.birth ≡ Some last
    → map staged_of (set now at e) ≡ with_births (map staged_of es) place (count + 1) birth
staged_born es now place count birth at last e was long is lt born doc birth_is =
    let ss : List Staged = map staged_of es in
    let lt' : at < length ss = omega (arith, lt, length-map es staged_of) in
    let doc' : e.doc ≡ (get_or (with_births ss place count birth) at (staged_of e)).doc =
    doc ∙ ap (λ (s : Staged). s.doc) (sym (get_or-map staged_of now at e)) ∙ ap (λ (l : List Staged). (get_or l at (staged_of e)).doc) was in
    map-set staged_of now at e ∙ ap (λ (l : List Staged). set l at (staged_of e)) was
    ∙ next_born ss place count birth at last (staged_of e) is born lt' doc' birth_is
    ∙ ap (λ (n : ℕ). with_births ss place n birth) (omega arith)
