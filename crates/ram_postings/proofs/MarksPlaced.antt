-- The rows of marks, and the marks of rows.
use Rattle.std.proofs.Common.{◌≡◌, ℕ, zero, suc, ◌<◌, ◌≤◌, ◌+◌, Option, Some, None, List, [], ◌∷◌, ◌++◌, length, map, take, get_or, set, ◌⊎◌, inl, inr, refl, sym, ap, ◌∙◌, subst, arith}
use Rattle.std.specs.List.{AllPairs, slice_get}
use Rattle.std.proofs.lemmas.Bool.{cases_eq}
use Rattle.std.proofs.lemmas.Option.{slice_get_within, get_or_from_slice_get}
use Rattle.std.proofs.lemmas.List.{append_assoc, length-append, append-nil, map-append, take_more, length-take, length-take-le, get_or-take}
use Rattle.ix_base.specs.Documents.{Document}
use Rattle.ix_base.specs.declared.document.Row.{Row}
use Rattle.ram_postings.specs.Buffer.{row_of, born_rows}
use Rattle.ram_postings.specs.Kept.{staged_of, mark_of, born_marks, number_of, ArePlaces}
use Rattle.ram_postings.specs.declared.entry.Entry.{Entry}
use Rattle.ram_postings.proofs.BornRows.{rows_push}

-- one more row, of the document that comes next
pub rows_next : (es : List Entry) (e : Entry) (old new : List Row) → old ≡ born_rows (map staged_of es)
    → new ≡ old ++ row_of e.doc e.birth → new ≡ born_rows (map staged_of (es ++ e ∷ []))
rows_next es e old new was is =
    is ∙ ap (λ (l : List Row). l ++ row_of e.doc e.birth) was
    ∙ sym (ap born_rows (map-append staged_of es (e ∷ [])) ∙ rows_push (map staged_of es) (staged_of e))

-- a document is one row at most
pub one_row : (doc : Document) (o : Option ℕ) (rows : List Row) → length (rows ++ row_of doc o) ≤ length rows + 1
one_row doc None rows = omega (arith, length-append rows [])
one_row doc (Some n) rows = omega (arith, length-append rows (record { birth = n; doc = doc } ∷ []))

marks_push : (xs : List Entry) (y : Entry) → born_marks (xs ++ y ∷ []) ≡ born_marks xs ++ mark_of y.mark y.birth
marks_push [] y = append-nil (mark_of y.mark y.birth)
marks_push (x ∷ xs) y = ap (λ (l : List ℕ). mark_of x.mark x.birth ++ l) (marks_push xs y) ∙ sym (append_assoc (mark_of x.mark x.birth) (born_marks xs) (mark_of y.mark y.birth))

marks_more : (es : List Entry) (i : ℕ) (d : Entry) → i < length es
    → born_marks (take (i + 1) es) ≡ born_marks (take i es) ++ mark_of (get_or es i d).mark (get_or es i d).birth
marks_more es i d lt = ap born_marks (take_more es i d lt) ∙ marks_push (take i es) (get_or es i d)

pub marks_step : (es : List Entry) (i : ℕ) (e : Entry) (old new : List ℕ) → i < length es → e ≡ get_or es i e → old ≡ born_marks (take i es)
    → new ≡ old ++ mark_of e.mark e.birth → new ≡ born_marks (take (i + 1) es)
marks_step es i e old new lt at was is =
    is ∙ ap (λ (f : Entry). old ++ mark_of f.mark f.birth) at ∙ ap (λ (l : List ℕ). l ++ mark_of (get_or es i e).mark (get_or es i e).birth) was ∙ sym (marks_more es i e lt)

pub mark_some : (m : ℕ) (o : Option ℕ) (n : ℕ) (marks : List ℕ) → o ≡ Some n → marks ++ m ∷ [] ≡ marks ++ mark_of m o
mark_some m o n marks e = ap (λ (p : Option ℕ). marks ++ mark_of m p) (sym e)

pub mark_none : (m : ℕ) (o : Option ℕ) (marks : List ℕ) → o ≡ None → marks ≡ marks ++ mark_of m o
mark_none m o marks e = sym (append-nil marks) ∙ ap (λ (p : Option ℕ). marks ++ mark_of m p) (sym e)

-- ---- places of marks

get_front : (xs : List ℕ) (y r m : ℕ) → slice_get xs r ≡ Some m → slice_get (xs ++ y ∷ []) r ≡ Some m
get_front [] y r m e = cc
get_front (x ∷ xs) y zero m e = e
get_front (x ∷ xs) y (suc r) m e = get_front xs y r m e

get_last : (xs : List ℕ) (y : ℕ) → slice_get (xs ++ y ∷ []) (length xs) ≡ Some y
get_last [] y = refl
get_last (x ∷ xs) y = get_last xs y

get_back : (xs : List ℕ) (y r m : ℕ) → slice_get (xs ++ y ∷ []) r ≡ Some m → (slice_get xs r ≡ Some m) ⊎ ((r ≡ length xs) × (y ≡ m))
get_back [] y zero m e = inr (refl, (cc))
get_back [] y (suc r) m e = cc
get_back (x ∷ xs) y zero m e = inl e
get_back (x ∷ xs) y (suc r) m e = elim (get_back xs y r m e) [ inl h ↦ inl h | inr h ↦ inr (ap suc h.0, h.1) ]

set_here : (xs : List (Option ℕ)) (i : ℕ) (v : Option ℕ) → i < length xs → number_of (set xs i v) i ≡ v
set_here [] i v lt = absurd (omega arith)
set_here (x ∷ xs) zero v lt = refl
set_here (x ∷ xs) (suc i) v lt = set_here xs i v (omega arith)

set_else : (xs : List (Option ℕ)) (i m : ℕ) (v : Option ℕ) → (m ≡ i → ⊥) → number_of (set xs i v) m ≡ number_of xs m
set_else [] i m v ne = refl
set_else (x ∷ xs) zero zero v ne = absurd (ne refl)
set_else (x ∷ xs) zero (suc m) v ne = refl
set_else (x ∷ xs) (suc i) zero v ne = refl
set_else (x ∷ xs) (suc i) (suc m) v ne = set_else xs i m v (λ e. ne (ap suc e))

placed_push : (marks : List ℕ) (places : List (Option ℕ)) (mark : ℕ) → mark < length places → ((r m : ℕ) → slice_get marks r ≡ Some m → m < mark)
    → ArePlaces marks places → ArePlaces (marks ++ mark ∷ []) (set places mark (Some (length marks)))
placed_push marks places mark lt low h m r = (there, back)
  where
    there : number_of (set places mark (Some (length marks))) m ≡ Some r → slice_get (marks ++ mark ∷ []) r ≡ Some m
    there e = go (cases_eq m mark)
      where
        go : (m ≡ mark) ⊎ (m ≡ mark → ⊥) → slice_get (marks ++ mark ∷ []) r ≡ Some m
        go (inl q) =
            let f : Some (length marks) ≡ Some r = sym (set_here places mark (Some (length marks)) lt) ∙ ap (number_of (set places mark (Some (length marks)))) (sym q) ∙ e in
            let same : length marks ≡ r = (cc) in
            subst (λ (n : ℕ). slice_get (marks ++ mark ∷ []) n ≡ Some m) same (get_last marks mark ∙ ap (λ (n : ℕ). Some n) (sym q))
        go (inr ne) = get_front marks mark r m ((h m r).0 (sym (set_else places mark m (Some (length marks)) ne) ∙ e))

    back : slice_get (marks ++ mark ∷ []) r ≡ Some m → number_of (set places mark (Some (length marks))) m ≡ Some r
    back e = go (get_back marks mark r m e)
      where
        go : (slice_get marks r ≡ Some m) ⊎ ((r ≡ length marks) × (mark ≡ m)) → number_of (set places mark (Some (length marks))) m ≡ Some r
        go (inl q) =
            let l : m < mark = low r m q in
            set_else places mark m (Some (length marks)) (λ s. absurd (omega arith)) ∙ (h m r).1 q
        go (inr q) = ap (number_of (set places mark (Some (length marks)))) (sym q.1) ∙ set_here places mark (Some (length marks)) lt ∙ ap (λ (n : ℕ). Some n) (sym q.0)

pub placed_more : (marks : List ℕ) (places : List (Option ℕ)) (i d : ℕ) → i < length marks → get_or marks i d < length places → AllPairs (λ a b. a < b) marks
    → ArePlaces (take i marks) places → ArePlaces (take (i + 1) marks) (set places (get_or marks i d) (Some i))
placed_more marks places i d lt in' rise h =
    let mark : ℕ = get_or marks i d in
    let long : length (take i marks) ≡ i = length-take-le i marks (omega arith) in
    subst (λ (l : List ℕ). ArePlaces l (set places mark (Some i))) (sym (take_more marks i d lt))
    (subst (λ (n : ℕ). ArePlaces (take i marks ++ mark ∷ []) (set places mark (Some n))) long (placed_push (take i marks) places mark in' low h))
  where
    low : (r m : ℕ) → slice_get (take i marks) r ≡ Some m → m < get_or marks i d
    low r m e =
        let within : r < length (take i marks) = slice_get_within (take i marks) r m e in
        let early : r < i = omega (arith, length-take i marks) in
        let at : get_or marks r d ≡ m = sym (get_or-take i marks r d early) ∙ get_or_from_slice_get (take i marks) r m d e in
        let less : get_or marks r d < get_or marks i d = rise r i d early lt in
        omega arith
