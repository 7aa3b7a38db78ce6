-- What is gathered in a segment.
use Rattle.std.proofs.Common.{◌≡◌, ℕ, ◌^◌, Option, Some, None, ◌+◌, ◌<◌, List, [], ◌∷◌, ◌++◌, length, map, get_or, take, refl, sym, ap, subst, ◌∙◌}
use Rattle.std.specs.List.{filter_map, cons_option}
use Rattle.std.specs.Option.{option_map}
use Rattle.std.proofs.lemmas.List.{append-nil, append_assoc, map-append, take_more}
use Rattle.std.proofs.lemmas.List.Elements.{filter_map-append}
use Rattle.ix_base.specs.Inversion.{IsInversion, rows_where}
use Rattle.ix_base.specs.Matches.{matches}
use Rattle.ix_base.specs.Query.{tree_of}
use Rattle.ix_base.specs.declared.document.Row.{Row}
use Rattle.ix_base.specs.declared.query.Query.{Query}
use Rattle.live_docs.specs.Marks.{Marks}
use Rattle.live_docs.specs.declared.live_docs.Mark.{Mark}
use Rattle.segment_core.specs.LiveRows.{Lived, IsWhole, live, live_rows}
use Rattle.segment_core.specs.Marking.{documents_now}
use Rattle.segment_core.specs.Segments.{IsInverted, documents}
use Rattle.segment_core.specs.declared.segment.Segment.{Segment}
use Rattle.searcher.proofs.Taken.{rows_taken}
use Rattle.searcher.specs.declared.shown.Found.{Found}
use Rattle.searcher.specs.Finding.{found_of, found_among, found_at, live_at}

found_at-more : (rows : List Row) (marks : List Mark) (numbers : List ℕ) (i : ℕ) → i < length numbers
    → found_at rows marks (take (i + 1) numbers) ≡ found_at rows marks (take i numbers) ++ map found_of (cons_option (live_at rows marks (get_or numbers i 0)) [])
found_at-more rows marks numbers i lt =
    ap (found_at rows marks) (take_more numbers i 0 lt)
    ∙ ap (map found_of) (filter_map-append (live_at rows marks) (take i numbers) (get_or numbers i 0 ∷ []))
    ∙ map-append found_of (filter_map (live_at rows marks) (take i numbers)) (cons_option (live_at rows marks (get_or numbers i 0)) [])

-- the live row of a number was added
pub adds_row : (start before now : List Found) (rows : List Row) (marks : List Mark) (numbers : List ℕ) (i : ℕ) (one : Found) → i < length numbers
    → Some one ≡ option_map found_of (live_at rows marks (get_or numbers i 0)) → before ≡ start ++ found_at rows marks (take i numbers) → now ≡ before ++ one ∷ []
    → now ≡ start ++ found_at rows marks (take (i + 1) numbers)
adds_row start before now rows marks numbers i one lt is so adds =
    adds
    ∙ ap (λ (l : List Found). l ++ one ∷ []) so
    ∙ append_assoc start (found_at rows marks (take i numbers)) (one ∷ [])
    ∙ sym (ap (λ (l : List Found). start ++ l) (found_at-more rows marks numbers i lt ∙ ap (λ (l : List Found). found_at rows marks (take i numbers) ++ l) (single (live_at rows marks (get_or numbers i 0)) is)))
  where
    single : (o : Option Row) → Some one ≡ option_map found_of o → map found_of (cons_option o []) ≡ one ∷ []
    single None e = absurd cc
    single (Some row) e = let is' : one ≡ found_of row = cc in ap (λ (f : Found). f ∷ []) (sym is')

-- no live row has a number
pub adds_none : (start before : List Found) (rows : List Row) (marks : List Mark) (numbers : List ℕ) (i : ℕ) → i < length numbers
    → None ≡ option_map found_of (live_at rows marks (get_or numbers i 0))
    → before ≡ start ++ found_at rows marks (take i numbers) → before ≡ start ++ found_at rows marks (take (i + 1) numbers)
adds_none start before rows marks numbers i lt is so =
    so ∙ sym (ap (λ (l : List Found). start ++ l)
    (found_at-more rows marks numbers i lt ∙ ap (λ (l : List Found). found_at rows marks (take i numbers) ++ l) (nothing (live_at rows marks (get_or numbers i 0)) is)
    ∙ append-nil (found_at rows marks (take i numbers))))
  where
    nothing : (o : Option Row) → None ≡ option_map found_of o → map found_of (cons_option o []) ≡ []
    nothing None e = refl
    nothing (Some row) e = absurd cc

-- the rows that are answered on the numbers that they have now are the live rows that match
pub found_answered : (query : Query) (s : Lived) (index : Segment) (rows : List Row) (marks : Marks) (numbers : List ℕ) → index ≡ s.segment → rows ≡ s.segment.rows → marks ≡ s.live
    → ((documents rows ≡ documents index.rows) × (length index.rows < 2 ^ 32) × IsInversion (documents rows) index.postings → length marks.marks ≡ length rows → numbers ≡ rows_where (matches (tree_of query)) (documents_now rows marks.marks))
    → IsWhole s.segment s.live → IsInverted s.segment → found_at rows marks.marks numbers ≡ found_among query (live s)
found_answered query s index rows marks numbers i r m are whole inverted =
    ap (found_at rows marks.marks) (are inverts long)
    ∙ ap (map found_of) (rows_taken (matches (tree_of query)) rows marks.marks long)
    ∙ ap (λ (rs : List Row). found_among query (live_rows rs marks.marks)) r
    ∙ ap (λ (ms : Marks). found_among query (live_rows s.segment.rows ms.marks)) m
  where
    inverts : (documents rows ≡ documents index.rows) × (length index.rows < 2 ^ 32) × IsInversion (documents rows) index.postings
    inverts = (
      ap documents (r ∙ ap (λ (g : Segment). g.rows) (sym i)),
      subst (λ (g : Segment). length g.rows < 2 ^ 32) (sym i) whole.few,
      subst (λ (g : Segment). IsInversion (documents rows) g.postings) (sym i) (subst (λ (rs : List Row). IsInversion (documents rs) s.segment.postings) (sym r) inverted),
    )

    long : length marks.marks ≡ length rows
    long = ap (λ (ms : Marks). length ms.marks) m ∙ (whole.rows ∙ ap length (sym r))
