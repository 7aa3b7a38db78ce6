-- A commit that is made on what is left of some files is made on all of them.
use Rattle.std.proofs.Common.{◌≡◌, ◌≢◌, ◌⊎◌, inl, inr, ◌∙◌, ℕ, ◌+◌, ◌==◌, ◌<◌, ◌≤◌, List, [], ◌∷◌, ◌++◌, Bool, true, false, cond, Some, None, length, refl, sym, ap, subst, arith}
use Rattle.std.specs.Prelude.{AllPairs, Contains, Option, IsSome}
use Rattle.std.specs.List.{AllByRecursion, filter}
use Rattle.std.proofs.lemmas.Bool.{cases_lt, eqb-true, eq-eqb}
use Rattle.std.proofs.lemmas.List.Elements.{All-contains, All-from_recursion}
use Rattle.ix_base.specs.declared.file_name.FileName.{FileName}
use Rattle.ix_base.specs.declared.file_name.FileName.TheVariants.{Commit, Pending, Rows, Posts, Live, Values}
use Rattle.ix_outside.specs.Files.{Files}
use Rattle.live_docs.specs.MarkLaws.{same_marks_is}
use Rattle.live_docs.specs.Marks.{same_marks}
use Rattle.live_docs.specs.declared.live_docs.Mark.{Mark}
use Rattle.live_files.specs.LiveSpelling.{live_file, values_file, live_bits, values_of}
use Rattle.segment_core.specs.LiveRows.{Lived}
use Rattle.commit_point.specs.declared.heads.HeadSegment.{HeadSegment}
use Rattle.commit_point.specs.declared.written.Written.{Written}
use Rattle.commit_point.proofs.Laws.{one_head}
use Rattle.commit_point.proofs.RowsKept.{rows_kept}
use Rattle.commit_point.specs.declared.heads.Head.{Head}
use Rattle.commit_point.specs.Fits.{EntryFits}
use Rattle.commit_point.specs.Holds.{HasHead, HasSegment, HasSegments, HaveSegments, IsAmong, IsFileOf, Lists, Pairs, head_of, names_of}
use Rattle.commit_point.specs.Publishing.{AreThere, File}
use Rattle.commit_point.specs.Writing.{AreWritten, ComesAfter, Commits, IsElsewhere, IsOldId, IsWritten, MayCommit, SameElsewhere, SegmentIdsRise, commit_files, entries_of, entry_of, files_of, is_alive, is_same, listed, live_files, row_files, version}
use Rattle.commit_pruning.specs.Pruning.{IsGivenUp, IsWholeAs, MayBePruned, Stays}

-- ---- what the commit may write, over other files

-- whether the id isn't that of a segment that is new
is_old : List Lived → List (Option Written) → ℕ → Bool
is_old [] ws id = true
is_old (g ∷ gs) [] id = true
is_old (g ∷ gs) (None ∷ ws) id = cond (g.segment.id == id) false (is_old gs ws id)
is_old (g ∷ gs) (Some w ∷ ws) id = is_old gs ws id

old_when : (gs : List Lived) (ws : List (Option Written)) (id : ℕ) → is_old gs ws id ≡ true → IsOldId gs ws id
unfolding is_old
old_when [] ws id e = tt
old_when (g ∷ gs) [] id e = tt
old_when (g ∷ gs) (None ∷ ws) id e = by (g.segment.id == id) refl e (old_when gs ws id)
  where
    by : (b : Bool) → (g.segment.id == id) ≡ b → cond b false (is_old gs ws id) ≡ true
        → (is_old gs ws id ≡ true → IsOldId gs ws id) → (g.segment.id ≢ id) × IsOldId gs ws id
    by true is h rest = absurd cc
    by false is h rest = ((λ same. let found : (g.segment.id == id) ≡ true = eq-eqb g.segment.id id same in absurd cc), rest h)
old_when (g ∷ gs) (Some w ∷ ws) id e = old_when gs ws id e

old_unless : (gs : List Lived) (ws : List (Option Written)) (id : ℕ) → is_old gs ws id ≡ false → IsOldId gs ws id → ⊥
unfolding is_old
old_unless [] ws id e old = let never : true ≡ false = e in absurd cc
old_unless (g ∷ gs) [] id e old = let never : true ≡ false = e in absurd cc
old_unless (g ∷ gs) (None ∷ ws) id e old =
    by (g.segment.id == id) refl e (λ h. old_unless gs ws id h old.1)
  where
    by : (b : Bool) → (g.segment.id == id) ≡ b → cond b false (is_old gs ws id) ≡ false
        → (is_old gs ws id ≡ false → ⊥) → ⊥
    by true is h rest = old.0 (eqb-true g.segment.id id is)
    by false is h rest = rest h
old_unless (g ∷ gs) (Some w ∷ ws) id e old = old_unless gs ws id e old

-- The files, but what the commit s may write is as in the new ones.
pub over : ℕ → List Lived → List (Option Written) → Files → Files → Files
over s gs ws was new (Commit t) = cond (t == s) (new (Commit t)) (was (Commit t))
over s gs ws was new (Pending t) = cond (t == s) (new (Pending t)) (was (Pending t))
over s gs ws was new (Rows id) = cond (is_old gs ws id) (was (Rows id)) (new (Rows id))
over s gs ws was new (Posts id) = cond (is_old gs ws id) (was (Posts id)) (new (Posts id))
over s gs ws was new (Live id v) = cond (v == s) (new (Live id v)) (was (Live id v))
over s gs ws was new (Values id v) = cond (v == s) (new (Values id v)) (was (Values id v))

first_of : {A : Type 0} (b : Bool) (x y : A) → (b ≡ false → ⊥) → cond b x y ≡ x
first_of true x y not = refl
first_of false x y not = absurd (not refl)

second_of : {A : Type 0} (b : Bool) (x y : A) → (b ≡ true → ⊥) → cond b x y ≡ y
second_of true x y not = absurd (not refl)
second_of false x y not = refl

not_same : (t s : ℕ) → t ≢ s → (t == s) ≡ true → ⊥
not_same t s ne e = ne (eqb-true t s e)

not_other : (t s : ℕ) → (t ≢ s → ⊥) → (t == s) ≡ false → ⊥
not_other t s h e = h (λ is. let found : (t == s) ≡ true = eq-eqb t s is in absurd cc)

pub over_was : (s : ℕ) (gs : List Lived) (ws : List (Option Written)) (was new : Files)
    → SameElsewhere s (IsOldId gs ws) was (over s gs ws was new)
unfolding over
over_was s gs ws was new (Commit t) ne = second_of (t == s) (new (Commit t)) (was (Commit t)) (not_same t s ne)
over_was s gs ws was new (Pending t) ne = second_of (t == s) (new (Pending t)) (was (Pending t)) (not_same t s ne)
over_was s gs ws was new (Rows id) old = first_of (is_old gs ws id) (was (Rows id)) (new (Rows id)) (λ e. old_unless gs ws id e old)
over_was s gs ws was new (Posts id) old = first_of (is_old gs ws id) (was (Posts id)) (new (Posts id)) (λ e. old_unless gs ws id e old)
over_was s gs ws was new (Live id v) ne = second_of (v == s) (new (Live id v)) (was (Live id v)) (not_same v s ne)
over_was s gs ws was new (Values id v) ne = second_of (v == s) (new (Values id v)) (was (Values id v)) (not_same v s ne)

-- the commit may write the file
abbrev pub MayWrite : ℕ → List Lived → List (Option Written) → FileName → Type 0
MayWrite s gs ws name = IsElsewhere s (IsOldId gs ws) name → ⊥

pub over_new : (s : ℕ) (gs : List Lived) (ws : List (Option Written)) (was new : Files) (name : FileName)
    → MayWrite s gs ws name → over s gs ws was new name ≡ new name
unfolding over
over_new s gs ws was new (Commit t) h = first_of (t == s) (new (Commit t)) (was (Commit t)) (not_other t s h)
over_new s gs ws was new (Pending t) h = first_of (t == s) (new (Pending t)) (was (Pending t)) (not_other t s h)
over_new s gs ws was new (Rows id) h = second_of (is_old gs ws id) (was (Rows id)) (new (Rows id)) (λ e. h (old_when gs ws id e))
over_new s gs ws was new (Posts id) h = second_of (is_old gs ws id) (was (Posts id)) (new (Posts id)) (λ e. h (old_when gs ws id e))
over_new s gs ws was new (Live id v) h = first_of (v == s) (new (Live id v)) (was (Live id v)) (not_other v s h)
over_new s gs ws was new (Values id v) h = first_of (v == s) (new (Values id v)) (was (Values id v)) (not_other v s h)

-- ---- what it writes stands

new_rest : (s : ℕ) (g : Lived) (gs : List Lived) (w : Option Written) (ws : List (Option Written)) (name : FileName)
    → MayWrite s gs ws name → MayWrite s (g ∷ gs) (w ∷ ws) name
new_rest s g gs w ws name may other = may (go w name other)
  where
    go : (w : Option Written) (n : FileName) → IsElsewhere s (IsOldId (g ∷ gs) (w ∷ ws)) n → IsElsewhere s (IsOldId gs ws) n
    go None (Commit t) h = h
    go None (Pending t) h = h
    go None (Rows id) h = h.1
    go None (Posts id) h = h.1
    go None (Live id v) h = h
    go None (Values id v) h = h
    go (Some u) (Commit t) h = h
    go (Some u) (Pending t) h = h
    go (Some u) (Rows id) h = h
    go (Some u) (Posts id) h = h
    go (Some u) (Live id v) h = h
    go (Some u) (Values id v) h = h

-- each file of the list may be written by the commit
abbrev AllNew : ℕ → List Lived → List (Option Written) → List File → Type 0
AllNew s gs ws files = AllByRecursion (λ (f : File). MayWrite s gs ws f.0) files

all_joined : (P : File → Type 0) (xs ys : List File) → AllByRecursion P xs → AllByRecursion P ys → AllByRecursion P (xs ++ ys)
all_joined P [] ys first second = second
all_joined P (x ∷ xs) ys first second = (first.0, all_joined P xs ys first.1 second)

all_onto : (P Q : File → Type 0) (xs : List File) → ((f : File) → P f → Q f) → AllByRecursion P xs → AllByRecursion Q xs
all_onto P Q [] onto all = tt
all_onto P Q (x ∷ xs) onto all = (onto x all.0, all_onto P Q xs onto all.1)

rows_new : (s : ℕ) (g : Lived) (gs : List Lived) (w : Option Written) (ws : List (Option Written)) → AllNew s (g ∷ gs) (w ∷ ws) (row_files w g)
rows_new s g gs None ws = ((λ old. old.0 refl), ((λ old. old.0 refl), tt))
rows_new s g gs (Some u) ws = tt

live_new : (s : ℕ) (g : Lived) (gs : List Lived) (w : Option Written) (ws : List (Option Written)) → AllNew s (g ∷ gs) (w ∷ ws) (live_files s w g)
live_new s g gs w ws = by (is_same w g)
  where
    by : (b : Bool) → AllNew s (g ∷ gs) (w ∷ ws) (cond b []
        ((Live g.segment.id s, live_file g.segment.id s (live_bits g.live.marks))
        ∷ (Values g.segment.id s, values_file g.segment.id s (length g.segment.rows) (values_of g.live.marks)) ∷ []))
    by true = tt
    by false = ((λ ne. ne refl), ((λ ne. ne refl), tt))

files_new : (s : ℕ) (gs : List Lived) (ws : List (Option Written)) → AllNew s gs ws (commit_files s gs ws)
files_new s [] ws = tt
files_new s (g ∷ gs) [] = tt
files_new s (g ∷ gs) (w ∷ ws) =
    all_joined (λ (f : File). MayWrite s (g ∷ gs) (w ∷ ws) f.0) (cond (is_alive g) (files_of s w g) []) (commit_files s gs ws)
    (by (is_alive g))
    (all_onto (λ (f : File). MayWrite s gs ws f.0) (λ (f : File). MayWrite s (g ∷ gs) (w ∷ ws) f.0) (commit_files s gs ws)
    (λ f may. new_rest s g gs w ws f.0 may) (files_new s gs ws))
  where
    by : (b : Bool) → AllNew s (g ∷ gs) (w ∷ ws) (cond b (files_of s w g) [])
    by true =
        all_joined (λ (f : File). MayWrite s (g ∷ gs) (w ∷ ws) f.0) (row_files w g) (live_files s w g)
        (rows_new s g gs w ws) (live_new s g gs w ws)
    by false = tt

there_over : (s : ℕ) (gs : List Lived) (ws : List (Option Written)) (was new : Files) (list : List File)
    → AllNew s gs ws list → AreThere list new → AreThere list (over s gs ws was new)
there_over s gs ws was new [] may there = tt
there_over s gs ws was new (f ∷ fs) may there =
    (over_new s gs ws was new f.0 may.0 ∙ there.0, there_over s gs ws was new fs may.1 there.1)

-- ---- what it lists stands

-- the id is that of a new segment where nothing of it is written, and else isn't one
abbrev IdApart : List Lived → List (Option Written) → Option Written → Lived → Type 0
IdApart gs ws None g = IsOldId gs ws g.segment.id → ⊥
IdApart gs ws (Some u) g = IsOldId gs ws g.segment.id

-- the same of each of these segments
abbrev IdsApart : List Lived → List (Option Written) → List Lived → List (Option Written) → Type 0
IdsApart all written [] ws = Unit {0}
IdsApart all written (g ∷ gs) [] = Unit {0}
IdsApart all written (g ∷ gs) (w ∷ ws) = IdApart all written w g × IdsApart all written gs ws

old_before : (id low limit : ℕ) (gs : List Lived) (ws : List (Option Written)) → id < low → SegmentIdsRise low limit gs → IsOldId gs ws id
old_before id low limit [] ws lt rise = tt
old_before id low limit (g ∷ gs) [] lt rise = tt
old_before id low limit (g ∷ gs) (None ∷ ws) lt rise = (
  (λ e. absurd (omega (arith, e, lt, rise.0))),
  old_before id (g.segment.id + 1) limit gs ws (omega (arith, lt, rise.0)) rise.2,
)
old_before id low limit (g ∷ gs) (Some u ∷ ws) lt rise =
    old_before id (g.segment.id + 1) limit gs ws (omega (arith, lt, rise.0)) rise.2

ids_apart : (all : List Lived) (written : List (Option Written)) (gs : List Lived) (ws : List (Option Written)) (low limit : ℕ)
    → SegmentIdsRise low limit gs → ((id : ℕ) → low ≤ id → IsOldId gs ws id → IsOldId all written id)
    → ((id : ℕ) → low ≤ id → IsOldId all written id → IsOldId gs ws id) → IdsApart all written gs ws
ids_apart all written [] ws low limit rise to back = tt
ids_apart all written (g ∷ gs) [] low limit rise to back = tt
ids_apart all written (g ∷ gs) (None ∷ ws) low limit rise to back = (
  (λ old. (back g.segment.id rise.0 old).0 refl),
  ids_apart all written gs ws (g.segment.id + 1) limit rise.2
      (λ id le old. to id (omega (arith, le, rise.0)) ((λ e. absurd (omega (arith, e, le))), old))
      (λ id le old. (back id (omega (arith, le, rise.0)) old).1),
)
ids_apart all written (g ∷ gs) (Some u ∷ ws) low limit rise to back = (
  to g.segment.id rise.0 (old_before g.segment.id (g.segment.id + 1) limit gs ws (omega arith) rise.2),
  ids_apart all written gs ws (g.segment.id + 1) limit rise.2
      (λ id le old. to id (omega (arith, le, rise.0)) old)
      (λ id le old. back id (omega (arith, le, rise.0)) old),
)

same_or : (a b : ℕ) → (a ≡ b) ⊎ (a ≢ b)
same_or a b = by (a == b) refl
  where
    by : (c : Bool) → (a == b) ≡ c → (a ≡ b) ⊎ (a ≢ b)
    by true is = inl (eqb-true a b is)
    by false is = inr (λ e. let found : (a == b) ≡ true = eq-eqb a b e in absurd cc)

-- the rows of a segment of which something is written have the bytes that they had
abbrev pub OneStays : Files → Files → Option Written → Lived → Type 0
OneStays was new None g = Unit {0}
OneStays was new (Some u) g = new (Rows g.segment.id) ≡ was (Rows g.segment.id)

-- the same of each segment with a live row
abbrev pub RowsStay : Files → Files → List Lived → List (Option Written) → Type 0
RowsStay was new [] ws = Unit {0}
RowsStay was new (g ∷ gs) [] = Unit {0}
RowsStay was new (g ∷ gs) (w ∷ ws) = (is_alive g ≡ true → OneStays was new w g) × RowsStay was new gs ws

rows_same : (s : ℕ) (all : List Lived) (written : List (Option Written)) (was new : Files) (w : Option Written) (g : Lived)
    → IdApart all written w g → OneStays was new w g
    → over s all written was new (Rows g.segment.id) ≡ new (Rows g.segment.id)
rows_same s all written was new None g apart stays = over_new s all written was new (Rows g.segment.id) apart
rows_same s all written was new (Some u) g apart stays = over_was s all written was new (Rows g.segment.id) apart ∙ sym stays

posts_same : (s : ℕ) (all : List Lived) (written : List (Option Written)) (was new : Files) (w : Option Written) (g : Lived)
    → IdApart all written w g → IsWritten was s w g → HasSegment new s (entry_of s w g) g
    → over s all written was new (Posts g.segment.id) ≡ new (Posts g.segment.id)
posts_same s all written was new None g apart stood has = over_new s all written was new (Posts g.segment.id) apart
posts_same s all written was new (Some u) g apart stood has =
    over_was s all written was new (Posts g.segment.id) apart ∙ stood.1.posts ∙ sym has.posts

live_same : (s : ℕ) (all : List Lived) (written : List (Option Written)) (was new : Files) (w : Option Written) (g : Lived)
    → IsWritten was s w g → HasSegment new s (entry_of s w g) g
    → over s all written was new (Live g.segment.id (version s w g)) ≡ new (Live g.segment.id (version s w g))
live_same s all written was new None g stood has = over_new s all written was new (Live g.segment.id s) (λ ne. ne refl)
live_same s all written was new (Some u) g stood has = by (same_marks u.live.marks g.live.marks) refl has.live
  where
    id : ℕ
    id = g.segment.id

    by : (b : Bool) → same_marks u.live.marks g.live.marks ≡ b
        → new (Live id (cond b u.v s)) ≡ Some (live_file id (cond b u.v s) (live_bits g.live.marks))
        → over s all written was new (Live id (cond b u.v s)) ≡ new (Live id (cond b u.v s))
    by false is h = over_new s all written was new (Live id s) (λ ne. ne refl)
    by true is h = elim (same_or u.v s) [
      | inl e ↦ over_new s all written was new (Live id u.v) (λ ne. ne e)
      | inr ne ↦ over_was s all written was new (Live id u.v) ne ∙ stood.1.live
          ∙ (ap (λ (ms : List Mark). Some (live_file id u.v (live_bits ms))) (same_marks_is u.live.marks g.live.marks is) ∙ sym h)
    ]

values_same : (s : ℕ) (all : List Lived) (written : List (Option Written)) (was new : Files) (w : Option Written) (g : Lived)
    → IsWritten was s w g → HasSegment new s (entry_of s w g) g
    → over s all written was new (Values g.segment.id (version s w g)) ≡ new (Values g.segment.id (version s w g))
values_same s all written was new None g stood has = over_new s all written was new (Values g.segment.id s) (λ ne. ne refl)
values_same s all written was new (Some u) g stood has = by (same_marks u.live.marks g.live.marks) refl has.values
  where
    id : ℕ
    id = g.segment.id

    rows : ℕ
    rows = length g.segment.rows

    by : (b : Bool) → same_marks u.live.marks g.live.marks ≡ b
        → new (Values id (cond b u.v s)) ≡ Some (values_file id (cond b u.v s) rows (values_of g.live.marks))
        → over s all written was new (Values id (cond b u.v s)) ≡ new (Values id (cond b u.v s))
    by false is h = over_new s all written was new (Values id s) (λ ne. ne refl)
    by true is h = elim (same_or u.v s) [
      | inl e ↦ over_new s all written was new (Values id u.v) (λ ne. ne e)
      | inr ne ↦ over_was s all written was new (Values id u.v) ne ∙ stood.1.values
          ∙ (ap (λ (ms : List Mark). Some (values_file id u.v rows (values_of ms))) (same_marks_is u.live.marks g.live.marks is) ∙ sym h)
    ]

names_same : (s : ℕ) (all : List Lived) (written : List (Option Written)) (was new : Files) (w : Option Written) (g : Lived)
    → IdApart all written w g → OneStays was new w g → IsWritten was s w g → HasSegment new s (entry_of s w g) g
    → (name : FileName) → IsAmong (names_of (entry_of s w g)) name → over s all written was new name ≡ new name
names_same s all written was new w g apart stays stood has name (inl e) =
    subst (λ (n : FileName). over s all written was new n ≡ new n) (sym e) (rows_same s all written was new w g apart stays)
names_same s all written was new w g apart stays stood has name (inr (inl e)) =
    subst (λ (n : FileName). over s all written was new n ≡ new n) (sym e) (posts_same s all written was new w g apart stood has)
names_same s all written was new w g apart stays stood has name (inr (inr (inl e))) =
    subst (λ (n : FileName). over s all written was new n ≡ new n) (sym e) (live_same s all written was new w g stood has)
names_same s all written was new w g apart stays stood has name (inr (inr (inr (inl e)))) =
    subst (λ (n : FileName). over s all written was new n ≡ new n) (sym e) (values_same s all written was new w g stood has)
names_same s all written was new w g apart stays stood has name (inr (inr (inr (inr never)))) = absurd never

-- a segment whose files have the same bytes
pub segment_same : (files now : Files) (n : ℕ) (e : HeadSegment) (g : Lived)
    → ((name : FileName) → IsAmong (names_of e) name → now name ≡ files name) → HasSegment files n e g → HasSegment now n e g
segment_same files now n e g same has = record {
  id = has.id;
  count = has.count;
  whole = has.whole;
  applied = has.applied;
  rows = rows_kept files now e.id g.segment.rows (same (Rows e.id) (inl refl)) has.rows;
  posts = same (Posts e.id) (inr (inl refl)) ∙ has.posts;
  live = same (Live e.id e.written) (inr (inr (inl refl))) ∙ has.live;
  values = same (Values e.id e.written) (inr (inr (inr (inl refl)))) ∙ has.values;
  rows_fit = has.rows_fit;
  posts_fit = has.posts_fit;
  live_fit = has.live_fit;
  values_fit = has.values_fit;
}

segments_over : (s : ℕ) (all : List Lived) (written : List (Option Written)) (was new : Files) (gs : List Lived) (ws : List (Option Written))
    → IdsApart all written gs ws → RowsStay was new gs ws → AreWritten was s gs ws → HaveSegments new s (entries_of s gs ws) (listed gs)
    → HaveSegments (over s all written was new) s (entries_of s gs ws) (listed gs)
segments_over s all written was new [] ws apart rows stood have = have
segments_over s all written was new (g ∷ gs) [] apart rows stood have = have
segments_over s all written was new (g ∷ gs) (w ∷ ws) apart rows stood have =
    by (is_alive g) refl have (segments_over s all written was new gs ws apart.1 rows.1 stood.1)
  where
    es : List HeadSegment
    es = entries_of s gs ws

    by : (b : Bool) → is_alive g ≡ b → HaveSegments new s (cond b (entry_of s w g ∷ []) [] ++ es) (cond b (g ∷ listed gs) (listed gs))
        → (HaveSegments new s es (listed gs) → HaveSegments (over s all written was new) s es (listed gs))
        → HaveSegments (over s all written was new) s (cond b (entry_of s w g ∷ []) [] ++ es) (cond b (g ∷ listed gs) (listed gs))
    by true is h rest = (
      segment_same new (over s all written was new) s (entry_of s w g) g
          (names_same s all written was new w g apart.0 (rows.0 is) (stood.0 is) h.0) h.0,
      rest h.1,
    )
    by false is h rest = rest h

-- ---- the commit is made on all of them

has_segments_over : (s next : ℕ) (gs : List Lived) (ws : List (Option Written)) (was new : Files) → SegmentIdsRise 1 next gs
    → RowsStay was new gs ws → AreWritten was s gs ws → HasSegments new s next (entries_of s gs ws) (listed gs)
    → HasSegments (over s gs ws was new) s next (entries_of s gs ws) (listed gs)
has_segments_over s next gs ws was new rise rows stood has = record {
  tail = has.tail;
  head = record {
    file = over_new s gs ws was new (Commit s) (λ ne. ne refl) ∙ has.head.file;
    number = has.head.number;
    fits = has.head.fits;
  };
  each = segments_over s gs ws was new gs ws (ids_apart gs ws gs ws 1 next rise (λ id le old. old) (λ id le old. old)) rows stood has.each;
  apart = has.apart;
}

pub commits_over : (s next : ℕ) (pairs : Pairs) (gs : List Lived) (ws : List (Option Written)) (was mid new : Files)
    → SegmentIdsRise 1 next gs → RowsStay was new gs ws → AreWritten mid s gs ws → Commits s next pairs gs ws mid new
    → Commits s next pairs gs ws was (over s gs ws was new)
commits_over s next pairs gs ws was mid new rise rows stood made = record {
  spelled = λ before. has_segments_over s next gs ws was new rise rows before (made.spelled stood);
  has_pairs = (
    made.has_pairs.0,
    record {
      file = here (Commit s) (λ ne. ne refl) ∙ made.has_pairs.1.file;
      number = made.has_pairs.1.number;
      fits = made.has_pairs.1.fits;
    },
    made.has_pairs.2,
  );
  commit = here (Commit s) (λ ne. ne refl) ∙ made.commit;
  files = there_over s gs ws was new (commit_files s gs ws) (files_new s gs ws) made.files;
  pending = here (Pending s) (λ ne. ne refl) ∙ made.pending;
  elsewhere = over_was s gs ws was new;
}
  where
    here : (name : FileName) → MayWrite s gs ws name → over s gs ws was new name ≡ new name
    here name may = over_new s gs ws was new name may

-- ---- and what is left of them is left

-- an entry of a commit was written with that commit or an earlier one
written_by : (files : Files) (s : ℕ) (e : HeadSegment) → Lists files s e → e.written ≤ s
written_by files s e lists =
    let each =
    All-from_recursion (EntryFits lists.head.number) lists.head.segments lists.has_head.fits.entries in
    let fits = All-contains (EntryFits lists.head.number) lists.head.segments e each lists.listed in
    omega (arith, fits.not_later, lists.has_head.number)

some_below : (s t : ℕ) (gs : List Lived) (ws : List (Option Written)) (was : Files) → ComesAfter was s gs ws → IsSome (was (Commit t)) → t < s
some_below s t gs ws was after there = by (cases_lt t s)
  where
    by : (t < s) ⊎ (s ≤ t) → t < s
    by (inl l) = l
    by (inr g) = let gone : was (Commit t) ≡ None = after.none_from t g in absurd cc

-- the files of an earlier commit aren't among those that the commit may write
file_elsewhere : (s t : ℕ) (gs : List Lived) (ws : List (Option Written)) (was new : Files) (name : FileName) → ComesAfter was s gs ws
    → t < s → IsFileOf (over s gs ws was new) t name → IsFileOf was t name × IsElsewhere s (IsOldId gs ws) name
file_elsewhere s t gs ws was new name after lt (inl e) = (
  inl e,
  subst (IsElsewhere s (IsOldId gs ws)) (sym e) (λ is. absurd (omega (arith, is, lt))),
)
file_elsewhere s t gs ws was new name after lt (inr h) = (inr (h.0, lists, h.2), by name h.2)
  where
    e : HeadSegment
    e = h.0

    lists : Lists was t e
    lists = record {
      head = h.1.head;
      has_head = record {
        file = sym (over_was s gs ws was new (Commit t) (λ is. absurd (omega (arith, is, lt)))) ∙ h.1.has_head.file;
        number = h.1.has_head.number;
        fits = h.1.has_head.fits;
      };
      listed = h.1.listed;
    }

    old : IsOldId gs ws e.id
    old = after.new_ids t e lists

    early : e.written ≢ s
    early is = absurd (omega (arith, is, lt, written_by was t e lists))

    by : (n : FileName) → IsAmong (names_of e) n → IsElsewhere s (IsOldId gs ws) n
    by n (inl is) = subst (IsElsewhere s (IsOldId gs ws)) (sym is) old
    by n (inr (inl is)) = subst (IsElsewhere s (IsOldId gs ws)) (sym is) old
    by n (inr (inr (inl is))) = subst (IsElsewhere s (IsOldId gs ws)) (sym is) early
    by n (inr (inr (inr (inl is)))) = subst (IsElsewhere s (IsOldId gs ws)) (sym is) early
    by n (inr (inr (inr (inr never)))) = absurd never

-- What is left of the files is left of them still, once the commit has written what it may, if it is whole or not there.
pub left_over : (keep s : ℕ) (gs : List Lived) (ws : List (Option Written)) (was mid new : Files) → ComesAfter was s gs ws
    → SameElsewhere s (IsOldId gs ws) mid new → MayBePruned keep was mid
    → (new (Commit s) ≡ None) ⊎ IsWholeAs s (over s gs ws was new) new
    → MayBePruned keep (over s gs ws was new) new
left_over keep s gs ws was mid new after same left own = record {
  stays = λ t stays. elim (same_or t s) [
    | inl e ↦ subst (λ (n : ℕ). IsWholeAs n all new) (sym e) (own_whole own (subst (λ (n : ℕ). IsSome (all (Commit n))) e stays.there))
    | inr ne ↦ older t ne (there_before t ne stays.there)
        (left.stays t (record {
          there = there_before t ne stays.there;
          not_given_up = λ given. stays.not_given_up (still_given t given);
        }))
  ];
  each = λ t there. elim (same_or t s) [
    | inl e ↦ elim own [
      | inl none ↦ inl (subst (λ (n : ℕ). new (Commit n) ≡ None) (sym e) none)
      | inr whole ↦ inr (subst (λ (n : ℕ). IsWholeAs n all new) (sym e) whole)
    ]
    | inr ne ↦ elim (left.each t (there_before t ne there)) [
      | inl none ↦ inl (same (Commit t) ne ∙ none)
      | inr whole ↦ inr (older t ne (there_before t ne there) whole)
    ]
  ];
  only = λ t there. elim (same_or t s) [
    | inl e ↦ subst (λ (o : Option (List ℕ)). IsSome o) (sym (here t e)) there
    | inr ne ↦ subst (λ (o : Option (List ℕ)). IsSome o) (sym (over_was s gs ws was new (Commit t) ne))
        (left.only t (subst (λ (o : Option (List ℕ)). IsSome o) (same (Commit t) ne) there))
  ];
}
  where
    all : Files
    all = over s gs ws was new

    here : (t : ℕ) → t ≡ s → all (Commit t) ≡ new (Commit t)
    here t e = over_new s gs ws was new (Commit t) (λ ne. ne e)

    there_before : (t : ℕ) → t ≢ s → IsSome (all (Commit t)) → IsSome (was (Commit t))
    there_before t ne there = subst (λ (o : Option (List ℕ)). IsSome o) (over_was s gs ws was new (Commit t) ne) there

    own_whole : (new (Commit s) ≡ None) ⊎ IsWholeAs s all new → IsSome (all (Commit s)) → IsWholeAs s all new
    own_whole (inl none) there = let gone : all (Commit s) ≡ None = here s refl ∙ none in absurd cc
    own_whole (inr whole) there = whole

    older : (t : ℕ) → t ≢ s → IsSome (was (Commit t)) → IsWholeAs t was mid → IsWholeAs t all new
    older t ne there whole name of =
        let both = file_elsewhere s t gs ws was new name after (some_below s t gs ws was after there) of in
        same name both.1 ∙ whole name both.0 ∙ sym (over_was s gs ws was new name both.1)

    still_there : (later : List ℕ) → AllByRecursion (λ (t : ℕ). IsSome (was (Commit t))) later
        → AllByRecursion (λ (t : ℕ). IsSome (all (Commit t))) later
    still_there [] there = tt
    still_there (t ∷ ts) there = (one (same_or t s), still_there ts there.1)
      where
        one : (t ≡ s) ⊎ (t ≢ s) → IsSome (all (Commit t))
        one (inl e) = let lt : t < s = some_below s t gs ws was after there.0 in absurd (omega (arith, e, lt))
        one (inr ne) = subst (λ (o : Option (List ℕ)). IsSome o) (sym (over_was s gs ws was new (Commit t) ne)) there.0

    still_given : (t : ℕ) → IsGivenUp keep was t → IsGivenUp keep all t
    still_given t given = record { later = given.later; count = given.count; rise = given.rise; there = still_there given.later given.there }

-- ---- the commit itself is whole

-- the files of the entry have the bytes that they have in the new files
abbrev AreSame : Files → Files → HeadSegment → Type 0
AreSame now files e = (name : FileName) → IsAmong (names_of e) name → now name ≡ files name

entries_same : (s : ℕ) (all : List Lived) (written : List (Option Written)) (was new : Files) (gs : List Lived) (ws : List (Option Written))
    → IdsApart all written gs ws → RowsStay was new gs ws → AreWritten was s gs ws → HaveSegments new s (entries_of s gs ws) (listed gs)
    → AllByRecursion (AreSame (over s all written was new) new) (entries_of s gs ws)
entries_same s all written was new [] ws apart rows stood have = tt
entries_same s all written was new (g ∷ gs) [] apart rows stood have = tt
entries_same s all written was new (g ∷ gs) (w ∷ ws) apart rows stood have =
    by (is_alive g) refl have (entries_same s all written was new gs ws apart.1 rows.1 stood.1)
  where
    es : List HeadSegment
    es = entries_of s gs ws

    Same : HeadSegment → Type 0
    Same = AreSame (over s all written was new) new

    by : (b : Bool) → is_alive g ≡ b → HaveSegments new s (cond b (entry_of s w g ∷ []) [] ++ es) (cond b (g ∷ listed gs) (listed gs))
        → (HaveSegments new s es (listed gs) → AllByRecursion Same es)
        → AllByRecursion Same (cond b (entry_of s w g ∷ []) [] ++ es)
    by true is h rest = (names_same s all written was new w g apart.0 (rows.0 is) (stood.0 is) h.0, rest h.1)
    by false is h rest = rest h

own_whole : (s next : ℕ) (pairs : Pairs) (gs : List Lived) (ws : List (Option Written)) (was mid new : Files) → SegmentIdsRise 1 next gs
    → RowsStay was new gs ws → AreWritten was s gs ws → AreWritten mid s gs ws → Commits s next pairs gs ws mid new
    → IsWholeAs s (over s gs ws was new) new
own_whole s next pairs gs ws was mid new rise rows stood left made name (inl e) =
    subst (λ (n : FileName). new n ≡ over s gs ws was new n) (sym e) (sym (over_new s gs ws was new (Commit s) (λ ne. ne refl)))
own_whole s next pairs gs ws was mid new rise rows stood left made name (inr h) = sym (same name h.2)
  where
    has : HasSegments new s next (entries_of s gs ws) (listed gs)
    has = made.spelled left

    all : HasSegments (over s gs ws was new) s next (entries_of s gs ws) (listed gs)
    all = has_segments_over s next gs ws was new rise rows stood has

    head_is : h.1.head ≡ head_of s next all.tail (entries_of s gs ws) (listed gs)
    head_is = one_head (over s gs ws was new) s h.1.head (head_of s next all.tail (entries_of s gs ws) (listed gs)) h.1.has_head all.head

    same : (n : FileName) → IsAmong (names_of h.0) n → over s gs ws was new n ≡ new n
    same =
        All-contains (AreSame (over s gs ws was new) new) (entries_of s gs ws) h.0
        (All-from_recursion (AreSame (over s gs ws was new) new) (entries_of s gs ws)
        (entries_same s gs ws was new gs ws (ids_apart gs ws gs ws 1 next rise (λ id le old. old) (λ id le old. old)) rows stood has.each))
        (subst (λ (k : Head). Contains k.segments h.0) head_is h.1.listed)

-- ---- what a commit, or a crash while it is made, leaves of files of which some commits were given up

-- the rows that stayed before the commit stay through it
rows_through : (s : ℕ) (all : List Lived) (written : List (Option Written)) (was mid new : Files) (gs : List Lived)
    (ws : List (Option Written)) → SameElsewhere s (IsOldId all written) mid new → IdsApart all written gs ws → RowsStay was mid gs ws
    → RowsStay was new gs ws
rows_through s all written was mid new [] ws same apart rows = tt
rows_through s all written was mid new (g ∷ gs) [] same apart rows = tt
rows_through s all written was mid new (g ∷ gs) (None ∷ ws) same apart rows =
    ((λ alive. tt), rows_through s all written was mid new gs ws same apart.1 rows.1)
rows_through s all written was mid new (g ∷ gs) (Some u ∷ ws) same apart rows = (
  (λ alive. same (Rows g.segment.id) apart.0 ∙ rows.0 alive),
  rows_through s all written was mid new gs ws same apart.1 rows.1,
)

-- The writer's segments and what is known of them: their ids rise, the commit comes after all others, and what is on the
-- store of them stands in the files, and in what is left of these, where their rows have the same bytes.
pub record CanFollowLeft (keep s next : ℕ) (gs : List Lived) (ws : List (Option Written)) (was mid : Files) : Type 0 where
  pub rise : SegmentIdsRise 1 next gs
  pub after : ComesAfter was s gs ws
  pub stood : AreWritten was s gs ws
  pub stands : AreWritten mid s gs ws
  pub rows : RowsStay was mid gs ws
  pub left : MayBePruned keep was mid

rows_kept_new : (keep s next : ℕ) (pairs : Pairs) (gs : List Lived) (ws : List (Option Written)) (was mid new : Files)
    → CanFollowLeft keep s next gs ws was mid → Commits s next pairs gs ws mid new → RowsStay was new gs ws
rows_kept_new keep s next pairs gs ws was mid new can made =
    rows_through s gs ws was mid new gs ws made.elsewhere (ids_apart gs ws gs ws 1 next can.rise (λ id le old. old) (λ id le old. old))
    can.rows

pub left_commits : (keep s next : ℕ) (pairs : Pairs) (gs : List Lived) (ws : List (Option Written)) (was mid new : Files)
    → CanFollowLeft keep s next gs ws was mid → Commits s next pairs gs ws mid new
    → Commits s next pairs gs ws was (over s gs ws was new) × MayBePruned keep (over s gs ws was new) new
left_commits keep s next pairs gs ws was mid new can made = (
  commits_over s next pairs gs ws was mid new can.rise (rows_kept_new keep s next pairs gs ws was mid new can made) can.stands made,
  left_over keep s gs ws was mid new can.after made.elsewhere can.left
      (inr (own_whole s next pairs gs ws was mid new can.rise (rows_kept_new keep s next pairs gs ws was mid new can made) can.stood can.stands made)),
)

-- no commit file of the number is in the files, nor in what is left of them
none_left : (keep s : ℕ) (gs : List Lived) (ws : List (Option Written)) (was mid : Files) → ComesAfter was s gs ws
    → MayBePruned keep was mid → mid (Commit s) ≡ None
none_left keep s gs ws was mid after left = by (mid (Commit s)) refl
  where
    by : (o : Option (List ℕ)) → mid (Commit s) ≡ o → o ≡ None
    by None is = refl
    by (Some bytes) is =
        let there : IsSome (was (Commit s)) = left.only s (subst (λ (x : Option (List ℕ)). IsSome x) (sym is) refl) in
        let gone : was (Commit s) ≡ None = after.none_from s (omega arith) in
        absurd cc

pub left_crash : (keep s next : ℕ) (pairs : Pairs) (gs : List Lived) (ws : List (Option Written)) (was mid new : Files)
    → CanFollowLeft keep s next gs ws was mid → MayCommit s next pairs gs ws mid new
    → MayCommit s next pairs gs ws was (over s gs ws was new) × MayBePruned keep (over s gs ws was new) new
left_crash keep s next pairs gs ws was mid new can may = elim (may.whole) [
  | inl still ↦
      let none : new (Commit s) ≡ None = still ∙ none_left keep s gs ws was mid can.after can.left in (
        record {
          elsewhere = over_was s gs ws was new;
          whole = inl (over_new s gs ws was new (Commit s) (λ ne. ne refl) ∙ none ∙ sym (can.after.none_from s (omega arith)));
        },
        left_over keep s gs ws was mid new can.after may.elsewhere can.left (inl none),
      )
  | inr made ↦
      let both = left_commits keep s next pairs gs ws was mid new can made in (
        record { elsewhere = over_was s gs ws was new; whole = inr both.0 },
        both.1,
      )
]

-- of each segment with a live row the files that the commit lists have the same bytes
abbrev pub AliveSame : ℕ → Files → Files → List Lived → List (Option Written) → Type 0
AliveSame s now files [] ws = Unit {0}
AliveSame s now files (g ∷ gs) [] = Unit {0}
AliveSame s now files (g ∷ gs) (w ∷ ws) =
    (is_alive g ≡ true → (name : FileName) → IsAmong (names_of (entry_of s w g)) name → now name ≡ files name)
    × AliveSame s now files gs ws

alive_same : (s : ℕ) (all : List Lived) (written : List (Option Written)) (was new : Files) (gs : List Lived) (ws : List (Option Written))
    → IdsApart all written gs ws → RowsStay was new gs ws → AreWritten was s gs ws → HaveSegments new s (entries_of s gs ws) (listed gs)
    → AliveSame s (over s all written was new) new gs ws
alive_same s all written was new [] ws apart rows stood have = tt
alive_same s all written was new (g ∷ gs) [] apart rows stood have = tt
alive_same s all written was new (g ∷ gs) (w ∷ ws) apart rows stood have =
    by (is_alive g) refl have (alive_same s all written was new gs ws apart.1 rows.1 stood.1)
  where
    es : List HeadSegment
    es = entries_of s gs ws

    Own : Type 0
    Own = is_alive g ≡ true → AreSame (over s all written was new) new (entry_of s w g)

    by : (b : Bool) → is_alive g ≡ b → HaveSegments new s (cond b (entry_of s w g ∷ []) [] ++ es) (cond b (g ∷ listed gs) (listed gs))
        → (HaveSegments new s es (listed gs) → AliveSame s (over s all written was new) new gs ws)
        → Own × AliveSame s (over s all written was new) new gs ws
    by true is h rest = ((λ alive. names_same s all written was new w g apart.0 (rows.0 is) (stood.0 is) h.0), rest h.1)
    by false is h rest = ((λ alive. let never : true ≡ false = sym alive ∙ is in absurd cc), rest h)

pub alive_over : (keep s next : ℕ) (pairs : Pairs) (gs : List Lived) (ws : List (Option Written)) (was mid new : Files)
    → CanFollowLeft keep s next gs ws was mid → Commits s next pairs gs ws mid new
    → AliveSame s (over s gs ws was new) new gs ws
alive_over keep s next pairs gs ws was mid new can made =
    alive_same s gs ws was new gs ws (ids_apart gs ws gs ws 1 next can.rise (λ id le old. old) (λ id le old. old))
    (rows_kept_new keep s next pairs gs ws was mid new can made) can.stood
    (made.spelled can.stands).each

-- ---- the last commit stays

none_later : (keep last : ℕ) (f : Files) (later : List ℕ) → 1 ≤ keep → ((t : ℕ) → last < t → f (Commit t) ≡ None) → length later ≡ keep
    → AllPairs ◌<◌ (last ∷ later) → AllByRecursion (λ (t : ℕ). IsSome (f (Commit t))) later → ⊥
none_later keep last f [] some none count rise there = absurd (omega (arith, some, count))
none_later keep last f (t ∷ later) some none count rise there =
    let above : last < t = rise 0 1 0 (omega arith) (omega arith) in
    let gone : f (Commit t) ≡ None = none t above in
    let here : IsSome (f (Commit t)) = there.0 in
    cc

-- a commit above which there is none stays
pub latest_stays : (keep last : ℕ) (f : Files) → 1 ≤ keep → IsSome (f (Commit last)) → ((t : ℕ) → last < t → f (Commit t) ≡ None)
    → Stays keep f last
latest_stays keep last f some there none = record {
  there = there;
  not_given_up = λ given. none_later keep last f given.later some none given.count given.rise given.there;
}

-- ---- commits that were given up one time after another

none_or : (o : Option (List ℕ)) → (o ≡ None) ⊎ IsSome o
none_or None = inl refl
none_or (Some x) = inr refl

not_both : (o : Option (List ℕ)) → o ≡ None → IsSome o → ⊥
not_both None is some = let never : false ≡ true = some in absurd cc
not_both (Some x) is some = absurd cc

-- files of a commit that is whole are its files there
file_whole : (a b : Files) (s : ℕ) (name : FileName) → IsWholeAs s a b → IsFileOf a s name → IsFileOf b s name
file_whole a b s name whole (inl is) = inl is
file_whole a b s name whole (inr h) = inr (
  h.0,
  record {
    head = h.1.head;
    has_head = record {
      file = whole (Commit s) (inl refl) ∙ h.1.has_head.file;
      number = h.1.has_head.number;
      fits = h.1.has_head.fits;
    };
    listed = h.1.listed;
  },
  h.2,
)

pub whole_then : (a b c : Files) (s : ℕ) → IsWholeAs s a b → IsWholeAs s b c → IsWholeAs s a c
whole_then a b c s first second name of = second name (file_whole a b s name first of) ∙ first name of

all_there : (a b : Files) (later : List ℕ) → ((t : ℕ) → IsSome (b (Commit t)) → IsSome (a (Commit t)))
    → AllByRecursion (λ (t : ℕ). IsSome (b (Commit t))) later → AllByRecursion (λ (t : ℕ). IsSome (a (Commit t))) later
all_there a b [] only there = tt
all_there a b (t ∷ ts) only there = (only t there.0, all_there a b ts only there.1)

pub given_before : (keep : ℕ) (a b : Files) (s : ℕ) → ((t : ℕ) → IsSome (b (Commit t)) → IsSome (a (Commit t))) → IsGivenUp keep b s → IsGivenUp keep a s
given_before keep a b s only given = record {
  later = given.later;
  count = given.count;
  rise = given.rise;
  there = all_there a b given.later only given.there;
}

-- what stays of the first files stays of what is left of them
stays_then : (keep : ℕ) (a b : Files) (s : ℕ) → MayBePruned keep a b → Stays keep a s → Stays keep b s
stays_then keep a b s first stays = record {
  there = subst (λ (o : Option (List ℕ)). IsSome o) (sym (first.stays s stays (Commit s) (inl refl))) stays.there;
  not_given_up = λ given. stays.not_given_up (given_before keep a b s first.only given);
}

pub left_then : (keep : ℕ) (a b c : Files) → MayBePruned keep a b → MayBePruned keep b c → MayBePruned keep a c
left_then keep a b c first second = record {
  stays = λ s stays. whole_then a b c s (first.stays s stays) (second.stays s (stays_then keep a b s first stays));
  each = λ s there. elim (first.each s there) [
    | inl none ↦ elim (none_or (c (Commit s))) [
      | inl gone ↦ inl gone
      | inr here ↦ absurd (not_both (b (Commit s)) none (second.only s here))
    ]
    | inr whole ↦ elim (second.each s (subst (λ (o : Option (List ℕ)). IsSome o) (sym (whole (Commit s) (inl refl))) there)) [
      | inl gone ↦ inl gone
      | inr next ↦ inr (whole_then a b c s whole next)
    ]
  ];
  only = λ s there. first.only s (second.only s there);
}

pub left_none : (keep : ℕ) (f : Files) → MayBePruned keep f f
left_none keep f = record {
  stays = λ s stays name of. refl;
  each = λ s there. inr (λ name of. refl);
  only = λ s there. there;
}
