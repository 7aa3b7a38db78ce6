-- What the files spell after a commit was published.
use Rattle.std.proofs.Common.{◌≡◌, ◌∙◌, ℕ, ◌+◌, ◌<◌, ◌≤◌, ◌^◌, List, [], ◌∷◌, ◌++◌, Bool, true, false, cond, Option, Some, None, length, map, refl, ap, subst, inl, inr, arith}
use Rattle.std.specs.Prelude.{◌⊎◌}
use Rattle.std.specs.List.{AllByRecursion}
use Rattle.ix_base.specs.declared.file_name.FileName.{FileName}
use Rattle.ix_base.specs.declared.file_name.FileName.TheVariants.{Commit, Pending, Rows, Posts, Live, Values}
use Rattle.ix_outside.specs.Files.{Files}
use Rattle.live_docs.specs.MarkLaws.{same_marks_is}
use Rattle.live_docs.specs.Marks.{same_marks}
use Rattle.live_docs.specs.declared.live_docs.Mark.{Mark}
use Rattle.segment_core.specs.LiveRows.{Lived, IsWhole}
use Rattle.live_files.specs.LiveFits.{LiveFits, ValuesFit}
use Rattle.live_files.specs.LiveSpelling.{live_bits, values_of, live_file, values_file}
use Rattle.segment_files.specs.Fits.{PairsFit}
use Rattle.segment_files.specs.Spelling.{rows_file}
use Rattle.commit_point.specs.declared.heads.CommitFormat.TheVariants.{Second}
use Rattle.commit_point.specs.declared.heads.HeadSegment.{HeadSegment}
use Rattle.commit_point.specs.declared.written.Written.{Written}
use Rattle.segment_core.specs.Births.{lists_at, SegmentsApart}
use Rattle.commit_point.specs.Encoding.{own_files, AreWhole, IsEncoded, AreEncoded, HaveSpelling}
use Rattle.commit_point.specs.Fits.{IdsRise, EntryFits}
use Rattle.commit_point.specs.Holds.{Pairs, HasHead, HasSegment, HasSegments, HaveSegments}
use Rattle.commit_point.specs.Publishing.{File, IsNoneOf, AreThere, SameBesides, IsWhole as IsAllThere, Publishes, MayPublish}
use Rattle.commit_point.specs.Spelling.{commit_file}
use Rattle.commit_point.specs.Writing.{CanWrite, CanCommit, SegmentIdsRise, WrittenUpTo, IsWritten, AreWritten, Commits, MayCommit, is_alive, listed, files_of, commit_files, entry_of, entries_of, new_head}
use Rattle.commit_point.proofs.RowsKept.{rows_kept}
use Rattle.commit_point.proofs.Names.{own, there_append, none_own, none_both, none_before, elsewhere_of}

-- segments that can be written as a commit, and have a spelling
pub record AreNew (s next : ℕ) (pairs : Pairs) (gs : List Lived) (ws : List (Option Written)) : Type 0 where
  pub number : 1 ≤ s
  pub fits : s < 2 ^ 64
  pub some_id : 1 ≤ next
  pub room : next ≤ 2 ^ 62
  pub can : CanCommit s next gs ws
  pub spelling : HaveSpelling gs ws
  pub fit : PairsFit pairs

-- ---- the commit file

ids_from : (low next limit : ℕ) (es : List HeadSegment) → low ≤ next → IdsRise next limit es → IdsRise low limit es
ids_from low next limit [] le rise = tt
ids_from low next limit (e ∷ es) le rise = (omega (arith, le, rise.0), rise.1, rise.2)

ids_rise : (s low limit : ℕ) (gs : List Lived) (ws : List (Option Written)) → SegmentIdsRise low limit gs → IdsRise low limit (entries_of s gs ws)
ids_rise s low limit [] ws rise = tt
ids_rise s low limit (g ∷ gs) [] rise = tt
ids_rise s low limit (g ∷ gs) (w ∷ ws) rise = by (is_alive g) (ids_rise s (g.segment.id + 1) limit gs ws rise.2)
  where
    by : (b : Bool) → IdsRise (g.segment.id + 1) limit (entries_of s gs ws) → IdsRise low limit (cond b (entry_of s w g ∷ []) [] ++ entries_of s gs ws)
    by true rest = (rise.0, rise.1, rest)
    by false rest = ids_from low (g.segment.id + 1) limit (entries_of s gs ws) (omega (arith, rise.0)) rest

entry_fits : (s : ℕ) (w : Option Written) (g : Lived) → 1 ≤ s → CanWrite s g → IsWhole g.segment g.live → WrittenUpTo s w → EntryFits s (entry_of s w g)
entry_fits s None g some can whole was = record { rows = can.some; count = whole.few; some = some; not_later = omega arith }
entry_fits s (Some w) g some can whole was = by (same_marks w.live.marks g.live.marks)
  where
    by : (b : Bool) → EntryFits s (record { id = g.segment.id; rows = length g.segment.rows; written = cond b w.v s })
    by true = record { rows = can.some; count = whole.few; some = was.0; not_later = was.1 }
    by false = record { rows = can.some; count = whole.few; some = some; not_later = omega arith }

entries_fit : (s : ℕ) (gs : List Lived) (ws : List (Option Written)) → 1 ≤ s → AllByRecursion (CanWrite s) gs → AreWhole gs → AllByRecursion (WrittenUpTo s) ws
    → AllByRecursion (EntryFits s) (entries_of s gs ws)
entries_fit s [] ws some can whole was = tt
entries_fit s (g ∷ gs) [] some can whole was = tt
entries_fit s (g ∷ gs) (w ∷ ws) some can whole was = by (is_alive g) (entries_fit s gs ws some can.1 whole.1 was.1)
  where
    by : (b : Bool) → AllByRecursion (EntryFits s) (entries_of s gs ws) → AllByRecursion (EntryFits s) (cond b (entry_of s w g ∷ []) [] ++ entries_of s gs ws)
    by true rest = (entry_fits s w g some can.0 whole.0 was.0, rest)
    by false rest = rest

-- there are no more entries than segments
entries_few : (s : ℕ) (gs : List Lived) (ws : List (Option Written)) → length (entries_of s gs ws) ≤ length gs
entries_few s [] ws = omega arith
entries_few s (g ∷ gs) [] = omega arith
entries_few s (g ∷ gs) (w ∷ ws) = by (is_alive g) (entries_few s gs ws)
  where
    by : (b : Bool) → length (entries_of s gs ws) ≤ length gs → length (cond b (entry_of s w g ∷ []) [] ++ entries_of s gs ws) ≤ length (g ∷ gs)
    by true rest = omega arith
    by false rest = omega arith

pub head_made : (s next : ℕ) (pairs : Pairs) (gs : List Lived) (ws : List (Option Written)) (now : Files) → AreNew s next pairs gs ws → now (Commit s) ≡ Some (commit_file (new_head s next pairs gs ws))
    → HasHead now s (new_head s next pairs gs ws)
head_made s next pairs gs ws now new commit = record {
  file = commit;
  number = refl;
  fits = record {
    some = new.number;
    number = new.fits;
    docs = omega arith;
    next_some = new.some_id;
    next = new.room;
    count = let few = entries_few s gs ws in omega (arith, few, new.spelling.count);
    ids = ids_rise s 1 next gs ws new.can.ids;
    entries = entries_fit s gs ws new.number new.can.can new.spelling.whole new.can.written;
    pairs = new.fit;
    first = λ is. absurd cc;
  };
}

-- ---- numbers

-- an operation has rows in no more of the segments that are listed
lists_fewer : (n : ℕ) (gs : List Lived) → lists_at n (map (λ (g : Lived). g.segment.rows) (listed gs)) ≤ lists_at n (map (λ (g : Lived). g.segment.rows) gs)
lists_fewer n [] = omega arith
lists_fewer n (g ∷ gs) = by (is_alive g) (lists_fewer n gs)
  where
    by : (alive : Bool) → lists_at n (map (λ (h : Lived). h.segment.rows) (listed gs)) ≤ lists_at n (map (λ (h : Lived). h.segment.rows) gs)
        → lists_at n (map (λ (h : Lived). h.segment.rows) (cond alive (g ∷ listed gs) (listed gs))) ≤ lists_at n (map (λ (h : Lived). h.segment.rows) (g ∷ gs))
    by true rest = omega (arith, rest)
    by false rest = omega (arith, rest)

listed_apart : (gs : List Lived) → SegmentsApart gs → SegmentsApart (listed gs)
listed_apart gs apart n = omega (arith, lists_fewer n gs, apart n)

-- ---- a segment

-- its files but those that are written are as before
abbrev IsKept : ℕ → Option Written → Lived → Files → Files → Type 0
IsKept s w g old new = (name : FileName) → own name ≡ g.segment.id → IsNoneOf (files_of s w g) name → new name ≡ old name

-- what is written of live docs where they differ
abbrev live_pair : ℕ → Lived → List File
live_pair s g =
    (Live g.segment.id s, live_file g.segment.id s (live_bits g.live.marks))
    ∷ (Values g.segment.id s, values_file g.segment.id s (length g.segment.rows) (values_of g.live.marks))
    ∷ []

segment_made : (s : ℕ) (w : Option Written) (g : Lived) (old new : Files) → CanWrite s g → IsWhole g.segment g.live → IsEncoded w g → IsWritten old s w g
    → AreThere (files_of s w g) new → IsKept s w g old new → HasSegment new s (entry_of s w g) g
segment_made s None g old new can whole encoded was there kept = record {
  id = refl;
  count = refl;
  whole = whole;
  applied = can.applied;
  rows = record { bytes = rows_file g.segment.id g.segment.rows; file = there.0; spells = inl refl };
  posts = there.1.0;
  live = there.1.1.0;
  values = there.1.1.1.0;
  rows_fit = record { some = can.some; count = whole.few; births = can.births; documents = encoded.documents refl };
  posts_fit = encoded.postings refl;
  live_fit = encoded.live refl;
  values_fit = encoded.values refl;
}
segment_made s (Some w) g old new can whole encoded was there kept = by (same_marks w.live.marks g.live.marks) refl encoded.live encoded.values there kept
  where
    has : HasSegment old w.live.applied (record { id = g.segment.id; rows = length g.segment.rows; written = w.v }) (record { segment = g.segment; live = w.live })
    has = was.1

    by : (b : Bool) → same_marks w.live.marks g.live.marks ≡ b
        → (b ≡ false → LiveFits (length g.segment.rows) (live_bits g.live.marks)) → (b ≡ false → ValuesFit (length g.segment.rows) (values_of g.live.marks))
        → AreThere (cond b [] (live_pair s g)) new
        → ((name : FileName) → own name ≡ g.segment.id → IsNoneOf (cond b [] (live_pair s g)) name → new name ≡ old name)
        → HasSegment new s (record { id = g.segment.id; rows = length g.segment.rows; written = cond b w.v s }) g
    by true e live_fit values_fit there kept =
        let same : w.live.marks ≡ g.live.marks = same_marks_is w.live.marks g.live.marks e in
        record {
          id = refl;
          count = refl;
          whole = whole;
          applied = can.applied;
          rows = rows_kept old new g.segment.id g.segment.rows (kept (Rows g.segment.id) refl tt) has.rows;
          posts = kept (Posts g.segment.id) refl tt ∙ has.posts;
          live = kept (Live g.segment.id w.v) refl tt ∙ has.live ∙ ap (λ (ms : List Mark). Some (live_file g.segment.id w.v (live_bits ms))) same;
          values = kept (Values g.segment.id w.v) refl tt ∙ has.values ∙ ap (λ (ms : List Mark). Some (values_file g.segment.id w.v (length g.segment.rows) (values_of ms))) same;
          rows_fit = record { some = can.some; count = whole.few; births = can.births; documents = has.rows_fit.documents };
          posts_fit = has.posts_fit;
          live_fit = subst (λ (ms : List Mark). LiveFits (length g.segment.rows) (live_bits ms)) same has.live_fit;
          values_fit = subst (λ (ms : List Mark). ValuesFit (length g.segment.rows) (values_of ms)) same has.values_fit;
        }
    by false e live_fit values_fit there kept = record {
      id = refl;
      count = refl;
      whole = whole;
      applied = can.applied;
      rows = rows_kept old new g.segment.id g.segment.rows (kept (Rows g.segment.id) refl ((λ x. cc), ((λ x. cc), tt))) has.rows;
      posts = kept (Posts g.segment.id) refl ((λ x. cc), ((λ x. cc), tt)) ∙ has.posts;
      live = there.0;
      values = there.1.0;
      rows_fit = record { some = can.some; count = whole.few; births = can.births; documents = has.rows_fit.documents };
      posts_fit = has.posts_fit;
      live_fit = live_fit refl;
      values_fit = values_fit refl;
    }

-- ---- all segments

-- the files of these segments but those that are written are as before
abbrev AreKeptFrom : ℕ → ℕ → List Lived → List (Option Written) → Files → Files → Type 0
AreKeptFrom s low gs ws old new = (name : FileName) → low ≤ own name → IsNoneOf (commit_files s gs ws) name → new name ≡ old name

segments_made : (s low limit : ℕ) (gs : List Lived) (ws : List (Option Written)) (old new : Files) → SegmentIdsRise low limit gs → length ws ≡ length gs → AllByRecursion (CanWrite s) gs
    → AreWhole gs → AreEncoded gs ws → AreWritten old s gs ws → AreThere (commit_files s gs ws) new → AreKeptFrom s low gs ws old new
    → HaveSegments new s (entries_of s gs ws) (listed gs)
segments_made s low limit [] ws old new rise count can whole encoded was there kept = tt
segments_made s low limit (g ∷ gs) [] old new rise count can whole encoded was there kept = absurd (omega (arith, count))
segments_made s low limit (g ∷ gs) (w ∷ ws) old new rise count can whole encoded was there kept =
    let parts = there_append (own_files s w g) (commit_files s gs ws) new there in
    by (is_alive g) refl parts.0 kept_here
    (segments_made s (g.segment.id + 1) limit gs ws old new rise.2 (omega (arith, count)) can.1 whole.1 encoded.1 was.1 parts.1 kept_later)
  where
    kept_here : (name : FileName) → own name ≡ g.segment.id → IsNoneOf (own_files s w g) name → new name ≡ old name
    kept_here name is none =
        kept name (omega (arith, is, rise.0)) (none_both s w g gs ws name none (none_before s (g.segment.id + 1) limit gs ws name (omega (arith, is)) rise.2))

    kept_later : AreKeptFrom s (g.segment.id + 1) gs ws old new
    kept_later name from none =
        kept name (omega (arith, from, rise.0)) (none_both s w g gs ws name (none_own s w g name (λ e. absurd (omega (arith, e, from)))) none)

    by : (b : Bool) → is_alive g ≡ b → AreThere (cond b (files_of s w g) []) new
        → ((name : FileName) → own name ≡ g.segment.id → IsNoneOf (cond b (files_of s w g) []) name → new name ≡ old name)
        → HaveSegments new s (entries_of s gs ws) (listed gs)
        → HaveSegments new s (cond b (entry_of s w g ∷ []) [] ++ entries_of s gs ws) (cond b (g ∷ listed gs) (listed gs))
    by true e there kept rest = (segment_made s w g old new can.0 whole.0 (encoded.0 e) (was.0 e) there kept, rest)
    by false e there kept rest = rest

-- files with the commit file of segments and the files that it writes spell the segments, where the others are as before
has_made : (s next : ℕ) (pairs : Pairs) (gs : List Lived) (ws : List (Option Written)) (old now : Files) → AreNew s next pairs gs ws → now (Commit s) ≡ Some (commit_file (new_head s next pairs gs ws))
    → AreThere (commit_files s gs ws) now → SameBesides (commit_files s gs ws) (Pending s) (Commit s) old now → AreWritten old s gs ws
    → HasSegments now s next (entries_of s gs ws) (listed gs)
has_made s next pairs gs ws old now new commit there same was = record {
  tail = (Second, pairs);
  head = head_made s next pairs gs ws now new commit;
  each = segments_made s 1 next gs ws old now new.can.ids new.can.count new.can.can new.spelling.whole new.spelling.encoded was there
      (λ name from none. same name none (λ e. absurd (let zero : own name ≡ 0 = ap own e in omega (arith, zero, from))) (λ e. absurd (let zero : own name ≡ 0 = ap own e in omega (arith, zero, from))));
  apart = listed_apart gs new.can.apart;
}

-- ---- what was published

-- all was published, so the commit was made
pub made_of : (s next : ℕ) (pairs : Pairs) (gs : List Lived) (ws : List (Option Written)) (a c : Files) → AreNew s next pairs gs ws
    → Publishes (commit_files s gs ws) (Pending s) (Commit s) (commit_file (new_head s next pairs gs ws)) a c → Commits s next pairs gs ws a c
made_of s next pairs gs ws a c new all = record {
  spelled = has_made s next pairs gs ws a c new all.whole.last all.whole.there all.elsewhere;
  has_pairs = (new_head s next pairs gs ws, head_made s next pairs gs ws c new all.whole.last, refl);
  commit = all.whole.last;
  files = all.whole.there;
  pending = all.whole.gone;
  elsewhere = elsewhere_of s gs ws a c all.elsewhere;
}

-- all was published, or the commit file is as before
pub may_of : (s next : ℕ) (pairs : Pairs) (gs : List Lived) (ws : List (Option Written)) (a c : Files) → AreNew s next pairs gs ws
    → MayPublish (commit_files s gs ws) (Pending s) (Commit s) (commit_file (new_head s next pairs gs ws)) a c → MayCommit s next pairs gs ws a c
may_of s next pairs gs ws a c new may = record { elsewhere = elsewhere_of s gs ws a c may.elsewhere; whole = cases may.whole }
  where
    cases : (c (Commit s) ≡ a (Commit s)) ⊎ IsAllThere (commit_files s gs ws) (Pending s) (Commit s) (commit_file (new_head s next pairs gs ws)) c → (c (Commit s) ≡ a (Commit s)) ⊎ Commits s next pairs gs ws a c
    cases (inl same) = inl same
    cases (inr whole) = inr (made_of s next pairs gs ws a c new (record { whole = whole; elsewhere = may.elsewhere }))
