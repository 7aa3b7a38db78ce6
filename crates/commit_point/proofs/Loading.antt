-- Where a loop stands that reads the segments of a commit.
use Rattle.std.proofs.Common.{◌≡◌, ℕ, zero, suc, ◌+◌, ◌<◌, ◌≤◌, Bool, false, List, [], ◌∷◌, ◌++◌, length, get_or, take, drop, Option, Some, Err, refl, sym, ap, subst, ◌∙◌, append_assoc, arith}
use Rattle.std.specs.Prelude.{◌||◌}
use Rattle.std.specs.List.{AllByRecursion}
use Rattle.std.proofs.lemmas.List.{take_more, take_all, take-append-drop}
use Rattle.ix_base.specs.declared.file_name.FileName.TheVariants.{Commit}
use Rattle.ix_base.specs.declared.damaged.Damaged.{Damaged}
use Rattle.ix_outside.specs.Files.{Files, Was}
use Rattle.segment_core.specs.Births.{has_number}
use Rattle.segment_core.specs.LiveRows.{Lived, stored_rows}
use Rattle.live_files.specs.LiveSpelling.{live_bits, live_file, values_of, values_file}
use Rattle.segment_files.specs.Spelling.{posts_file}
use Rattle.commit_point.specs.declared.heads.HeadSegment.{HeadSegment}
use Rattle.commit_point.specs.declared.heads.Head.{Head}
use Rattle.commit_point.specs.Fits.{IdsRise, EntryFits, HeadFits}
use Rattle.commit_point.specs.Holds.{HaveSegments}
use Rattle.commit_point.specs.Loading.{Unknown, AreRead, BreakAt}
use Rattle.commit_point.specs.Reading.{segment_from, segments_from}
use Rattle.commit_point.proofs.SegmentLaws.{entry_short}
use Rattle.commit_point.specs.SegmentReads.{SegmentBroken, SegmentRead}
use Rattle.commit_point.proofs.Segments.{SeenSegment, sees_all, BrokenThere, breaks_there, have_push, have_kept, has_push, unknown_push, segments_break, all_congr}

-- the first i segments were read, and these are the numbers of the operations that have rows in them
pub record SoFar (told : Option Files) (head : Head) (before : Files) (i : ℕ) (earlier : ℕ → Bool) (segments : List Lived) : Type 0 where
  pub files : Files
  pub was : Was told files
  pub commit : files (Commit head.number) ≡ before (Commit head.number)
  pub each : HaveSegments files head.number (take i head.segments) segments
  pub unknown : Unknown (λ n. false) segments
  pub known : (n : ℕ) → earlier n ≡ has_number (stored_rows segments) n

id_above : (low limit : ℕ) (es : List HeadSegment) (i : ℕ) (d : HeadSegment) → i < length es → IdsRise low limit es → low ≤ (get_or es i d).id
id_above low limit [] i d lt ids = absurd (omega arith)
id_above low limit (e ∷ es) zero d lt ids = ids.0
id_above low limit (e ∷ es) (suc i) d lt ids = omega (arith, ids.0, id_above (e.id + 1) limit es i d (omega arith) ids.2)

id_below : (low limit : ℕ) (es : List HeadSegment) (i : ℕ) (d : HeadSegment) → i < length es → IdsRise low limit es → (get_or es i d).id < limit
id_below low limit [] i d lt ids = absurd (omega arith)
id_below low limit (e ∷ es) zero d lt ids = ids.1
id_below low limit (e ∷ es) (suc i) d lt ids = id_below (e.id + 1) limit es i d (omega arith) ids.2

-- ids before the one at i are below it
ids_before : (low limit : ℕ) (es : List HeadSegment) (i : ℕ) (d : HeadSegment) → i < length es → IdsRise low limit es → IdsRise low (get_or es i d).id (take i es)
ids_before low limit [] i d lt ids = absurd (omega arith)
ids_before low limit (e ∷ es) zero d lt ids = tt
ids_before low limit (e ∷ es) (suc i) d lt ids =
    (ids.0, omega (arith, id_above (e.id + 1) limit es i d (omega arith) ids.2), ids_before (e.id + 1) limit es i d (omega arith) ids.2)

ids_so_far : (head : Head) (i : ℕ) (e : HeadSegment) → HeadFits head → i < length head.segments → e ≡ get_or head.segments i e → IdsRise 1 e.id (take i head.segments)
ids_so_far head i e fits lt is = subst (λ (x : HeadSegment). IdsRise 1 x.id (take i head.segments)) (sym is) (ids_before 1 head.next_id head.segments i e lt fits.ids)

taken : (es : List HeadSegment) (i : ℕ) (e : HeadSegment) → i < length es → e ≡ get_or es i e → take (i + 1) es ≡ take i es ++ e ∷ []
taken es i e lt is = take_more es i e lt ∙ ap (λ (x : HeadSegment). take i es ++ x ∷ []) (sym is)

fits_taken : (s i : ℕ) (es : List HeadSegment) → AllByRecursion (EntryFits s) es → AllByRecursion (EntryFits s) (take i es)
fits_taken s zero es all = tt
fits_taken s (suc i) [] all = tt
fits_taken s (suc i) (e ∷ es) all = (all.0, fits_taken s i es all.1)

fits_there : (s i : ℕ) (es : List HeadSegment) (d : HeadSegment) → i < length es → AllByRecursion (EntryFits s) es → EntryFits s (get_or es i d)
fits_there s i [] d lt all = absurd (omega arith)
fits_there s zero (e ∷ es) d lt all = all.0
fits_there s (suc i) (e ∷ es) d lt all = fits_there s i es d (omega arith) all.1

-- one segment more was read
one_more : (told : Option Files) (head : Head) (before : Files) (i : ℕ) (earlier now : ℕ → Bool) (segments : List Lived) (e : HeadSegment) (g : Lived) → HeadFits head → i < length head.segments → e ≡ get_or head.segments i e
    → SoFar told head before i earlier segments → SegmentRead told head.number earlier e g → ((n : ℕ) → now n ≡ (earlier n || has_number g.segment.rows n)) → SoFar told head before (i + 1) now (segments ++ g ∷ [])
one_more told head before i earlier now segments e g fits lt is so read more =
    let see : SeenSegment told e so.files (Some read.rows.bytes) (Some (posts_file e.id e.rows g.segment.postings))
    (Some (live_file e.id e.written (live_bits g.live.marks))) (Some (values_file e.id e.written e.rows (values_of g.live.marks))) =
    sees_all told e so.files _ _ _ _ so.was read.rows.seen read.postings.0 read.bits.0 read.values.0 in
    let kept = have_kept so.files see.files head.number 1 e (take i head.segments) segments see.others (ids_so_far head i e fits lt is) so.each in
    record {
      files = see.files;
      was = see.was;
      commit = see.others (Commit head.number) (λ q. cc) (λ q. cc) (λ q. cc) (λ q. cc) ∙ so.commit;
      each = subst (λ (es : List HeadSegment). HaveSegments see.files head.number es (segments ++ g ∷ [])) (sym (taken head.segments i e lt is))
          (have_push see.files head.number (take i head.segments) segments e g kept
          (record {
            id = read.id;
            count = read.rows.segment.count;
            whole = read.whole;
            applied = read.applied;
            rows = record { bytes = read.rows.bytes; file = see.rows_there; spells = read.rows.spells };
            posts = see.posts_there;
            live = see.live_there;
            values = see.values_there;
            rows_fit = read.rows.segment.fits;
            posts_fit = read.postings.1;
            live_fit = read.bits.1;
            values_fit = read.values.1;
          }));
      unknown = unknown_push (λ n. false) segments g so.unknown (all_congr earlier (λ n. has_number (stored_rows segments) n) g.segment.rows so.known read.rows.segment.unknown);
      known = λ n. more n ∙ ap (λ (t : Bool). t || has_number g.segment.rows n) (so.known n) ∙ sym (has_push segments g n);
    }

-- the next segment is broken
breaks : (told : Option Files) (head : Head) (before : Files) (i : ℕ) (earlier : ℕ → Bool) (segments : List Lived) (e : HeadSegment) (d : Damaged) → HeadFits head → i < length head.segments → e ≡ get_or head.segments i e
    → SoFar told head before i earlier segments → SegmentBroken told head.number earlier e d → BreakAt told head before d
breaks told head before i earlier segments e d fits lt is so broken =
    let below : e.id < head.next_id = subst (λ (x : HeadSegment). x.id < head.next_id) (sym is) (id_below 1 head.next_id head.segments i e lt fits.ids) in
    let entry_fits : EntryFits head.number e = subst (EntryFits head.number) (sym is) (fits_there head.number i head.segments e lt fits.entries) in
    let short = entry_short head.number head.next_id e fits.number fits.next below entry_fits in
    let at : BrokenThere told head.number earlier e d so.files = breaks_there told head.number earlier e d so.files short fits.number so.was broken in
    let ids = ids_so_far head i e fits lt is in
    let kept = have_kept so.files at.files head.number 1 e (take i head.segments) segments at.others ids so.each in
    let same : earlier ≡ (λ n. has_number (stored_rows segments) n) = λ j n. so.known n j in
    let at_e : segment_from at.files head.number (λ n. has_number (stored_rows segments) n) e ≡ Err d = subst (λ (k : ℕ → Bool). segment_from at.files head.number k e ≡ Err d) same at.broken in
    let whole : take i head.segments ++ e ∷ drop (i + 1) head.segments ≡ head.segments =
    sym (append_assoc (take i head.segments) (e ∷ []) (drop (i + 1) head.segments)) ∙ ap (λ (es : List HeadSegment). es ++ drop (i + 1) head.segments) (sym (taken head.segments i e lt is)) ∙ take-append-drop (i + 1) head.segments in
    record {
      files = at.files;
      was = at.was;
      commit = at.others (Commit head.number) (λ q. cc) (λ q. cc) (λ q. cc) (λ q. cc) ∙ so.commit;
      broken = ap (segments_from at.files head.number (λ n. false)) (sym whole)
          ∙ segments_break at.files head.number 1 e.id (λ n. false) (take i head.segments) segments e (drop (i + 1) head.segments) d fits.number (omega (arith, below, fits.next)) ids
          (fits_taken head.number i head.segments fits.entries) kept so.unknown at_e;
    }

pub all_read : (told : Option Files) (head : Head) (before : Files) (i : ℕ) (earlier : ℕ → Bool) (segments : List Lived) → length head.segments ≤ i → SoFar told head before i earlier segments → AreRead told head before segments
all_read told head before i earlier segments le so = record {
  files = so.files;
  was = so.was;
  commit = so.commit;
  each = subst (λ (es : List HeadSegment). HaveSegments so.files head.number es segments) (take_all i head.segments le) so.each;
  unknown = so.unknown;
}

-- ---- the same as a loop sees it: the segments through a reference, the files as each read finds them

same_default : (es : List HeadSegment) (i : ℕ) (d x : HeadSegment) → i < length es → get_or es i d ≡ get_or es i x
same_default [] i d x lt = absurd (omega arith)
same_default (e ∷ es) zero d x lt = refl
same_default (e ∷ es) (suc i) d x lt = same_default es i d x (omega arith)

item_is : (es seen : List HeadSegment) (i : ℕ) (d : HeadSegment) → seen ≡ es → i < length seen → get_or seen i d ≡ get_or es i (get_or seen i d)
item_is es seen i d is lt = same_default seen i d (get_or seen i d) lt ∙ ap (λ (xs : List HeadSegment). get_or xs i (get_or seen i d)) is

pub one_more_seen : (told now_told : Option Files) (head : Head) (before : Files) (i : ℕ) (earlier now : ℕ → Bool) (segments all : List Lived) (seen : List HeadSegment) (d : HeadSegment) (g : Lived) → HeadFits head → now_told ≡ told → seen ≡ head.segments
    → i < length seen → SoFar told head before i earlier segments → SegmentRead now_told head.number earlier (get_or seen i d) g → ((n : ℕ) → now n ≡ (earlier n || has_number g.segment.rows n))
    → all ≡ segments ++ g ∷ [] → SoFar told head before (i + 1) now all
one_more_seen told now_told head before i earlier now segments all seen d g fits same is lt so read more more_all =
    let lt' : i < length head.segments = subst (λ (xs : List HeadSegment). i < length xs) is lt in
    let e = get_or seen i d in
    subst (SoFar told head before (i + 1) now) (sym more_all)
    (one_more told head before i earlier now segments e g fits lt' (item_is head.segments seen i d is lt) so (subst (λ (o : Option Files). SegmentRead o head.number earlier e g) same read) more)

pub breaks_seen : (told now_told : Option Files) (head : Head) (before : Files) (i : ℕ) (earlier : ℕ → Bool) (segments : List Lived) (seen : List HeadSegment) (d : HeadSegment) (damaged : Damaged) → HeadFits head → now_told ≡ told → seen ≡ head.segments
    → i < length seen → SoFar told head before i earlier segments → SegmentBroken now_told head.number earlier (get_or seen i d) damaged → BreakAt told head before damaged
breaks_seen told now_told head before i earlier segments seen d damaged fits same is lt so broken =
    let lt' : i < length head.segments = subst (λ (xs : List HeadSegment). i < length xs) is lt in
    let e = get_or seen i d in
    breaks told head before i earlier segments e damaged fits lt' (item_is head.segments seen i d is lt) so (subst (λ (o : Option Files). SegmentBroken o head.number earlier e damaged) same broken)
