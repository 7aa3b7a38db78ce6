-- What the files of a commit spell is what is read of them, so it is one value.
use Rattle.std.proofs.Common.{◌≡◌, ℕ, ◌+◌, ◌^◌, ◌<◌, ◌≤◌, Bool, true, false, eqb, List, [], ◌∷◌, Some, Result, Ok, refl, sym, ap, ◌∙◌, arith}
use Rattle.std.specs.Prelude.{◌||◌}
use Rattle.std.specs.List.{AllByRecursion}
use Rattle.std.proofs.lemmas.Bool.{eq-eqb}
use Rattle.ix_base.specs.Births.{number_of}
use Rattle.ix_base.specs.Counts.{doc_count}
use Rattle.ix_base.specs.FileReading.{placed, of_file}
use Rattle.ix_base.specs.declared.damaged.Damaged.{Damaged}
use Rattle.ix_base.specs.declared.document.Row.{Row}
use Rattle.ix_base.specs.declared.file_name.FileName.TheVariants.{Commit, Rows, Posts, Live, Values}
use Rattle.ix_base.specs.declared.postings.Postings.{Postings}
use Rattle.ix_outside.specs.Files.{Files}
use Rattle.live_docs.specs.declared.live_docs.Mark.{Mark}
use Rattle.segment_core.specs.Births.{has_number}
use Rattle.segment_core.specs.LiveRows.{Lived, all_live}
use Rattle.live_files.proofs.LiveRead.{live_again}
use Rattle.segment_files.proofs.PostsRead.{posts_again}
use Rattle.segment_files.proofs.RowLaws.{rows_again}
use Rattle.live_files.proofs.ValuesRead.{values_again}
use Rattle.segment_files.specs.Fits.{IsSegment, PostingsFit}
use Rattle.live_files.specs.LiveFits.{LiveFits, ValuesFit}
use Rattle.live_files.proofs.LiveMarkLaws.{marks_back}
use Rattle.live_files.specs.LiveMarks.{marks_of}
use Rattle.live_files.specs.LiveReading.{live_in, values_in}
use Rattle.live_files.specs.LiveSpelling.{SetValue, live_file, values_file, live_bits, values_of}
use Rattle.segment_files.specs.Reading.{rows_in, posts_in}
use Rattle.segment_files.specs.Spelling.{posts_file}
use Rattle.commit_point.specs.declared.heads.Head.{Head}
use Rattle.commit_point.specs.declared.heads.HeadSegment.{HeadSegment}
use Rattle.commit_point.proofs.BirthLaws.{unknown_of}
use Rattle.commit_point.specs.Fits.{IdsRise, EntryFits, HeadFits}
use Rattle.commit_point.proofs.HeadReading.{head_again}
use Rattle.commit_point.specs.Holds.{HasRows, HasSegment, HaveSegments, HasSegments, head_of}
use Rattle.commit_point.specs.Loading.{Unknown}
use Rattle.commit_point.specs.Reading.{head_in, head_from, segment_from, segments_from, reading}
use Rattle.commit_point.specs.Spelling.{commit_file}

-- ---- segments

-- the numbers of an entry fit their fields
pub record EntryShort (e : HeadSegment) : Type 0 where
  pub id : e.id < 2 ^ 64
  pub rows : e.rows < 2 ^ 32
  pub written : e.written < 2 ^ 64

pub entry_short : (s limit : ℕ) (e : HeadSegment) → s < 2 ^ 64 → limit ≤ 2 ^ 62 → e.id < limit → EntryFits s e
    → EntryShort e
entry_short s limit e s_fits room below fits =
    record { id = omega (arith, room, below); rows = fits.count; written = omega (arith, fits.not_later, s_fits) }

-- rows, postings, live bits and set numbers that are there are read
pub rows_read : (files : Files) (s : ℕ) (known : ℕ → Bool) (e : HeadSegment) (rows : List Row) → e.id < 2 ^ 64
    → s < 2 ^ 64 → HasRows files e.id rows → IsSegment s e.rows known rows
    → of_file (Rows e.id) (rows_in e.id e.rows s known) (files (Rows e.id)) ≡ Ok rows
rows_read files s known e rows id_fits s_fits has segment =
    ap (of_file (Rows e.id) (rows_in e.id e.rows s known)) has.file
    ∙ ap (placed (Rows e.id) has.bytes) (rows_again e.id e.rows s known has.bytes rows id_fits s_fits segment has.spells)

pub posts_read : (files : Files) (e : HeadSegment) (postings : Postings) → EntryShort e
    → files (Posts e.id) ≡ Some (posts_file e.id e.rows postings) → PostingsFit e.rows postings
    → of_file (Posts e.id) (posts_in e.id e.rows) (files (Posts e.id)) ≡ Ok postings
posts_read files e postings short file fits =
    ap (of_file (Posts e.id) (posts_in e.id e.rows)) file ∙ ap (placed (Posts e.id) (posts_file e.id e.rows postings)) (posts_again e.id e.rows postings short.id short.rows fits)

pub live_read : (files : Files) (e : HeadSegment) (bits : List Bool) → EntryShort e
    → files (Live e.id e.written) ≡ Some (live_file e.id e.written bits) → LiveFits e.rows bits
    → of_file (Live e.id e.written) (live_in e.id e.written e.rows) (files (Live e.id e.written)) ≡ Ok bits
live_read files e bits short file fits =
    ap (of_file (Live e.id e.written) (live_in e.id e.written e.rows)) file
    ∙ ap (placed (Live e.id e.written) (live_file e.id e.written bits)) (live_again e.id e.written e.rows bits short.id short.written short.rows fits)

pub values_read : (files : Files) (e : HeadSegment) (values : List SetValue) → EntryShort e
    → files (Values e.id e.written) ≡ Some (values_file e.id e.written e.rows values) → ValuesFit e.rows values
    → of_file (Values e.id e.written) (values_in e.id e.written e.rows) (files (Values e.id e.written)) ≡ Ok values
values_read files e values short file fits =
    ap (of_file (Values e.id e.written) (values_in e.id e.written e.rows)) file
    ∙ ap (placed (Values e.id e.written) (values_file e.id e.written e.rows values)) (values_again e.id e.written e.rows values short.id short.written short.rows fits)

-- the segment of its rows, its postings, its live bits and its set numbers
abbrev made_of : ℕ → List Row → Postings → ℕ → List Mark → Lived
made_of id rows postings applied marks = record {
  segment = record { id = id; rows = rows; postings = postings };
  live = record { applied = applied; marks = marks };
}

-- one segment that is there is read
pub segment_reads : (files : Files) (s : ℕ) (known : ℕ → Bool) (e : HeadSegment) (g : Lived) → EntryShort e
    → s < 2 ^ 64 → HasSegment files s e g
    → AllByRecursion (λ (r : Row). known (number_of r.birth) ≡ false) g.segment.rows → segment_from files s known e ≡ Ok g
segment_reads files s known e g short s_fits has unknown =
    let rows = rows_read files s known e g.segment.rows short.id s_fits has.rows (record { fits = has.rows_fit; count = has.count; unknown = unknown }) in
    let posts = posts_read files e g.segment.postings short has.posts has.posts_fit in
    let live = live_read files e (live_bits g.live.marks) short has.live has.live_fit in
    let values = values_read files e (values_of g.live.marks) short has.values has.values_fit in
    let marks : Ok (made_of e.id g.segment.rows g.segment.postings s (marks_of (live_bits g.live.marks) (values_of g.live.marks))) ≡ Ok (made_of e.id g.segment.rows g.segment.postings s g.live.marks) =
    ap (λ (ms : List Mark). Ok (made_of e.id g.segment.rows g.segment.postings s ms)) (marks_back g.live.marks) in
    let id : Ok (made_of e.id g.segment.rows g.segment.postings s g.live.marks) ≡ Ok (made_of g.segment.id g.segment.rows g.segment.postings s g.live.marks) =
    ap (λ (i : ℕ). Ok (made_of i g.segment.rows g.segment.postings s g.live.marks)) (sym has.id) in
    let applied : Ok (made_of g.segment.id g.segment.rows g.segment.postings s g.live.marks) ≡ Ok g =
    ap (λ (n : ℕ). Ok (made_of g.segment.id g.segment.rows g.segment.postings n g.live.marks)) (sym has.applied) in
    rw (rows, posts, live, values) (marks ∙ id ∙ applied)

-- segments that are there are read
pub segments_read : (files : Files) (s low limit : ℕ) (known : ℕ → Bool) (es : List HeadSegment) (segments : List Lived)
    → s < 2 ^ 64 → limit ≤ 2 ^ 62 → IdsRise low limit es → AllByRecursion (EntryFits s) es
    → HaveSegments files s es segments → Unknown known segments → segments_from files s known es ≡ Ok segments
unfolding segments_from
segments_read files s low limit known [] [] s_fits room ids fit have unknown = refl
segments_read files s low limit known [] (p ∷ ps) s_fits room ids fit have unknown = absurd have
segments_read files s low limit known (e ∷ es) [] s_fits room ids fit have unknown = absurd have
segments_read files s low limit known (e ∷ es) (p ∷ ps) s_fits room ids fit have unknown =
    rw (
      segment_reads files s known e p (entry_short s limit e s_fits room ids.1 fit.0) s_fits have.0 unknown.0,
      segments_read files s (e.id + 1) limit (λ n. known n || has_number p.segment.rows n) es ps s_fits room ids.2 fit.1 have.1 unknown.1,
    ) refl

-- ---- whole commits

pub head_reads : (files : Files) (s : ℕ) (head : Head) → files (Commit s) ≡ Some (commit_file head) → head.number ≡ s
    → HeadFits head → head_from files s ≡ Ok head
unfolding head_from
head_reads files s head file number fits =
    ap (of_file (Commit s) (head_in s)) file ∙ ap (placed (Commit s) (commit_file head)) (ap (λ (n : ℕ). head_in n (commit_file head)) (sym number) ∙ head_again head fits)

-- what the files of a commit spell is read
pub has_reads : (files : Files) (s next : ℕ) (entries : List HeadSegment) (segments : List Lived)
    → (h : HasSegments files s next entries segments) → reading files s ≡ Ok (head_of s next h.tail entries segments, segments)
unfolding reading
has_reads files s next entries segments h =
    let head = head_of s next h.tail entries segments in
    let docs : eqb (doc_count (all_live segments)) (doc_count (all_live segments)) ≡ true = eq-eqb _ _ refl in
    rw (
      head_reads files s head h.head.file refl h.head.fits,
      segments_read files s 1 next (λ n. false) entries segments h.head.fits.number h.head.fits.next h.head.fits.ids h.head.fits.entries h.each (unknown_of segments h.apart),
      docs,
    ) refl

abbrev is_ok : Head × List Lived → Result (Head × List Lived) Damaged
is_ok p = Ok p

-- files spell one commit of a number
pub one_segments : (files : Files) (s n m : ℕ) (es fs : List HeadSegment) (a b : List Lived)
    → HasSegments files s n es a → HasSegments files s m fs b → (a ≡ b) × (es ≡ fs) × (n ≡ m)
one_segments files s n m es fs a b h k =
    let same : is_ok (head_of s n h.tail es a, a) ≡ is_ok (head_of s m k.tail fs b, b) = sym (has_reads files s n es a h) ∙ has_reads files s m fs b k in
    let pair : (head_of s n h.tail es a, a) ≡ (head_of s m k.tail fs b, b) = cc in (
      ap (λ (p : Head × List Lived). p.1) pair,
      ap (λ (p : Head × List Lived). p.0.segments) pair,
      ap (λ (p : Head × List Lived). p.0.next_id) pair,
    )
