-- Reading the segments of a commit one after the other.
use Rattle.std.proofs.Common.{◌≡◌, ◌≢◌, ℕ, ◌+◌, ◌^◌, ◌<◌, ◌≤◌, Bool, true, false, cond, eqb, List, [], ◌∷◌, ◌++◌, Option, Some, None, Err, refl, sym, ap, inl, inr, ◌∙◌, append_assoc, arith}
use Rattle.std.specs.Prelude.{◌||◌, ◌&&◌}
use Rattle.std.specs.List.{AllByRecursion}
use Rattle.std.proofs.lemmas.Bool.{and_from, and_parts, eqb-true, eq-eqb}
use Rattle.std.proofs.Math.Bool.{or_assoc, or-false}
use Rattle.std.proofs.lemmas.List.{append-nil}
use Rattle.std.proofs.lemmas.List.Folds.{list_any-append}
use Rattle.ix_base.specs.Births.{number_of}
use Rattle.ix_base.specs.declared.file_name.FileName.{FileName}
use Rattle.ix_base.specs.declared.file_name.FileName.TheVariants.{Commit, Pending, Rows, Posts, Live, Values}
use Rattle.ix_base.specs.declared.document.Row.{Row}
use Rattle.ix_outside.specs.Files.{Files, Was, Reads, SameBut}
use Rattle.ix_base.specs.declared.damaged.Damaged.{Damaged}
use Rattle.commit_point.specs.declared.heads.HeadSegment.{HeadSegment}
use Rattle.ix_base.specs.FileReading.{of_file}
use Rattle.segment_core.specs.LiveRows.{Lived, stored_rows}
use Rattle.live_files.specs.LiveReading.{live_in, values_in}
use Rattle.live_files.specs.LiveSpelling.{live_file}
use Rattle.segment_files.specs.Reading.{rows_in, posts_in}
use Rattle.segment_files.specs.Spelling.{posts_file}
use Rattle.commit_point.specs.Fits.{IdsRise, EntryFits}
use Rattle.commit_point.specs.Holds.{HasSegment, HaveSegments}
use Rattle.commit_point.specs.Reading.{segment_from, segments_from}
use Rattle.commit_point.specs.Loading.{Unknown}
use Rattle.segment_core.specs.Births.{EachRises, has_number}
use Rattle.commit_point.proofs.RowsKept.{rows_kept}
use Rattle.commit_point.proofs.SegmentLaws.{EntryShort, entry_short, rows_read, posts_read, live_read, segment_reads}
use Rattle.commit_point.specs.SegmentReads.{SegmentBroken}

-- ---- files that are given by what was read of them

same_name : FileName → FileName → Bool
same_name (Commit a) (Commit b) = eqb a b
same_name (Pending a) (Pending b) = eqb a b
same_name (Rows a) (Rows b) = eqb a b
same_name (Posts a) (Posts b) = eqb a b
same_name (Live a v) (Live b w) = eqb a b && eqb v w
same_name (Values a v) (Values b w) = eqb a b && eqb v w
same_name a b = false

name_is : (a b : FileName) → same_name a b ≡ true → a ≡ b
unfolding same_name
name_is (Commit a) (Commit b) e = ap Commit (eqb-true _ _ e)
name_is (Pending a) (Pending b) e = ap Pending (eqb-true _ _ e)
name_is (Rows a) (Rows b) e = ap Rows (eqb-true _ _ e)
name_is (Posts a) (Posts b) e = ap Posts (eqb-true _ _ e)
name_is (Live a v) (Live b w) e = let h = and_parts (eqb a b) (eqb v w) e in let p = eqb-true _ _ h.0 in let q = eqb-true _ _ h.1 in cc
name_is (Values a v) (Values b w) e = let h = and_parts (eqb a b) (eqb v w) e in let p = eqb-true _ _ h.0 in let q = eqb-true _ _ h.1 in cc
name_is a b e = absurd cc

name_itself : (a : FileName) → same_name a a ≡ true
unfolding same_name
name_itself (Commit a) = eq-eqb a a refl
name_itself (Pending a) = eq-eqb a a refl
name_itself (Rows a) = eq-eqb a a refl
name_itself (Posts a) = eq-eqb a a refl
name_itself (Live a v) = and_from (eqb a a) (eqb v v) (eq-eqb a a refl) (eq-eqb v v refl)
name_itself (Values a v) = and_from (eqb a a) (eqb v v) (eq-eqb a a refl) (eq-eqb v v refl)

-- the files with another content of this one
with_file : FileName → Option (List ℕ) → Files → Files
with_file name found files other = cond (same_name other name) found (files other)

with_there : (name : FileName) (found : Option (List ℕ)) (files : Files) → with_file name found files name ≡ found
unfolding with_file
with_there name found files = rw (name_itself name) refl

with_others : (name : FileName) (found : Option (List ℕ)) (files : Files) → SameBut name files (with_file name found files)
unfolding with_file
with_others name found files other ne = by_test (same_name other name) refl
  where
    by_test : (b : Bool) → same_name other name ≡ b → cond (same_name other name) found (files other) ≡ files other
    by_test true e = absurd (ne (name_is other name e))
    by_test false e = rw e refl

-- a read of a file: there are files of which all that was read is so
pub record Seen (told : Option Files) (name : FileName) (found : Option (List ℕ)) (before : Files) : Type 0 where
  pub files : Files
  pub was : Was told files
  pub there : files name ≡ found
  pub others : SameBut name before files

pub sees : (told : Option Files) (name : FileName) (found : Option (List ℕ)) (before : Files) → Was told before → Reads told name found → Seen told name found before
sees None name found before was reads = record { files = with_file name found before; was = tt; there = with_there name found before; others = with_others name found before }
sees (Some files) name found before was reads = record { files = before; was = was; there = ap (λ (f : Files). f name) (sym was) ∙ sym reads; others = λ other ne. refl }

-- a file as it is may be read so
reads_itself : (told : Option Files) (before : Files) (name : FileName) → Was told before → Reads told name (before name)
reads_itself None before name was = tt
reads_itself (Some files) before name was = ap (λ (f : Files). f name) (sym was)

pub no_files : Files
no_files name = None

pub some_files : (told : Option Files) → (f : Files) × Was told f
some_files None = (no_files, tt)
some_files (Some files) = (files, refl)

-- ---- segments

pub each_rises : (files : Files) (s : ℕ) (es : List HeadSegment) (segments : List Lived) → HaveSegments files s es segments → EachRises s segments
each_rises files s [] [] have = tt
each_rises files s [] (g ∷ gs) have = absurd have
each_rises files s (e ∷ es) [] have = absurd have
each_rises files s (e ∷ es) (g ∷ gs) have = (have.0.rows_fit.births, each_rises files s es gs have.1)

-- the segments so far with one more
pub have_push : (files : Files) (s : ℕ) (es : List HeadSegment) (segments : List Lived) (e : HeadSegment) (g : Lived) → HaveSegments files s es segments
    → HasSegment files s e g → HaveSegments files s (es ++ e ∷ []) (segments ++ g ∷ [])
have_push files s [] [] e g have last = (last, tt)
have_push files s [] (p ∷ ps) e g have last = absurd have
have_push files s (d ∷ ds) [] e g have last = absurd have
have_push files s (d ∷ ds) (p ∷ ps) e g have last = (have.0, have_push files s ds ps e g have.1 last)

-- every file is as it was, but those of this segment
abbrev pub SameButSegment : HeadSegment → Files → Files → Type 0
SameButSegment e old new = (name : FileName) → name ≢ Rows e.id → name ≢ Posts e.id → name ≢ Live e.id e.written → name ≢ Values e.id e.written
    → new name ≡ old name

pub have_kept : (files now : Files) (s low : ℕ) (last : HeadSegment) (es : List HeadSegment) (segments : List Lived) → SameButSegment last files now → IdsRise low last.id es → HaveSegments files s es segments → HaveSegments now s es segments
have_kept files now s low last [] [] same ids have = have
have_kept files now s low last [] (p ∷ ps) same ids have = have
have_kept files now s low last (e ∷ es) [] same ids have = have
have_kept files now s low last (e ∷ es) (p ∷ ps) same ids have =
    let apart : e.id ≢ last.id = λ is. absurd (omega (arith, is, ids.1)) in (
      record {
        id = have.0.id;
        count = have.0.count;
        whole = have.0.whole;
        applied = have.0.applied;
        rows = rows_kept files now e.id p.segment.rows (same (Rows e.id) (λ is. let same_id : e.id ≡ last.id = cc in apart same_id) (λ f. cc) (λ f. cc) (λ f. cc)) have.0.rows;
        posts = same (Posts e.id) (λ f. cc) (λ is. let same_id : e.id ≡ last.id = cc in apart same_id) (λ f. cc) (λ f. cc) ∙ have.0.posts;
        live = same (Live e.id e.written) (λ f. cc) (λ f. cc) (λ is. let same_id : e.id ≡ last.id = cc in apart same_id) (λ f. cc) ∙ have.0.live;
        values = same (Values e.id e.written) (λ f. cc) (λ f. cc) (λ f. cc) (λ is. let same_id : e.id ≡ last.id = cc in apart same_id) ∙ have.0.values;
        rows_fit = have.0.rows_fit;
        posts_fit = have.0.posts_fit;
        live_fit = have.0.live_fit;
        values_fit = have.0.values_fit;
      },
      have_kept files now s (e.id + 1) last es ps same ids.2 have.1,
    )

pub stored_rows_push : (segments : List Lived) (g : Lived) → stored_rows (segments ++ g ∷ []) ≡ stored_rows segments ++ g.segment.rows
stored_rows_push [] g = append-nil g.segment.rows
stored_rows_push (p ∷ ps) g = ap (λ (r : List Row). p.segment.rows ++ r) (stored_rows_push ps g) ∙ sym (append_assoc p.segment.rows (stored_rows ps) g.segment.rows)

has_append : (xs ys : List Row) (n : ℕ) → has_number (xs ++ ys) n ≡ (has_number xs n || has_number ys n)
has_append xs ys n = list_any-append (λ (r : Row). eqb (number_of r.birth) n) xs ys

-- the numbers so far with those of one segment more
pub has_push : (segments : List Lived) (g : Lived) (n : ℕ) → has_number (stored_rows (segments ++ g ∷ [])) n ≡ (has_number (stored_rows segments) n || has_number g.segment.rows n)
has_push segments g n = ap (λ (rs : List Row). has_number rs n) (stored_rows_push segments g) ∙ has_append (stored_rows segments) g.segment.rows n

-- what is known before a segment and with it, together with what stands in the segments after it
known_more : (known : ℕ → Bool) (p : Lived) (ps : List Lived) (n : ℕ) → ((known n || has_number p.segment.rows n) || has_number (stored_rows ps) n) ≡ (known n || has_number (stored_rows (p ∷ ps)) n)
known_more known p ps n = or_assoc (known n) (has_number p.segment.rows n) (has_number (stored_rows ps) n) ∙ ap (λ (t : Bool). known n || t) (sym (has_append p.segment.rows (stored_rows ps) n))

pub all_congr : (f g : ℕ → Bool) (rows : List Row) → ((n : ℕ) → f n ≡ g n) → AllByRecursion (λ (r : Row). f (number_of r.birth) ≡ false) rows → AllByRecursion (λ (r : Row). g (number_of r.birth) ≡ false) rows
all_congr f g [] same all = tt
all_congr f g (r ∷ rs) same all = (sym (same (number_of r.birth)) ∙ all.0, all_congr f g rs same all.1)

pub unknown_push : (known : ℕ → Bool) (segments : List Lived) (g : Lived) → Unknown known segments → AllByRecursion (λ (r : Row). (known (number_of r.birth) || has_number (stored_rows segments) (number_of r.birth)) ≡ false) g.segment.rows → Unknown known (segments ++ g ∷ [])
unknown_push known [] g unknown all = (all_congr (λ n. known n || false) known g.segment.rows (λ n. or-false (known n)) all, tt)
unknown_push known (p ∷ ps) g unknown all = (
  unknown.0,
  unknown_push (λ n. known n || has_number p.segment.rows n) ps g unknown.1
      (all_congr (λ n. known n || has_number (stored_rows (p ∷ ps)) n) (λ n. (known n || has_number p.segment.rows n) || has_number (stored_rows ps) n) g.segment.rows (λ n. sym (known_more known p ps n)) all),
)

-- a segment that is broken, after segments that are there
pub segments_break : (files : Files) (s low limit : ℕ) (known : ℕ → Bool) (es : List HeadSegment) (segments : List Lived) (e : HeadSegment) (rest : List HeadSegment) (d : Damaged) → s < 2 ^ 64 → limit ≤ 2 ^ 62 → IdsRise low limit es → AllByRecursion (EntryFits s) es
    → HaveSegments files s es segments → Unknown known segments → segment_from files s (λ n. known n || has_number (stored_rows segments) n) e ≡ Err d → segments_from files s known (es ++ e ∷ rest) ≡ Err d
unfolding segments_from
segments_break files s low limit known [] [] e rest d s_fits room ids fit have unknown broken =
    let same : (λ n. known n || false) ≡ known = λ i n. or-false (known n) i in
    let h : segment_from files s known e ≡ Err d = ap (λ (k : ℕ → Bool). segment_from files s k e) (sym same) ∙ broken in
    rw h refl
segments_break files s low limit known [] (p ∷ ps) e rest d s_fits room ids fit have unknown broken = absurd have
segments_break files s low limit known (g ∷ gs) [] e rest d s_fits room ids fit have unknown broken = absurd have
segments_break files s low limit known (g ∷ gs) (p ∷ ps) e rest d s_fits room ids fit have unknown broken =
    let same : (λ n. (known n || has_number p.segment.rows n) || has_number (stored_rows ps) n) ≡ (λ n. known n || has_number (stored_rows (p ∷ ps)) n) = λ i n. known_more known p ps n i in
    let h : segment_from files s (λ n. (known n || has_number p.segment.rows n) || has_number (stored_rows ps) n) e ≡ Err d = ap (λ (k : ℕ → Bool). segment_from files s k e) same ∙ broken in
    rw (
      segment_reads files s known g p (entry_short s limit g s_fits room ids.1 fit.0) s_fits have.0 unknown.0,
      segments_break files s (g.id + 1) limit (λ n. known n || has_number p.segment.rows n) gs ps e rest d s_fits room ids.2 fit.1 have.1 unknown.1 h,
    ) refl

-- ---- the files of one segment, as they are read

-- files of which all that was read of a segment is so
pub record SeenSegment (told : Option Files) (e : HeadSegment) (before : Files) (rows posts live values : Option (List ℕ)) : Type 0 where
  pub files : Files
  pub was : Was told files
  pub rows_there : files (Rows e.id) ≡ rows
  pub posts_there : files (Posts e.id) ≡ posts
  pub live_there : files (Live e.id e.written) ≡ live
  pub values_there : files (Values e.id e.written) ≡ values
  pub others : SameButSegment e before files

pub sees_all : (told : Option Files) (e : HeadSegment) (before : Files) (rows posts live values : Option (List ℕ)) → Was told before → Reads told (Rows e.id) rows → Reads told (Posts e.id) posts
    → Reads told (Live e.id e.written) live → Reads told (Values e.id e.written) values → SeenSegment told e before rows posts live values
sees_all told e before rows posts live values was first second third fourth =
    let one : Seen told (Rows e.id) rows before = sees told (Rows e.id) rows before was first in
    let two : Seen told (Posts e.id) posts one.files = sees told (Posts e.id) posts one.files one.was second in
    let three : Seen told (Live e.id e.written) live two.files = sees told (Live e.id e.written) live two.files two.was third in
    let four : Seen told (Values e.id e.written) values three.files = sees told (Values e.id e.written) values three.files three.was fourth in
    record {
      files = four.files;
      was = four.was;
      rows_there = four.others (Rows e.id) (λ q. cc) ∙ three.others (Rows e.id) (λ q. cc) ∙ two.others (Rows e.id) (λ q. cc) ∙ one.there;
      posts_there = four.others (Posts e.id) (λ q. cc) ∙ three.others (Posts e.id) (λ q. cc) ∙ two.there;
      live_there = four.others (Live e.id e.written) (λ q. cc) ∙ three.there;
      values_there = four.there;
      others = λ name r p l v. four.others name v ∙ three.others name l ∙ two.others name p ∙ one.others name r;
    }

-- files of which a segment is broken
pub record BrokenThere (told : Option Files) (s : ℕ) (known : ℕ → Bool) (e : HeadSegment) (d : Damaged) (before : Files) : Type 0 where
  pub files : Files
  pub was : Was told files
  pub others : SameButSegment e before files
  pub broken : segment_from files s known e ≡ Err d

pub breaks_there : (told : Option Files) (s : ℕ) (known : ℕ → Bool) (e : HeadSegment) (d : Damaged) (before : Files) → EntryShort e → s < 2 ^ 64 → Was told before → SegmentBroken told s known e d → BrokenThere told s known e d before
breaks_there told s known e d before short s_fits was (inl broken) =
    let see : SeenSegment told e before broken.found (before (Posts e.id)) (before (Live e.id e.written)) (before (Values e.id e.written)) =
    sees_all told e before _ _ _ _ was broken.seen (reads_itself told before _ was) (reads_itself told before _ was) (reads_itself told before _ was) in
    let h : of_file (Rows e.id) (rows_in e.id e.rows s known) (see.files (Rows e.id)) ≡ Err d = ap (of_file (Rows e.id) (rows_in e.id e.rows s known)) see.rows_there ∙ broken.broken in
    record { files = see.files; was = see.was; others = see.others; broken = rw h refl }
breaks_there told s known e d before short s_fits was (inr (rows, rows_are, inl broken)) =
    let see : SeenSegment told e before (Some rows_are.bytes) broken.found (before (Live e.id e.written)) (before (Values e.id e.written)) =
    sees_all told e before _ _ _ _ was rows_are.seen broken.seen (reads_itself told before _ was) (reads_itself told before _ was) in
    let first = rows_read see.files s known e rows short.id s_fits (record { bytes = rows_are.bytes; file = see.rows_there; spells = rows_are.spells }) rows_are.segment in
    let h : of_file (Posts e.id) (posts_in e.id e.rows) (see.files (Posts e.id)) ≡ Err d = ap (of_file (Posts e.id) (posts_in e.id e.rows)) see.posts_there ∙ broken.broken in
    record { files = see.files; was = see.was; others = see.others; broken = rw (first, h) refl }
breaks_there told s known e d before short s_fits was (inr (rows, rows_are, inr (postings, postings_are, inl broken))) =
    let see : SeenSegment told e before (Some rows_are.bytes) (Some (posts_file e.id e.rows postings)) broken.found (before (Values e.id e.written)) =
    sees_all told e before _ _ _ _ was rows_are.seen postings_are.0 broken.seen (reads_itself told before _ was) in
    let first = rows_read see.files s known e rows short.id s_fits (record { bytes = rows_are.bytes; file = see.rows_there; spells = rows_are.spells }) rows_are.segment in
    let second = posts_read see.files e postings short see.posts_there postings_are.1 in
    let h : of_file (Live e.id e.written) (live_in e.id e.written e.rows) (see.files (Live e.id e.written)) ≡ Err d = ap (of_file (Live e.id e.written) (live_in e.id e.written e.rows)) see.live_there ∙ broken.broken in
    record { files = see.files; was = see.was; others = see.others; broken = rw (first, second, h) refl }
breaks_there told s known e d before short s_fits was (inr (rows, rows_are, inr (postings, postings_are, inr (bits, bits_are, broken)))) =
    let see : SeenSegment told e before (Some rows_are.bytes) (Some (posts_file e.id e.rows postings)) (Some (live_file e.id e.written bits)) broken.found =
    sees_all told e before _ _ _ _ was rows_are.seen postings_are.0 bits_are.0 broken.seen in
    let first = rows_read see.files s known e rows short.id s_fits (record { bytes = rows_are.bytes; file = see.rows_there; spells = rows_are.spells }) rows_are.segment in
    let second = posts_read see.files e postings short see.posts_there postings_are.1 in
    let third = live_read see.files e bits short see.live_there bits_are.1 in
    let h : of_file (Values e.id e.written) (values_in e.id e.written e.rows) (see.files (Values e.id e.written)) ≡ Err d = ap (of_file (Values e.id e.written) (values_in e.id e.written e.rows)) see.values_there ∙ broken.broken in
    record { files = see.files; was = see.was; others = see.others; broken = rw (first, second, third, h) refl }
