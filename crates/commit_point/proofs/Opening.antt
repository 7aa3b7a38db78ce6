-- What the reads of a whole commit come to.
use Rattle.std.proofs.Common.{◌≡◌, ℕ, ◌<◌, ◌^◌, Bool, true, false, not, eqb, List, Option, Some, Result, Ok, Err, refl, sym, ap, subst, ◌∙◌, inl, inr}
use Rattle.std.specs.Prelude.{IfOk, IfErr}
use Rattle.std.specs.List.{AllByRecursion}
use Rattle.std.proofs.lemmas.Bool.{eqb-true}
use Rattle.ix_base.specs.Counts.{doc_count}
use Rattle.ix_base.specs.FileReading.{of_file}
use Rattle.segment_core.specs.LiveRows.{Lived, all_live}
use Rattle.ix_base.specs.declared.file_name.FileName.TheVariants.{Commit}
use Rattle.ix_outside.specs.Files.{Files, Was, Reads}
use Rattle.ix_base.specs.declared.damaged.Damaged.{Damaged}
use Rattle.commit_point.specs.declared.fault.OpenFault.{OpenFault}
use Rattle.commit_point.specs.declared.fault.OpenFault.TheVariants as open_faults
use Rattle.commit_point.specs.declared.open.Opened.{Opened}
use Rattle.commit_point.specs.declared.heads.Head.{Head}
use Rattle.commit_point.specs.declared.heads.HeadSegment.{HeadSegment}
use Rattle.commit_point.specs.Spelling.{commit_file}
use Rattle.commit_point.specs.Fits.{EntryFits, HeadFits}
use Rattle.commit_point.specs.Holds.{HasHead, HasSegments, HaveSegments, head_of}
use Rattle.commit_point.specs.Loading.{IsBroken, IsOutside, AreRead, BreakAt}
use Rattle.commit_point.specs.Reading.{head_in, head_from, segments_from, reading}
use Rattle.commit_point.proofs.BirthLaws.{apart_of}
use Rattle.commit_point.proofs.SegmentLaws.{head_reads, segments_read, has_reads, one_segments}
use Rattle.commit_point.proofs.Segments.{Seen, sees, some_files}

-- files that the head was read from
abbrev HeadSeen : Option Files → ℕ → Head → Type 0
HeadSeen told s head = (f : Files) × Was told f × (f (Commit s) ≡ Some (commit_file head))

see_head : (told : Option Files) (s : ℕ) (head : Head) → Reads told (Commit s) (Some (commit_file head)) → HeadSeen told s head
see_head told s head reads =
    let first = some_files told in
    let see : Seen told (Commit s) (Some (commit_file head)) first.0 = sees told (Commit s) (Some (commit_file head)) first.0 first.1 reads in
    (see.files, see.was, see.there)

-- a head with this number and sum is that of its entries and segments
head_is : (s : ℕ) (head : Head) (segments : List Lived) → head.number ≡ s → head.docs ≡ doc_count (all_live segments) → head ≡ head_of s head.next_id (head.format, head.pairs) head.segments segments
head_is s head segments number docs =
    ap (λ (n : ℕ). record { number = n; docs = head.docs; next_id = head.next_id; segments = head.segments; format = head.format; pairs = head.pairs }) number
    ∙ ap (λ (d : ℕ). record { number = s; docs = d; next_id = head.next_id; segments = head.segments; format = head.format; pairs = head.pairs }) docs

pub opens : (told next_told : Option Files) (s : ℕ) (head : Head) (segments : List Lived) → next_told ≡ told → Reads told (Commit s) (Some (commit_file head)) → head.number ≡ s → HeadFits head
    → ((before : Files) → Was next_told before → AreRead next_told head before segments) → eqb head.docs (doc_count (all_live segments)) ≡ true
    → (files : Files) × Was told files × HasSegments files s head.next_id head.segments segments
opens told next_told s head segments same reads number fits each docs =
    let seen = see_head told s head reads in
    let read : AreRead next_told head seen.0 segments = each seen.0 (subst (λ (o : Option Files). Was o seen.0) (sym same) seen.1) in
    let there : read.files (Commit s) ≡ Some (commit_file head) = subst (λ (n : ℕ). read.files (Commit n) ≡ seen.0 (Commit n)) number read.commit ∙ seen.2 in
    let have : HaveSegments read.files s head.segments segments = subst (λ (n : ℕ). HaveSegments read.files n head.segments segments) number read.each in (
      read.files,
      subst (λ (o : Option Files). Was o read.files) same read.was,
      record {
        tail = (head.format, head.pairs);
        head = subst (HasHead read.files s) (head_is s head segments number (eqb-true _ _ docs)) (record { file = there; number = number; fits = fits });
        each = have;
        apart = apart_of segments read.unknown;
      },
    )

pub head_breaks : (told : Option Files) (s : ℕ) (d : Damaged) → IsBroken told (Commit s) (head_in s) d → (files : Files) × Was told files × (reading files s ≡ Err d)
unfolding reading head_from
head_breaks told s d broken =
    let first = some_files told in
    let see : Seen told (Commit s) broken.found first.0 = sees told (Commit s) broken.found first.0 first.1 broken.seen in
    let h : of_file (Commit s) (head_in s) (see.files (Commit s)) ≡ Err d = ap (of_file (Commit s) (head_in s)) see.there ∙ broken.broken in
    (see.files, see.was, rw h refl)

pub segment_breaks : (told next_told : Option Files) (s : ℕ) (head : Head) (d : Damaged) → next_told ≡ told → Reads told (Commit s) (Some (commit_file head)) → head.number ≡ s → HeadFits head
    → ((before : Files) → Was next_told before → BreakAt next_told head before d) → (files : Files) × Was told files × (reading files s ≡ Err d)
unfolding reading
segment_breaks told next_told s head d same reads number fits each =
    let seen = see_head told s head reads in
    let at : BreakAt next_told head seen.0 d = each seen.0 (subst (λ (o : Option Files). Was o seen.0) (sym same) seen.1) in
    let there : at.files (Commit s) ≡ Some (commit_file head) = subst (λ (n : ℕ). at.files (Commit n) ≡ seen.0 (Commit n)) number at.commit ∙ seen.2 in
    let broken : segments_from at.files s (λ n. false) head.segments ≡ Err d = subst (λ (n : ℕ). segments_from at.files n (λ n. false) head.segments ≡ Err d) number at.broken in
    (at.files, subst (λ (o : Option Files). Was o at.files) same at.was, rw (head_reads at.files s head there number fits, broken) refl)

-- what the test of the number of rows says
counts : (head : Head) (segments seen : List Lived) (b : Bool) → seen ≡ segments → b ≡ eqb head.docs (doc_count (all_live seen)) → eqb head.docs (doc_count (all_live segments)) ≡ b
counts head segments seen b is test = ap (λ (gs : List Lived). eqb head.docs (doc_count (all_live gs))) (sym is) ∙ sym test

pub counts_right : (head : Head) (segments seen : List Lived) (b : Bool) → seen ≡ segments → b ≡ eqb head.docs (doc_count (all_live seen)) → not b ≡ false → eqb head.docs (doc_count (all_live segments)) ≡ true
counts_right head segments seen true is test right = counts head segments seen true is test
counts_right head segments seen false is test right = absurd cc

pub counts_wrong : (head : Head) (segments seen : List Lived) (b : Bool) → seen ≡ segments → b ≡ eqb head.docs (doc_count (all_live seen)) → not b ≡ true → eqb head.docs (doc_count (all_live segments)) ≡ false
counts_wrong head segments seen true is test wrong = absurd cc
counts_wrong head segments seen false is test wrong = counts head segments seen false is test

pub docs_break : (told next_told : Option Files) (s : ℕ) (head : Head) (segments : List Lived) → next_told ≡ told → Reads told (Commit s) (Some (commit_file head)) → head.number ≡ s → HeadFits head
    → ((before : Files) → Was next_told before → AreRead next_told head before segments) → eqb head.docs (doc_count (all_live segments)) ≡ false → (files : Files) × Was told files × (reading files s ≡ Err (record { file = Commit s; at = 16 }))
unfolding reading
docs_break told next_told s head segments same reads number fits each wrong =
    let seen = see_head told s head reads in
    let read : AreRead next_told head seen.0 segments = each seen.0 (subst (λ (o : Option Files). Was o seen.0) (sym same) seen.1) in
    let there : read.files (Commit s) ≡ Some (commit_file head) = subst (λ (n : ℕ). read.files (Commit n) ≡ seen.0 (Commit n)) number read.commit ∙ seen.2 in
    let have : HaveSegments read.files s head.segments segments = subst (λ (n : ℕ). HaveSegments read.files n head.segments segments) number read.each in
    let s_fits : s < 2 ^ 64 = subst (λ (n : ℕ). n < 2 ^ 64) number fits.number in (
      read.files,
      subst (λ (o : Option Files). Was o read.files) same read.was,
      rw (head_reads read.files s head there number fits, segments_read read.files s 1 head.next_id (λ n. false) head.segments segments s_fits fits.next fits.ids (subst (λ (n : ℕ). AllByRecursion (EntryFits n) head.segments) number fits.entries) have read.unknown, wrong) refl,
    )

-- a commit that was opened
abbrev opened_of : ℕ → ℕ → List HeadSegment → List Lived → Opened
opened_of s next entries segments = record { number = s; next_id = next; entries = entries; segments = segments }

opened_is : (s next : ℕ) (entries : List HeadSegment) (segments : List Lived) (opened : Opened) → opened.number ≡ s → (opened.segments ≡ segments) × (opened.entries ≡ entries) × (opened.next_id ≡ next)
    → opened ≡ opened_of s next entries segments
opened_is s next entries segments opened number same =
    ap (λ (n : ℕ). opened_of n opened.next_id opened.entries opened.segments) number
    ∙ ap (λ (n : ℕ). opened_of s n opened.entries opened.segments) same.2
    ∙ ap (λ (es : List HeadSegment). opened_of s next es opened.segments) same.1
    ∙ ap (opened_of s next entries) same.0

pub only_it : (told : Option Files) (s : ℕ) (r : Result Opened OpenFault) → IfOk r (λ opened. opened.number ≡ s) → IfOk r (λ opened. (files : Files) × Was told files × HasSegments files s opened.next_id opened.entries opened.segments)
    → (files : Files) (next : ℕ) (entries : List HeadSegment) (segments : List Lived) → told ≡ Some files → HasSegments files s next entries segments
    → IfOk r (λ opened. opened ≡ record { number = s; next_id = next; entries = entries; segments = segments })
only_it told s (Err e) number found files next entries segments is h = tt
only_it told s (Ok opened) number found files next entries segments is h =
    let same : files ≡ found.0 = subst (λ (o : Option Files). Was o found.0) is found.1 in
    opened_is s next entries segments opened number
    (one_segments files s opened.next_id next opened.entries entries opened.segments segments (subst (λ (f : Files). HasSegments f s opened.next_id opened.entries opened.segments) (sym same) found.2) h)

pub whole_is_read : (told : Option Files) (s : ℕ) (r : Result Opened OpenFault) → ((d : Damaged) → r ≡ Err (open_faults.Damaged d) → (files : Files) × Was told files × (reading files s ≡ Err d)) → ((other : ℕ) → r ≡ Err (open_faults.NoSuch other) → ⊥)
    → (files : Files) (next : ℕ) (entries : List HeadSegment) (segments : List Lived) → told ≡ Some files → HasSegments files s next entries segments → IfErr r IsOutside
whole_is_read told s (Ok x) damaged listed files next entries segments is h = tt
whole_is_read told s (Err open_faults.Store) damaged listed files next entries segments is h = inl refl
whole_is_read told s (Err open_faults.NoMemory) damaged listed files next entries segments is h = inr refl
whole_is_read told s (Err (open_faults.NoSuch other)) damaged listed files next entries segments is h = absurd (listed other refl)
whole_is_read told s (Err (open_faults.Damaged d)) damaged listed files next entries segments is h =
    let at = damaged d refl in
    let same : files ≡ at.0 = subst (λ (o : Option Files). Was o at.0) is at.1 in
    let broken : reading files s ≡ Err d = subst (λ (f : Files). reading f s ≡ Err d) (sym same) at.2 in
    let read : reading files s ≡ Ok (head_of s next h.tail entries segments, segments) = has_reads files s next entries segments h in
    absurd cc
