-- The commit files that are read, and what is planned after them.
use Rattle.std.proofs.Common.{◌≡◌, ◌∙◌, inl, inr, ℕ, ◌+◌, ◌<◌, List, [], ◌∷◌, ◌++◌, length, get_or, map, take, Option, Some, Result, Ok, Err, refl, sym, ap, subst}
use Rattle.std.specs.Prelude.{◌↔◌, AllPairs, Contains, IfErr}
use Rattle.std.specs.List.{AllZip}
use Rattle.std.proofs.lemmas.List.{flat_map_more, take_more}
use Rattle.ix_base.specs.declared.damaged.Damaged.{Damaged}
use Rattle.ix_base.specs.declared.file_name.FileName.{FileName}
use Rattle.ix_base.specs.declared.file_name.FileName.TheVariants.{Commit}
use Rattle.ix_outside.specs.Files.{Files, Lists, Was}
use Rattle.commit_point.specs.declared.heads.HeadSegment.{HeadSegment}
use Rattle.commit_point.specs.declared.heads.Head.{Head}
use Rattle.commit_point.specs.Holds.{HasHead}
use Rattle.commit_point.specs.Reading.{head_from}
use Rattle.commit_point.proofs.SegmentLaws.{head_reads}
use Rattle.commit_pruning.specs.Choosing.{AreNumbers, IsPlan, earlier, entries_of, latest, unlisted}
use Rattle.commit_pruning.specs.Pruning.{AreWhole, BreaksStaying, IsBrokenCommit, IsOutside}
use Rattle.commit_pruning.specs.declared.fault.PruningFault.{PruningFault}
use Rattle.commit_pruning.specs.declared.fault.PruningFault.TheVariants as pruning
use Rattle.commit_pruning.proofs.Latest.{latest_stays}

pub same_files : (told : Option Files) (files seen : Files) → told ≡ Some files → Was told seen → files ≡ seen
same_files told files seen is was = subst (λ (o : Option Files). Was o seen) is was

-- ---- one commit file after another

zip_push : (files : Files) (numbers : List ℕ) (heads : List Head) (n : ℕ) (head : Head) → AllZip (HasHead files) numbers heads → HasHead files n head
    → AllZip (HasHead files) (numbers ++ n ∷ []) (heads ++ head ∷ [])
zip_push files [] [] n head zip has = (has, tt)
zip_push files [] (h ∷ hs) n head zip has = absurd zip
zip_push files (m ∷ ns) [] n head zip has = absurd zip
zip_push files (m ∷ ns) (h ∷ hs) n head zip has = (zip.0, zip_push files ns hs n head zip.1 has)

-- heads of these commits, whose entries these are
abbrev pub AreEntries : Files → List ℕ → List HeadSegment → Type 0
AreEntries files numbers entries = (heads : List Head) × AllZip (HasHead files) numbers heads × (entries ≡ entries_of heads)

pub one_more : (files : Files) (numbers : List ℕ) (i : ℕ) (head : Head) (entries both : List HeadSegment) → i < length numbers
    → AreEntries files (take i numbers) entries → HasHead files (get_or numbers i 0) head → both ≡ entries ++ head.segments → AreEntries files (take (i + 1) numbers) both
one_more files numbers i head entries both lt are has is = (
  are.0 ++ head ∷ [],
  subst (λ (ns : List ℕ). AllZip (HasHead files) ns (are.0 ++ head ∷ [])) (sym (take_more numbers i 0 lt)) (zip_push files (take i numbers) are.0 (get_or numbers i 0) head are.1 has),
  is ∙ ap (λ (es : List HeadSegment). es ++ head.segments) are.2 ∙ flat_map_more (λ (h : Head). h.segments) [] are.0 head,
)

-- ---- the plan

-- the numbers among all names are those of the commits
pub numbers_are : (files : Files) (names : List FileName) (numbers : List ℕ) → Lists files names
    → ((s : ℕ) → Contains numbers s ↔ Contains names (Commit s)) → AreNumbers files numbers
numbers_are files names numbers lists same s = (
  (λ c. (lists.each (Commit s)).0 ((same s).0 c)),
  (λ there. (same s).1 ((lists.each (Commit s)).1 there)),
)

pub planned : (keep : ℕ) (files : Files) (names gone rest : List FileName) (numbers : List ℕ) (entries : List HeadSegment)
    → Lists files names → AllPairs ◌<◌ numbers → AreNumbers files numbers → AreEntries files (latest keep numbers) entries
    → gone ≡ map Commit (earlier keep numbers) → rest ≡ unlisted entries names → IsPlan keep files gone rest
planned keep files names gone rest numbers entries lists rise all are gone_are rest_are = record {
  names = names;
  names_are = lists;
  numbers = numbers;
  rise = rise;
  commits = all;
  heads = are.0;
  heads_are = are.1;
  gone_are = gone_are;
  rest_are = rest_are ∙ ap (λ (es : List HeadSegment). unlisted es names) are.2;
}

pub breaks_staying : (keep : ℕ) (files : Files) (told : Option Files) (numbers : List ℕ) (damaged : Damaged) → told ≡ Some files
    → AllPairs ◌<◌ numbers → AreNumbers files numbers
    → ((s : ℕ) × Contains (latest keep numbers) s × IsBrokenCommit told s damaged) → BreaksStaying keep files damaged
breaks_staying keep files told numbers damaged is rise all broken = record {
  number = broken.0;
  stays = latest_stays keep files numbers (record { rise = rise; each = all }) broken.0 broken.1;
  broken = subst (λ (f : Files). head_from f broken.0 ≡ Err damaged) (sym (same_files told files broken.2.0 is broken.2.1)) broken.2.2;
}

-- ---- what is said of refusals

pub whole_or_outside : {T : Type 0} (keep : ℕ) (files : Files) (r : Result T PruningFault) → ((damaged : Damaged) → r ≡ Err (pruning.Damaged damaged) → BreaksStaying keep files damaged)
    → AreWhole keep files → IfErr r IsOutside
whole_or_outside keep files (Ok x) broken whole = tt
whole_or_outside keep files (Err pruning.Store) broken whole = inl refl
whole_or_outside keep files (Err pruning.NoMemory) broken whole = inr refl
whole_or_outside keep files (Err (pruning.Damaged d)) broken whole =
    let breaks = broken d refl in
    let head = whole breaks.number breaks.stays in
    let read : head_from files breaks.number ≡ Ok head.0 = head_reads files breaks.number head.0 head.1.file head.1.number head.1.fits in
    let no : head_from files breaks.number ≡ Err d = breaks.broken in
    absurd cc
