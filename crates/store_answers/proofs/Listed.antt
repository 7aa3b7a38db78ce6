-- The commits that are listed, and the first of them that is broken.
use Rattle.std.proofs.Common.{◌≡◌, ◌⊎◌, inl, inr, ◌∙◌, ℕ, zero, suc, ◌+◌, ◌<◌, ◌≤◌, List, [], ◌∷◌, ◌++◌, length, get_or, take, Option, Some, None, Result, Ok, Err, refl, sym, ap, subst, arith, Vec}
use Rattle.std.specs.Prelude.{◌↔◌, AllPairs, Contains, IfErr, IfOk, IsErrAnd, IsSome}
use Rattle.std.specs.List.{AllZip, flat_map}
use Rattle.std.specs.declared.alloc.Global.{Global}
use Rattle.std.proofs.lemmas.Bool.{cases_lt}
use Rattle.std.proofs.lemmas.List.{flat_map_more, get_or-take, get_or_default, length-take-le, take_more}
use Rattle.std.proofs.lemmas.List.Elements.{Contains-get_or}
use Rattle.ix_base.specs.FileReading.{of_file}
use Rattle.ix_base.specs.declared.damaged.Damaged.{Damaged}
use Rattle.ix_base.specs.declared.file_name.FileName.TheVariants.{Commit}
use Rattle.ix_base.specs.declared.memory.NoMemory.{NoMemory}
use Rattle.ix_outside.specs.Files.{Files, Was, Reads}
use Rattle.commit_point.specs.Fits.{HeadFits}
use Rattle.commit_point.specs.Holds.{HasHead}
use Rattle.commit_point.specs.Reading.{head_from, head_in}
use Rattle.commit_point.proofs.SegmentLaws.{head_reads}
use Rattle.commit_point.specs.Spelling.{commit_file}
use Rattle.commit_point.specs.declared.heads.Head.{Head}
use Rattle.store_answers.specs.Listing.{AreListed, BreaksAmong, IsBrokenCommit, IsFirstBroken, IsOutside, line_text}
use Rattle.store_answers.specs.declared.listing.ListFault.{ListFault}
use Rattle.store_answers.specs.declared.listing.ListFault.TheVariants as listing
use Rattle.store_answers.proofs.Told.{Numbers, same_files}

abbrev Bytes : Type 0
Bytes = Vec ℕ Global

-- ---- one commit file

pub head_there : (told : Option Files) (files : Files) (s : ℕ) (bytes : List ℕ) (head : Head) → told ≡ Some files → Reads told (Commit s) (Some bytes)
    → head.number ≡ s → HeadFits head → bytes ≡ commit_file head → HasHead files s head
head_there told files s bytes head is reads number fits spelled = record {
  file = sym (subst (λ (o : Option Files). Reads o (Commit s) (Some bytes)) is reads) ∙ ap (λ (b : List ℕ). Some b) spelled;
  number = number;
  fits = fits;
}

pub head_found : (told : Option Files) (s : ℕ) (bytes slice : List ℕ) (r : Result Head ListFault) → Reads told (Commit s) (Some bytes) → slice ≡ bytes
    → IfOk r (λ head. (head.number ≡ s) × HeadFits head × (slice ≡ commit_file head)) → IfOk r (λ head. (files : Files) → told ≡ Some files → HasHead files s head)
head_found told s bytes slice (Err fault) reads same found = tt
head_found told s bytes slice (Ok head) reads same found = λ files is. head_there told files s bytes head is reads found.0 found.1 (sym same ∙ found.2)

seen_file : (told : Option Files) (s : ℕ) (found : Option (List ℕ)) → Reads told (Commit s) found → (files : Files) × Was told files × (files (Commit s) ≡ found)
seen_file (Some files) s found reads = (files, refl, sym reads)
seen_file None s found reads = (λ name. found, tt, refl)

pub commit_breaks : (told : Option Files) (s : ℕ) (found : Option (List ℕ)) (damaged : Damaged) → Reads told (Commit s) found → of_file (Commit s) (head_in s) found ≡ Err damaged → IsBrokenCommit told s damaged
unfolding head_from
commit_breaks told s found damaged reads broken =
    let seen = seen_file told s found reads in
    (seen.0, seen.1, ap (of_file (Commit s) (head_in s)) seen.2 ∙ broken)

spelled_whole : {A : Type 0} (files : Files) (s : ℕ) (head : Head) (damaged : Damaged) → HasHead files s head → head_from files s ≡ Err damaged → A
spelled_whole files s head damaged has broken =
    let read : head_from files s ≡ Ok head = head_reads files s head has.file has.number has.fits in
    absurd cc

-- ---- one after another

zip_at : (files : Files) (numbers : List ℕ) (heads : List Head) → AllZip (HasHead files) numbers heads → (k d : ℕ) → k < length numbers → (head : Head) × HasHead files (get_or numbers k d) head
zip_at files [] heads zip k d lt = absurd (omega (arith, lt))
zip_at files (n ∷ ns) [] zip k d lt = absurd zip
zip_at files (n ∷ ns) (h ∷ hs) zip zero d lt = (h, zip.0)
zip_at files (n ∷ ns) (h ∷ hs) zip (suc k) d lt = zip_at files ns hs zip.1 k d (omega (arith, lt))

zip_push : (files : Files) (numbers : List ℕ) (heads : List Head) (n : ℕ) (head : Head) → AllZip (HasHead files) numbers heads → HasHead files n head
    → AllZip (HasHead files) (numbers ++ n ∷ []) (heads ++ head ∷ [])
zip_push files [] [] n head zip has = (has, tt)
zip_push files [] (h ∷ hs) n head zip has = absurd zip
zip_push files (m ∷ ns) [] n head zip has = absurd zip
zip_push files (m ∷ ns) (h ∷ hs) n head zip has = (zip.0, zip_push files ns hs n head zip.1 has)

-- each of the first few commits is spelled
pub spelled_before : (files : Files) (numbers : List ℕ) (at : ℕ) (heads : List Head) → at ≤ length numbers → AllZip (HasHead files) (take at numbers) heads
    → (k : ℕ) → k < at → (head : Head) × HasHead files (get_or numbers k 0) head
spelled_before files numbers at heads le zip k lt =
    let within : k < length (take at numbers) = omega (arith, lt, length-take-le at numbers le) in
    let found = zip_at files (take at numbers) heads zip k 0 within in
    (found.0, subst (λ (s : ℕ). HasHead files s found.0) (get_or-take at numbers k 0 lt) found.1)

head_among : (files : Files) (numbers : List ℕ) (heads : List Head) (s : ℕ) → AllZip (HasHead files) numbers heads → Contains numbers s → (head : Head) × HasHead files s head
head_among files numbers heads s zip has =
    let found = zip_at files numbers heads zip has.0 s has.1 in
    (found.0, subst (λ (t : ℕ). HasHead files t found.0) has.2 found.1)

-- one commit more
pub one_more : (files : Files) (numbers : List ℕ) (i : ℕ) (heads : List Head) (head : Head) (text line both : List ℕ) → i < length numbers
    → AllZip (HasHead files) (take i numbers) heads → HasHead files (get_or numbers i 0) head → text ≡ flat_map line_text heads → line ≡ line_text head → both ≡ text ++ line
    → (all : List Head) × AllZip (HasHead files) (take (i + 1) numbers) all × (both ≡ flat_map line_text all)
one_more files numbers i heads head text line both lt zip has text_is line_is is = (
  heads ++ head ∷ [],
  subst (λ (ns : List ℕ). AllZip (HasHead files) ns (heads ++ head ∷ [])) (sym (take_more numbers i 0 lt)) (zip_push files (take i numbers) heads (get_or numbers i 0) head zip has),
  is ∙ ap (λ (bs : List ℕ). bs ++ line) text_is ∙ ap (λ (bs : List ℕ). flat_map line_text heads ++ bs) line_is ∙ flat_map_more line_text [] heads head,
)

-- the line of a commit whose file was read
pub line_told : (files : Files) (s : ℕ) (head : Head) (found : Result Bytes NoMemory) (told : Result Bytes ListFault) → HasHead files s head
    → IfOk found (λ text. text.items ≡ line_text head) → IfOk told (λ text. found ≡ Ok text)
    → IfOk told (λ text. (spelled : Head) × HasHead files s spelled × (text.items ≡ line_text spelled))
line_told files s head found (Err fault) has line same = tt
line_told files s head found (Ok text) has line same =
    let Line : Result Bytes NoMemory → Type 0 = λ r. IfOk r (λ bytes. bytes.items ≡ line_text head) in
    (head, has, subst Line same line)

-- ---- the first that is broken

-- what stands before a rising number stands at an earlier place
stands_before : (numbers : List ℕ) (at k t : ℕ) → AllPairs ◌<◌ numbers → at < length numbers → k < length numbers → get_or numbers k 0 ≡ t → t < get_or numbers at 0 → k < at
stands_before numbers at k t rise within there is lt = elim (cases_lt k at) [
  | inl less ↦ less
  | inr ge ↦ elim (cases_lt at k) [
    | inl more ↦ absurd (omega (arith, rise at k 0 more there, is, lt))
    | inr le ↦
        let same : k ≡ at = omega (arith, ge, le) in
        let equal : get_or numbers k 0 ≡ get_or numbers at 0 = ap (λ (i : ℕ). get_or numbers i 0) same in
        absurd (omega (arith, equal, is, lt))
  ]
]

pub first_broken : (told : Option Files) (numbers : List ℕ) (damaged : Damaged) (files : Files) → Numbers told numbers → AllPairs ◌<◌ numbers
    → BreaksAmong told numbers damaged → told ≡ Some files → (s : ℕ) × IsFirstBroken files s damaged
first_broken told numbers damaged files listed rise breaks is =
    let each : (t : ℕ) → Contains numbers t ↔ IsSome (files (Commit t)) = subst (λ (o : Option Files). Numbers o numbers) is listed in
    let s = get_or numbers breaks.at 0 in
    let same : files ≡ breaks.broken.0 = same_files told files breaks.broken.0 is breaks.broken.1 in (
      s,
      record {
        there = (each s).0 (Contains-get_or numbers breaks.at 0 breaks.within);
        broken = subst (λ (f : Files). head_from f s ≡ Err damaged) (sym same) breaks.broken.2;
        before = λ t lt there.
            let has = (each t).1 there in
            let at_t : get_or numbers has.0 0 ≡ t = get_or_default numbers has.0 0 t has.1 ∙ has.2 in
            let found = breaks.before files is has.0 (stands_before numbers breaks.at has.0 t rise breaks.within has.1 at_t lt) in
            (found.0, subst (λ (n : ℕ). HasHead files n found.0) at_t found.1);
      },
    )

pub breaks_same : (told next : Option Files) (numbers slice : List ℕ) (damaged : Damaged) → next ≡ told → slice ≡ numbers → BreaksAmong next slice damaged → BreaksAmong told numbers damaged
breaks_same told next numbers slice damaged same slice_is breaks =
    subst (λ (o : Option Files). BreaksAmong o numbers damaged) same (subst (λ (ns : List ℕ). BreaksAmong next ns damaged) slice_is breaks)

-- ---- what the list comes to

-- the text is that of all commits
abbrev pub IsList : Files → Bytes → Type 0
IsList files text = (heads : List Head) × AreListed files heads × (text.items ≡ flat_map line_text heads)

pub list_is : (told next : Option Files) (numbers slice : List ℕ) (r : Result Bytes ListFault) → next ≡ told → slice ≡ numbers → Numbers told numbers → AllPairs ◌<◌ numbers
    → ((files : Files) → next ≡ Some files → IfOk r (λ text. (heads : List Head) × AllZip (HasHead files) slice heads × (text.items ≡ flat_map line_text heads)))
    → (files : Files) → told ≡ Some files → IfOk r (IsList files)
list_is told next numbers slice (Err fault) same slice_is listed rise lines files is = tt
list_is told next numbers slice (Ok text) same slice_is listed rise lines files is =
    let found = lines files (same ∙ is) in (
      found.0,
      record {
        numbers = numbers;
        are = record { rise = rise; all = subst (λ (o : Option Files). Numbers o numbers) is listed };
        spelled = subst (λ (ns : List ℕ). AllZip (HasHead files) ns found.0) slice_is found.1;
      },
      found.2,
    )

-- where all commit files are in the grammar, none is told as damaged
pub list_whole : {T : Type 0} (told : Option Files) (numbers : List ℕ) (r : Result T ListFault) → Numbers told numbers → AllPairs ◌<◌ numbers
    → ((d : Damaged) → r ≡ Err (listing.Damaged d) → BreaksAmong told numbers d)
    → (files : Files) (heads : List Head) → told ≡ Some files → AreListed files heads → IfErr r IsOutside
list_whole told numbers (Ok x) each rise damaged files heads is listed = tt
list_whole told numbers (Err listing.Store) each rise damaged files heads is listed = inl refl
list_whole told numbers (Err listing.NoMemory) each rise damaged files heads is listed = inr refl
list_whole told numbers (Err (listing.Damaged d)) each rise damaged files heads is listed =
    let first = first_broken told numbers d files each rise (damaged d refl) is in
    let head = head_among files listed.numbers heads first.0 listed.spelled ((listed.are.all first.0).1 first.1.there) in
    spelled_whole files first.0 head.0 d head.1 first.1.broken

-- one commit is the first that is broken
one_first : (files : Files) (s t : ℕ) (a b : Damaged) → IsFirstBroken files s a → IsFirstBroken files t b → s ≡ t
one_first files s t a b p q = elim (cases_lt s t) [
  | inl lt ↦ let head = q.before s lt p.there in spelled_whole files s head.0 a head.1 p.broken
  | inr ge ↦ elim (cases_lt t s) [
    | inl lt ↦ let head = p.before t lt q.there in spelled_whole files t head.0 b head.1 q.broken
    | inr le ↦ omega (arith, ge, le)
  ]
]

-- the first broken commit file is told
pub list_broken : (told : Option Files) (numbers : List ℕ) (r : Result Bytes ListFault) → Numbers told numbers → AllPairs ◌<◌ numbers
    → ((files : Files) → told ≡ Some files → IfOk r (IsList files))
    → ((d : Damaged) → r ≡ Err (listing.Damaged d) → BreaksAmong told numbers d)
    → (files : Files) (s : ℕ) (damaged : Damaged) → told ≡ Some files → IsFirstBroken files s damaged
    → IsErrAnd r (λ fault. (fault ≡ listing.Damaged damaged) ⊎ IsOutside fault)
list_broken told numbers (Ok x) listed rise read damaged files s d is first =
    let found = read files is in
    let head = head_among files found.1.numbers found.0 s found.1.spelled ((found.1.are.all s).1 first.there) in
    spelled_whole files s head.0 d head.1 first.broken
list_broken told numbers (Err listing.Store) listed rise read damaged files s d is first = inr (inl refl)
list_broken told numbers (Err listing.NoMemory) listed rise read damaged files s d is first = inr (inr refl)
list_broken told numbers (Err (listing.Damaged e)) listed rise read damaged files s d is first =
    let other = first_broken told numbers e files listed rise (damaged e refl) is in
    let same : s ≡ other.0 = one_first files s other.0 d e first other.1 in
    let at_s : head_from files s ≡ Err e = subst (λ (n : ℕ). head_from files n ≡ Err e) (sym same) other.1.broken in
    let at_d : head_from files s ≡ Err d = first.broken in
    inl cc
