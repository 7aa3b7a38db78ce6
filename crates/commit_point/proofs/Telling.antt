-- What a list of the commits tells before one of them is read.
use Rattle.std.proofs.Common.{◌≡◌, ℕ, Bool, true, false, not, List, Option, Some, None, Result, Ok, Err, refl, sym, ap, subst, ◌∙◌, inl, inr}
use Rattle.std.specs.Prelude.{◌↔◌, IfOk, IfErr, IsSome, IsTrue}
use Rattle.ix_base.specs.declared.file_name.FileName.TheVariants.{Commit}
use Rattle.ix_outside.specs.Files.{Files, Was, Reads}
use Rattle.ix_base.specs.declared.damaged.Damaged.{Damaged}
use Rattle.commit_point.specs.declared.fault.OpenFault.{OpenFault}
use Rattle.commit_point.specs.declared.fault.OpenFault.TheVariants as open_faults
use Rattle.commit_point.specs.declared.heads.Head.{Head}
use Rattle.commit_point.specs.Spelling.{commit_file}
use Rattle.commit_point.specs.Fits.{HeadFits}
use Rattle.commit_point.specs.Holds.{HasHead}
use Rattle.commit_point.proofs.Laws.{one_head}
use Rattle.commit_point.specs.Loading.{IsBroken, IsOutside, TellsNone}
use Rattle.ix_base.specs.FileReading.{of_file}
use Rattle.commit_point.specs.Reading.{head_in, head_from}
use Rattle.commit_point.proofs.SegmentLaws.{head_reads}
use Rattle.commit_point.proofs.Segments.{Seen, sees, some_files}

abbrev Tells : Option Files → ℕ → Bool → Type 0
Tells told s listed = (files : Files) → told ≡ Some files → (IsTrue listed ↔ IsSome (files (Commit s)))

none_or : (o : Option (List ℕ)) → (IsSome o → ⊥) → o ≡ None
none_or None h = refl
none_or (Some x) h = absurd (h refl)

pub not_there : (told : Option Files) (s : ℕ) (listed : Bool) → not listed ≡ true → Tells told s listed → (files : Files) → told ≡ Some files → files (Commit s) ≡ None
not_there told s true no_ tells files is = absurd cc
not_there told s false no_ tells files is = none_or (files (Commit s)) (λ some. let t : false ≡ true = (tells files is).1 some in cc)

pub is_there : {A : Type 0} (told : Option Files) (s : ℕ) (listed : Bool) → not listed ≡ false → Tells told s listed → (files : Files) → told ≡ Some files → files (Commit s) ≡ None → A
is_there told s false yes_ tells files is none = absurd cc
is_there told s true yes_ tells files is none =
    let some : IsSome (files (Commit s)) = (tells files is).0 refl in
    let t : IsSome {T = List ℕ} None = subst IsSome none some in
    absurd cc

-- ---- what is said of a store without the commit

pub none_said : {T : Type 0} (told : Option Files) (s : ℕ) (listed : Bool) → not listed ≡ true → Tells told s listed → TellsNone {T = T} told s (Err (open_faults.NoSuch s))
none_said told s listed lacks tells = record { no_such = λ other e. (cc, not_there told s listed lacks tells); absent = λ files is none. inl refl }

pub there_said : {T : Type 0} (told : Option Files) (s : ℕ) (listed : Bool) (r : Result T OpenFault) → not listed ≡ false → Tells told s listed → ((other : ℕ) → r ≡ Err (open_faults.NoSuch other) → ⊥)
    → TellsNone told s r
there_said told s listed r has tells never = record { no_such = λ other e. absurd (never other e); absent = λ files is none. is_there told s listed has tells files is none }

-- ---- the commit file alone

pub head_is_found : (told next_told : Option Files) (s : ℕ) (r : Result Head OpenFault) → next_told ≡ told
    → IfOk r (λ head. Reads next_told (Commit s) (Some (commit_file head)) × (head.number ≡ s) × HeadFits head) → IfOk r (λ head. (files : Files) × Was told files × HasHead files s head)
head_is_found told next_told s (Err e) same found = tt
head_is_found told next_told s (Ok head) same found =
    let first = some_files told in
    let see : Seen told (Commit s) (Some (commit_file head)) first.0 = sees told (Commit s) (Some (commit_file head)) first.0 first.1 (subst (λ (o : Option Files). Reads o (Commit s) (Some (commit_file head))) same found.0) in
    (see.files, see.was, record { file = see.there; number = found.1; fits = found.2 })

pub head_only_it : (told : Option Files) (s : ℕ) (r : Result Head OpenFault) → IfOk r (λ head. (files : Files) × Was told files × HasHead files s head)
    → (files : Files) (head : Head) → told ≡ Some files → HasHead files s head → IfOk r (λ read. read ≡ head)
head_only_it told s (Err e) found files head is h = tt
head_only_it told s (Ok read) found files head is h =
    let same : files ≡ found.0 = subst (λ (o : Option Files). Was o found.0) is found.1 in
    one_head files s read head (subst (λ (f : Files). HasHead f s read) (sym same) found.2) h

pub head_is_broken : (told next_told : Option Files) (s : ℕ) (d : Damaged) → next_told ≡ told → IsBroken next_told (Commit s) (head_in s) d → (files : Files) × Was told files × (head_from files s ≡ Err d)
unfolding head_from
head_is_broken told next_told s d same broken =
    let first = some_files told in
    let see : Seen told (Commit s) broken.found first.0 = sees told (Commit s) broken.found first.0 first.1 (subst (λ (o : Option Files). Reads o (Commit s) broken.found) same broken.seen) in
    (see.files, see.was, ap (of_file (Commit s) (head_in s)) see.there ∙ broken.broken)

pub head_whole : (told : Option Files) (s : ℕ) (r : Result Head OpenFault) → ((d : Damaged) → r ≡ Err (open_faults.Damaged d) → (files : Files) × Was told files × (head_from files s ≡ Err d)) → ((other : ℕ) → r ≡ Err (open_faults.NoSuch other) → ⊥)
    → (files : Files) (head : Head) → told ≡ Some files → HasHead files s head → IfErr r IsOutside
head_whole told s (Ok x) damaged listed files head is h = tt
head_whole told s (Err open_faults.Store) damaged listed files head is h = inl refl
head_whole told s (Err open_faults.NoMemory) damaged listed files head is h = inr refl
head_whole told s (Err (open_faults.NoSuch other)) damaged listed files head is h = absurd (listed other refl)
head_whole told s (Err (open_faults.Damaged d)) damaged listed files head is h =
    let at = damaged d refl in
    let same : files ≡ at.0 = subst (λ (o : Option Files). Was o at.0) is at.1 in
    let broken : head_from files s ≡ Err d = subst (λ (f : Files). head_from f s ≡ Err d) (sym same) at.2 in
    let read : head_from files s ≡ Ok head = head_reads files s head h.file h.number h.fits in
    absurd cc
