-- What holds of a store that was filled and settled, and of the files that a crash leaves.
use Rattle.std.proofs.Common.{◌≡◌, ℕ, ◌+◌, ◌<◌, List, [], ◌∷◌, ◌++◌, length, get_or, take, reverse, ◌≤◌, Bool, true, false, Option, Some, None, refl, sym, ap, subst, ◌∙◌, if◌then◌else◌, Vec}
use Rattle.std.proofs.lemmas.List.{take_more, take_all}
use Rattle.std.proofs.Math.Path.{fun_ext}
use Rattle.std.specs.declared.alloc.Global.{Global}
use Rattle.ix_base.specs.declared.file_name.FileName.{FileName}
use Rattle.ix_outside.specs.Files.{Files}
use Rattle.ix_outside.specs.Disk.{Disk, is_same, with_at, moved, files as files_of}
use Rattle.ix_memory.specs.History.{files_left, leaves_step}
use Rattle.ix_memory.proofs.Looks.{newest}
use Rattle.ix_outside.proofs.CrashLaws.{is_same-true}
use Rattle.ix_memory.proofs.HistoryLaws.{whole_is_read}
use Rattle.ix_memory.specs.Settled.{AreDurable, AllSynced, Fills, no_files, with_pairs, are_made, taken_at, file_made}
use Rattle.ix_memory.specs.declared.outcome.StepsLeft.{StepsLeft}
use Rattle.ix_memory.specs.declared.outcome.StepsLeft.TheVariants.{Every}
use Rattle.ix_memory.specs.declared.outcome.BytesLeft.{BytesLeft}
use Rattle.ix_memory.specs.declared.outcome.BytesLeft.TheVariants.{Whole}
use Rattle.ix_outside.specs.declared.step.Step.{Step}
use Rattle.ix_outside.specs.declared.step.Step.TheVariants.{Wrote, Synced, Renamed, Deleted, Settled, Spoilt, HalfRenamed, HalfDeleted}

differ : false ≡ true → ⊥
differ e = cc

pub durable : (old new : Disk) → new ≡ Settled ∷ old → AllSynced old → AreDurable (files_of new) new
durable old new is synced = subst (λ (disk : Disk). AreDurable (files_of disk) disk) (sym is) (record {
  read = refl;
  nothing_else = λ c image name. image.2.kept name (λ e. differ (sym (synced name) ∙ e));
  synced = synced;
})

one_more : (pairs : List (FileName × Vec ℕ Global)) (pair : FileName × Vec ℕ Global) (files : Files)
    → with_pairs (pairs ++ pair ∷ []) files ≡ with_at pair.0 (Some pair.1.items) (with_pairs pairs files)
one_more [] pair files = refl
one_more (p ∷ pairs) pair files = one_more pairs pair (with_at p.0 (Some p.1.items) files)

pub more_pairs : (pairs : List (FileName × Vec ℕ Global)) (k : ℕ) (pair : FileName × Vec ℕ Global) (files : Files) → k < length pairs → get_or pairs k pair ≡ pair
    → with_pairs (take (k + 1) pairs) files ≡ with_at pair.0 (Some pair.1.items) (with_pairs (take k pairs) files)
more_pairs pairs k pair files lt is =
    ap (λ (ps : List (FileName × Vec ℕ Global)). with_pairs ps files) (take_more pairs k pair lt ∙ ap (λ (p : FileName × Vec ℕ Global). take k pairs ++ p ∷ []) is)
    ∙ one_more (take k pairs) pair files

-- ---- what a crash leaves

pub fills_none : (source : Files) → Fills (λ _. false) source no_files
fills_none source name = refl

-- one file more
fills_at : (name : FileName) (made : FileName → Bool) (source files : Files) → Fills made source files → Fills (with_at name true made) source (with_at name (source name) files)
fills_at name made source files fills other = tell (is_same other name) refl
  where
    tell : (b : Bool) → is_same other name ≡ b → (if b then source name else files other) ≡ (if (if b then true else made other) then source other else None)
    tell true e = ap source (sym (is_same-true other name e))
    tell false e = fills other

pub fills_more : (file : Option FileName) (made : FileName → Bool) (source files : Files) → Fills made source files → Fills (taken_at file (λ _. true) made) source (taken_at file source files)
fills_more None made source files fills = fills
fills_more (Some name) made source files fills = fills_at name made source files fills

not_made : (name other : FileName) (made : FileName → Bool) → with_at name true made other ≡ false → (is_same other name ≡ false) × (made other ≡ false)
not_made name other made e = tell (is_same other name) e
  where
    tell : (b : Bool) → (if b then true else made other) ≡ false → (b ≡ false) × (made other ≡ false)
    tell true e = absurd (differ (sym e))
    tell false e = (refl, e)

none_at : (b : Bool) (x y : Option (List ℕ)) → x ≡ None → y ≡ None → (if b then x else y) ≡ None
none_at true x y one other = one
none_at false x y one other = other

none_by : (b : Bool) (f g : Files) (name : FileName) → f name ≡ None → g name ≡ None → (if b then f else g) name ≡ None
none_by true f g name one other = one
none_by false f g name one other = other

none_synced : (at name : FileName) (f g : Files) → f name ≡ None → g name ≡ None → with_at at (f at) g name ≡ None
none_synced at name f g one other = tell (is_same name at) refl
  where
    tell : (b : Bool) → is_same name at ≡ b → (if b then f at else g name) ≡ None
    tell true e = ap f (sym (is_same-true name at e)) ∙ one
    tell false e = other

none_moved : («from» to name : FileName) (f : Files) → is_same name to ≡ false → f name ≡ None → moved «from» to None f name ≡ None
none_moved «from» to name f apart none =
    none_by (is_same «from» to) f (with_at «from» None (with_at to (f «from») f)) name none
    (none_at (is_same name «from») None (with_at to (f «from») f name) refl (rw apart none))

-- A file that no call made isn't there.
pub unmade : (steps : StepsLeft) (bytes : BytesLeft) (calls : List Step) (name : FileName) → are_made calls name ≡ false → files_left steps bytes calls name ≡ None
unmade steps bytes [] = λ name none. refl
unmade steps bytes (Wrote at written ∷ older) = λ name none.
    let p = not_made at name (are_made older) none in
    rw p.0 (unmade steps bytes older name p.1)
unmade steps bytes (Synced at ∷ older) = λ name none.
    none_synced at name (files_of older) (files_left steps bytes older)
    (sym (ap (λ (f : Files). f name) (whole_is_read older)) ∙ unmade Every Whole older name none) (unmade steps bytes older name none)
unmade steps bytes (Renamed «from» to ∷ older) = λ name none.
    let p = not_made to name (are_made older) none in
    none_by (leaves_step steps (length older)) (moved «from» to None (files_left steps bytes older)) (files_left steps bytes older) name
    (none_moved «from» to name (files_left steps bytes older) p.0 (unmade steps bytes older name p.1)) (unmade steps bytes older name p.1)
unmade steps bytes (Deleted at ∷ older) = λ name none.
    let less = unmade steps bytes older name none in
    none_by (leaves_step steps (length older)) (with_at at None (files_left steps bytes older)) (files_left steps bytes older) name
    (none_at (is_same name at) None (files_left steps bytes older name) refl less) less
unmade steps bytes (Settled ∷ older) = unmade Every bytes older
unmade steps bytes (Spoilt at found ∷ older) = λ name none.
    let p = not_made at name (are_made older) none in
    rw p.0 (unmade steps bytes older name p.1)
unmade steps bytes (HalfRenamed «from» to ∷ older) = unmade steps bytes older
unmade steps bytes (HalfDeleted at ∷ older) = unmade steps bytes older

-- Files that are the outcome's where a call made them are the outcome's files.
pub filled : (steps : StepsLeft) (bytes : BytesLeft) (calls : List Step) (files : Files) → Fills (are_made calls) (files_left steps bytes calls) files → files ≡ files_left steps bytes calls
filled steps bytes calls files fills = fun_ext (λ name. tell name (are_made calls name) refl)
  where
    tell : (name : FileName) (b : Bool) → are_made calls name ≡ b → files name ≡ files_left steps bytes calls name
    tell name true e = fills name ∙ rw e refl
    tell name false e = fills name ∙ (rw e (sym (unmade steps bytes calls name e)))

-- ---- the same along the calls, the oldest first

pub fills_on : (calls history : List Step) (k : ℕ) (call : Step) (steps : StepsLeft) (bytes : BytesLeft) (old new : Files) → k < length calls → get_or calls k call ≡ call → reverse calls ≡ history
    → Fills (are_made (reverse (take k calls))) (files_left steps bytes (reverse calls)) old → new ≡ taken_at (file_made call) (files_left steps bytes history) old
    → Fills (are_made (reverse (take (k + 1) calls))) (files_left steps bytes (reverse calls)) new
fills_on calls history k call steps bytes old new lt here whole fills is =
    let last : reverse (take (k + 1) calls) ≡ call ∷ reverse (take k calls) = newest calls k call lt ∙ ap (λ (x : Step). x ∷ reverse (take k calls)) here in
    let same : taken_at (file_made call) (files_left steps bytes (reverse calls)) old ≡ new =
    ap (λ (h : List Step). taken_at (file_made call) (files_left steps bytes h) old) whole ∙ sym is in
    subst (λ (h : List Step). Fills (are_made h) (files_left steps bytes (reverse calls)) new) (sym last)
    (subst (λ (f : Files). Fills (are_made (call ∷ reverse (take k calls))) (files_left steps bytes (reverse calls)) f) same
    (fills_more (file_made call) (are_made (reverse (take k calls))) (files_left steps bytes (reverse calls)) old fills))

pub filled_all : (calls history : List Step) (k : ℕ) (steps : StepsLeft) (bytes : BytesLeft) (files : Files) → length calls ≤ k → reverse calls ≡ history
    → Fills (are_made (reverse (take k calls))) (files_left steps bytes (reverse calls)) files → files ≡ files_left steps bytes history
filled_all calls history k steps bytes files all whole fills =
    filled steps bytes (reverse calls) files
    (subst (λ (h : List Step). Fills (are_made (reverse h)) (files_left steps bytes (reverse calls)) files) (take_all k calls all) fills)
    ∙ ap (λ (h : List Step). files_left steps bytes h) whole
