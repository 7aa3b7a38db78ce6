-- What making a commit comes to, by the steps that it took.
use Rattle.std.proofs.Common.{◌≡◌, ℕ, List, [], ◌∷◌, ◌++◌, Bool, true, false, Option, Some, None, refl, sym, ap, subst, ◌∙◌, inl}
use Rattle.std.specs.Prelude.{◌↔◌, IsSome, is_some, IsTrue}
use Rattle.std.specs.List.{AllByRecursion}
use Rattle.ix_base.specs.declared.file_name.FileName.{FileName}
use Rattle.ix_base.specs.declared.file_name.FileName.TheVariants.{Commit, Pending}
use Rattle.ix_outside.specs.Files.{Files, Changes}
use Rattle.ix_outside.specs.Images.{IsDurable, Follows, Reaches}
use Rattle.ix_outside.specs.Disk.{Disk, Told, Stops, taken, files, told_files, with_at}
use Rattle.ix_outside.proofs.DiskLaws.{taken_then, stops_done, told_onto, told_same}
use Rattle.ix_outside.specs.Crash.{IsImage, MayHold}
use Rattle.ix_outside.proofs.CrashLaws.{IsRead, images_follow, reads_follow, with_at-same, moved-to}
use Rattle.ix_outside.specs.Calls.{LeavesOnly}
use Rattle.ix_outside.proofs.CallLaws.{leaves_none, leaves_steps}
use Rattle.ix_outside.specs.declared.step.Step.{Step}
use Rattle.ix_outside.specs.declared.step.Step.TheVariants.{Wrote, Synced, Renamed}
use Rattle.ix_outside.specs.declared.store.StoreFault.TheVariants.{NoMemory}
use Rattle.segment_core.specs.LiveRows.{Lived}
use Rattle.commit_point.specs.declared.written.Written.{Written}
use Rattle.commit_point.specs.declared.fault.CommitRefused.{CommitRefused}
use Rattle.commit_point.specs.Publishing.{File, puts, puts_all, publishes, AreThere, MayPublish, CanPublish, Refuses}
use Rattle.commit_point.proofs.PublishLaws.{publish_stops, publish_early, image_of_publish, reads_of_publish, reads_of_stop}
use Rattle.commit_point.specs.Spelling.{commit_file}
use Rattle.commit_point.specs.Holds.{Pairs}
use Rattle.commit_point.specs.Writing.{Commits, MayCommit, SameElsewhere, IsOldId, commit_steps, commit_files, new_head}
use Rattle.commit_point.proofs.Made.{AreNew, made_of, may_of}
use Rattle.commit_point.proofs.Names.{can_publish, elsewhere_of}

-- ---- what the call promises, by the steps that it took

-- the steps were all taken
abbrev pub Did : ℕ → ℕ → Pairs → List Lived → List (Option Written) → Option Disk → Option Disk → Type 0
Did s next pairs gs ws = Told (λ old now. now ≡ taken (commit_steps s next pairs gs ws) old)

-- the first few of the steps were taken
abbrev pub Stopped : ℕ → ℕ → Pairs → List Lived → List (Option Written) → Option Disk → Option Disk → Type 0
Stopped s next pairs gs ws = Told (λ old now. Stops (commit_steps s next pairs gs ws) old now)

-- what was published is the list of the files and the commit file
pub did_at : (s next : ℕ) (pairs : Pairs) (gs : List Lived) (ws : List (Option Written)) (list : List File) (bytes : List ℕ) (a b : Option Disk) → list ≡ commit_files s gs ws → bytes ≡ commit_file (new_head s next pairs gs ws)
    → Told (λ old now. now ≡ taken (publishes list (Pending s) (Commit s) bytes) old) a b → Did s next pairs gs ws a b
did_at s next pairs gs ws list bytes a b is same did =
    subst (λ (xs : List File). Told (λ old now. now ≡ taken (publishes xs (Pending s) (Commit s) (commit_file (new_head s next pairs gs ws))) old) a b) is
    (subst (λ (x : List ℕ). Told (λ old now. now ≡ taken (publishes list (Pending s) (Commit s) x) old) a b) same did)

pub stopped_at : (s next : ℕ) (pairs : Pairs) (gs : List Lived) (ws : List (Option Written)) (list : List File) (bytes : List ℕ) (a b : Option Disk) → list ≡ commit_files s gs ws → bytes ≡ commit_file (new_head s next pairs gs ws)
    → Told (λ old now. Stops (publishes list (Pending s) (Commit s) bytes) old now) a b → Stopped s next pairs gs ws a b
stopped_at s next pairs gs ws list bytes a b is same stopped =
    subst (λ (xs : List File). Told (λ old now. Stops (publishes xs (Pending s) (Commit s) (commit_file (new_head s next pairs gs ws))) old now) a b) is
    (subst (λ (x : List ℕ). Told (λ old now. Stops (publishes list (Pending s) (Commit s) x) old now) a b) same stopped)

pub did_stop : (s next : ℕ) (pairs : Pairs) (gs : List Lived) (ws : List (Option Written)) (a b : Option Disk) → Did s next pairs gs ws a b → Stopped s next pairs gs ws a b
did_stop s next pairs gs ws a b did = told_onto _ _ a b (λ x y is. stops_done (commit_steps s next pairs gs ws) x y is) did

pub makes : (s next : ℕ) (pairs : Pairs) (gs : List Lived) (ws : List (Option Written)) (a b : Option Disk) → AreNew s next pairs gs ws → Did s next pairs gs ws a b → Changes (Commits s next pairs gs ws) (told_files a) (told_files b)
makes s next pairs gs ws None b new did = tt
makes s next pairs gs ws (Some x) None new did = absurd did
makes s next pairs gs ws (Some x) (Some y) new did = made_of s next pairs gs ws (files x) (files y) new (reads_of_publish _ _ _ _ x y (can_publish s next gs ws new.can.ids) did)

pub leaves_others : (s next : ℕ) (pairs : Pairs) (gs : List Lived) (ws : List (Option Written)) (a b : Option Disk) → CanPublish (commit_files s gs ws) (Pending s) (Commit s) → Stopped s next pairs gs ws a b → Changes (SameElsewhere s (IsOldId gs ws)) (told_files a) (told_files b)
leaves_others s next pairs gs ws None b can stopped = tt
leaves_others s next pairs gs ws (Some x) None can stopped = absurd stopped
leaves_others s next pairs gs ws (Some x) (Some y) can stopped =
    elsewhere_of s gs ws (files x) (files y) (reads_of_stop (commit_files s gs ws) (Pending s) (Commit s) (commit_file (new_head s next pairs gs ws)) x y can stopped).elsewhere

pub images_have : (s next : ℕ) (pairs : Pairs) (gs : List Lived) (ws : List (Option Written)) (a b : Option Disk) → AreNew s next pairs gs ws → Did s next pairs gs ws a b → Follows (Commits s next pairs gs ws) (MayHold a) (MayHold b)
images_have s next pairs gs ws a None new did c image = absurd image
images_have s next pairs gs ws None (Some y) new did c image = absurd did
images_have s next pairs gs ws (Some x) (Some y) new did c image =
    let found = image_of_publish _ _ _ _ x y (can_publish s next gs ws new.can.ids) did c image in
    (found.0, found.1, made_of s next pairs gs ws found.0 c new found.2)

-- what is seen of the images wherever the call stopped
stopped_image : (s next : ℕ) (pairs : Pairs) (gs : List Lived) (ws : List (Option Written)) (x y : Disk) → CanPublish (commit_files s gs ws) (Pending s) (Commit s) → Stops (commit_steps s next pairs gs ws) x y → (c : Files) → IsImage y c
    → (d : Files) × IsImage x d × MayPublish (commit_files s gs ws) (Pending s) (Commit s) (commit_file (new_head s next pairs gs ws)) d c
stopped_image s next pairs gs ws x y can stops c image = publish_stops IsImage images_follow (commit_files s gs ws) (Pending s) (Commit s) (commit_file (new_head s next pairs gs ws)) x y can stops c image

pub images_elsewhere : (s next : ℕ) (pairs : Pairs) (gs : List Lived) (ws : List (Option Written)) (a b : Option Disk) → CanPublish (commit_files s gs ws) (Pending s) (Commit s) → Stopped s next pairs gs ws a b → Follows (SameElsewhere s (IsOldId gs ws)) (MayHold a) (MayHold b)
images_elsewhere s next pairs gs ws a None can stopped c image = absurd image
images_elsewhere s next pairs gs ws None (Some y) can stopped c image = absurd stopped
images_elsewhere s next pairs gs ws (Some x) (Some y) can stopped c image =
    let found = stopped_image s next pairs gs ws x y can stopped c image in
    (found.0, found.1, elsewhere_of s gs ws found.0 c found.2.elsewhere)

pub crash_leaves : (s next : ℕ) (pairs : Pairs) (gs : List Lived) (ws : List (Option Written)) (a b : Option Disk) → AreNew s next pairs gs ws → Stopped s next pairs gs ws a b → LeavesOnly a b (Reaches (MayCommit s next pairs gs ws) (MayHold a))
crash_leaves s next pairs gs ws a b new stopped =
    leaves_steps (commit_steps s next pairs gs ws) a b (Reaches (MayCommit s next pairs gs ws) (MayHold a)) stopped
    (λ old at c is stops image.
    let found = stopped_image s next pairs gs ws old at (can_publish s next gs ws new.can.ids) stops c image in
    (found.0, subst (λ (o : Option Disk). MayHold o found.0) (sym is) found.1, may_of s next pairs gs ws found.0 c new found.2))

stops_nowhere : (steps : List Step) (x : Disk) → Stops steps x x
stops_nowhere [] x = refl
stops_nowhere (step ∷ steps) x = inl (inl refl)

-- nothing was called
pub stopped_first : (s next : ℕ) (pairs : Pairs) (gs : List Lived) (ws : List (Option Written)) (a : Option Disk) → Stopped s next pairs gs ws a a
stopped_first s next pairs gs ws a = told_same _ a (λ x. stops_nowhere (commit_steps s next pairs gs ws) x)

-- nothing was called, so a crash leaves what it might have left
pub crash_before : (s next : ℕ) (pairs : Pairs) (gs : List Lived) (ws : List (Option Written)) (a : Option Disk) → LeavesOnly a a (Reaches (MayCommit s next pairs gs ws) (MayHold a))
crash_before s next pairs gs ws a = leaves_none a (Reaches (MayCommit s next pairs gs ws) (MayHold a)) (λ c image. (c, image, record { elsewhere = λ name not. refl; whole = inl refl }))

durable_at : (name : FileName) (bytes : Option (List ℕ)) (y : Disk) → ((c : Files) → IsImage y c → c name ≡ bytes) → files y name ≡ bytes → IsDurable name (MayHold (Some y)) (told_files (Some y))
durable_at name bytes y each read = λ c image. each c image ∙ sym read

pub durable_commit : (s next : ℕ) (pairs : Pairs) (gs : List Lived) (ws : List (Option Written)) (a b : Option Disk) → CanPublish (commit_files s gs ws) (Pending s) (Commit s) → Did s next pairs gs ws a b → IsDurable (Commit s) (MayHold b) (told_files b)
durable_commit s next pairs gs ws a None can did = tt
durable_commit s next pairs gs ws None (Some y) can did = absurd did
durable_commit s next pairs gs ws (Some x) (Some y) can did =
    durable_at (Commit s) (Some (commit_file (new_head s next pairs gs ws))) y (λ c image. (image_of_publish _ _ _ _ x y can did c image).2.whole.last)
    (reads_of_publish _ _ _ _ x y can did).whole.last

-- files that stand in each image, and as reads give them
all_durable : (list : List File) (y : Disk) → ((c : Files) → IsImage y c → AreThere list c) → AreThere list (files y) → AllByRecursion (λ (file : File). IsDurable file.0 (MayHold (Some y)) (told_files (Some y))) list
all_durable [] y each read = tt
all_durable (f ∷ fs) y each read = (durable_at f.0 (Some f.1) y (λ c image. (each c image).0) read.0, all_durable fs y (λ c image. (each c image).1) read.1)

not_told : (list : List File) → AllByRecursion (λ (file : File). IsDurable file.0 (MayHold None) (told_files None)) list
not_told [] = tt
not_told (f ∷ fs) = (tt, not_told fs)

pub durable_files : (s next : ℕ) (pairs : Pairs) (gs : List Lived) (ws : List (Option Written)) (a b : Option Disk) → CanPublish (commit_files s gs ws) (Pending s) (Commit s) → Did s next pairs gs ws a b
    → AllByRecursion (λ (file : File). IsDurable file.0 (MayHold b) (told_files b)) (commit_files s gs ws)
durable_files s next pairs gs ws a None can did = not_told (commit_files s gs ws)
durable_files s next pairs gs ws None (Some y) can did = absurd did
durable_files s next pairs gs ws (Some x) (Some y) can did =
    all_durable (commit_files s gs ws) y (λ c image. (image_of_publish _ _ _ _ x y can did c image).2.whole.there) (reads_of_publish _ _ _ _ x y can did).whole.there

-- ---- whether the commit is there after memory ran out

-- the steps before the rename
abbrev before_rename : ℕ → ℕ → Pairs → List Lived → List (Option Written) → List Step
before_rename s next pairs gs ws = puts_all (commit_files s gs ws) ++ puts (Pending s) (commit_file (new_head s next pairs gs ws))

renamed_there : (s next : ℕ) (pairs : Pairs) (gs : List Lived) (ws : List (Option Written)) (x y : Disk) → y ≡ taken (before_rename s next pairs gs ws ++ Renamed (Pending s) (Commit s) ∷ []) x → files y (Commit s) ≡ Some (commit_file (new_head s next pairs gs ws))
renamed_there s next pairs gs ws x y is =
    let split : taken (before_rename s next pairs gs ws ++ Renamed (Pending s) (Commit s) ∷ []) x ≡ Renamed (Pending s) (Commit s) ∷ taken (before_rename s next pairs gs ws) x = taken_then (before_rename s next pairs gs ws) (Renamed (Pending s) (Commit s) ∷ []) x in
    let put : taken (before_rename s next pairs gs ws) x ≡ Synced (Pending s) ∷ Wrote (Pending s) (commit_file (new_head s next pairs gs ws)) ∷ taken (puts_all (commit_files s gs ws)) x = taken_then (puts_all (commit_files s gs ws)) (puts (Pending s) (commit_file (new_head s next pairs gs ws))) x in
    ap (λ (d : Disk). files d (Commit s)) (is ∙ split ∙ ap (λ (d : Disk). Renamed (Pending s) (Commit s) ∷ d) put)
    ∙ moved-to (Pending s) (Commit s) None (with_at (Pending s) (Some (commit_file (new_head s next pairs gs ws))) (files (taken (puts_all (commit_files s gs ws)) x))) (λ e. cc)
    ∙ with_at-same (Pending s) (Some (commit_file (new_head s next pairs gs ws))) (files (taken (puts_all (commit_files s gs ws)) x))

stopped_before : (s next : ℕ) (pairs : Pairs) (gs : List Lived) (ws : List (Option Written)) (x y : Disk) → CanPublish (commit_files s gs ws) (Pending s) (Commit s) → Stops (before_rename s next pairs gs ws) x y → files y (Commit s) ≡ files x (Commit s)
stopped_before s next pairs gs ws x y can stops =
    let found = publish_early IsRead reads_follow (commit_files s gs ws) (Pending s) (Commit s) (commit_file (new_head s next pairs gs ws)) x y can stops (files y) refl in
    found.2.last ∙ ap (λ (d : Files). d (Commit s)) found.1

-- the commit is there exactly where the rename was done
abbrev pub TellsRename : ℕ → Option Disk → Option Disk → CommitRefused → Type 0
TellsRename s a b refused = (old : Files) (now : Files) → told_files a ≡ Some old → old (Commit s) ≡ None → told_files b ≡ Some now → refused.fault ≡ NoMemory → (IsTrue refused.renamed ↔ IsSome (now (Commit s)))

is_there : (f g : Files) (name : FileName) (bytes : List ℕ) → Some f ≡ Some g → f name ≡ Some bytes → IsSome (g name)
is_there f g name bytes same there = let is : f ≡ g = cc in rw (← is, there) refl

not_there : (f g : Files) (name : FileName) → Some f ≡ Some g → f name ≡ None → IsSome (g name) → ⊥
not_there f g name same none there = let is : f ≡ g = cc in differ (sym (ap (λ (h : Files). is_some (h name)) (sym is) ∙ ap is_some none) ∙ there)
  where
    differ : false ≡ true → ⊥
    differ e = cc

pub tells_rename : (s next : ℕ) (pairs : Pairs) (gs : List Lived) (ws : List (Option Written)) (a b : Option Disk) (refused : CommitRefused) → CanPublish (commit_files s gs ws) (Pending s) (Commit s)
    → Told (λ old now. Refuses (before_rename s next pairs gs ws) (Renamed (Pending s) (Commit s)) refused.fault refused.renamed old now) a b → TellsRename s a b refused
tells_rename s next pairs gs ws None b refused can refuses old now told absent told_now no_memory = absurd cc
tells_rename s next pairs gs ws (Some x) None refused can refuses old now told absent told_now no_memory = absurd refuses
tells_rename s next pairs gs ws (Some x) (Some y) refused can refuses old now told absent told_now no_memory = (
  (λ was. is_there (files y) now (Commit s) (commit_file (new_head s next pairs gs ws)) told_now (renamed_there s next pairs gs ws x y (refuses.done was))),
  (λ there. by_flag refused.renamed refl there),
)
  where
    none : files x (Commit s) ≡ None
    none = let is : files x ≡ old = cc in ap (λ (f : Files). f (Commit s)) is ∙ absent

    by_flag : (r : Bool) → refused.renamed ≡ r → IsSome (now (Commit s)) → refused.renamed ≡ true
    by_flag true is there = is
    by_flag false is there = absurd (not_there (files y) now (Commit s) told_now (stopped_before s next pairs gs ws x y can (refuses.not_done is no_memory) ∙ none) there)

-- what was refused is the list of the files and the commit file
pub refused_at : (s next : ℕ) (pairs : Pairs) (gs : List Lived) (ws : List (Option Written)) (list : List File) (bytes : List ℕ) (a b : Option Disk) (refused : CommitRefused) → list ≡ commit_files s gs ws → bytes ≡ commit_file (new_head s next pairs gs ws)
    → Told (λ old now. Refuses (puts_all list ++ puts (Pending s) bytes) (Renamed (Pending s) (Commit s)) refused.fault refused.renamed old now) a b
    → Told (λ old now. Refuses (before_rename s next pairs gs ws) (Renamed (Pending s) (Commit s)) refused.fault refused.renamed old now) a b
refused_at s next pairs gs ws list bytes a b refused is same refuses =
    subst (λ (xs : List File). Told (λ old now. Refuses (puts_all xs ++ puts (Pending s) (commit_file (new_head s next pairs gs ws))) (Renamed (Pending s) (Commit s)) refused.fault refused.renamed old now) a b) is
    (subst (λ (x : List ℕ). Told (λ old now. Refuses (puts_all list ++ puts (Pending s) x) (Renamed (Pending s) (Commit s)) refused.fault refused.renamed old now) a b) same refuses)
