-- Files that are written and synced, and then named by one rename: there whole, or not at all.
use Rattle.std.specs.Prelude.{◌≡◌, ◌≢◌, ◌⊎◌, ℕ, List, [], ◌∷◌, ◌++◌, Some, None, true, false, refl}
use Rattle.std.proofs.Common.{inl, inr, subst, sym, ap, ◌∙◌, append_assoc}
use Rattle.std.specs.List.{AllByRecursion}
use Rattle.ix_base.specs.declared.file_name.FileName.{FileName}
use Rattle.ix_outside.specs.Files.{Files, SameBut}
use Rattle.ix_outside.specs.Images.{MayHaveRenamed}
use Rattle.ix_outside.specs.declared.step.Step.{Step}
use Rattle.ix_outside.specs.declared.step.Step.TheVariants.{Wrote, Synced, Renamed, Settled, Spoilt, HalfRenamed}
use Rattle.ix_outside.specs.Disk.{Disk, files, is_unsynced, taken, Stops}
use Rattle.ix_outside.specs.Crash.{IsImage, MayLeave}
use Rattle.ix_outside.proofs.DiskLaws.{taken_then}
use Rattle.ix_outside.proofs.CrashLaws.{FollowsSteps, IsRead, images_follow, reads_follow, left_by_stops, with_at-same, moved-to, moved-from}
use Rattle.commit_point.specs.Publishing.{File, puts, puts_all, writes_all, syncs_all, publishes, IsNoneOf, AreApart, AreThere, Adds, Touches, SameBesides, Publishes, MayPublish, CanPublish}

-- ---- one file

-- the file was written, or failed to be, or was synced
put_stops : (Sees : Disk → Files → Type 0) → FollowsSteps Sees → (name : FileName) (bytes : List ℕ) (rest : List Step) (old at : Disk) → Stops (puts name bytes ++ rest) old at
    → ((c : Files) → Sees at c → (d : Files) × Sees old d × SameBut name d c) ⊎ Stops rest (taken (puts name bytes) old) at
put_stops Sees follows name bytes rest old at (inl (inl same)) = inl (λ c sees. (c, subst (λ (x : Disk). Sees x c) same sees, λ other apart. refl))
put_stops Sees follows name bytes rest old at (inl (inr part)) =
    inl (λ c sees. follows (Spoilt name part.1.0) old c (subst (λ (x : Disk). Sees x c) (part.2 ∙ ap (λ (p : Step). p ∷ old) part.1.1) sees))
put_stops Sees follows name bytes rest old at (inr (inl (inl same))) = inl (λ c sees. follows (Wrote name bytes) old c (subst (λ (x : Disk). Sees x c) same sees))
put_stops Sees follows name bytes rest old at (inr (inl (inr part))) =
    inl (λ c sees.
    let one = follows (Spoilt name part.1.0) (Wrote name bytes ∷ old) c (subst (λ (x : Disk). Sees x c) (part.2 ∙ ap (λ (p : Step). p ∷ Wrote name bytes ∷ old) part.1.1) sees) in
    let two = follows (Wrote name bytes) old one.0 one.1 in
    (two.0, two.1, λ other apart. one.2 other apart ∙ two.2 other apart))
put_stops Sees follows name bytes rest old at (inr (inr later)) = inr later

-- the file was written and synced
put_done : (Sees : Disk → Files → Type 0) → FollowsSteps Sees → (name : FileName) (bytes : List ℕ) (old : Disk) (c : Files) → Sees (taken (puts name bytes) old) c
    → (d : Files) × Sees old d × SameBut name d c × (c name ≡ Some bytes)
put_done Sees follows name bytes old c sees =
    let one = follows (Synced name) (Wrote name bytes ∷ old) c sees in
    let two = follows (Wrote name bytes) old one.0 one.1 in
    (two.0, two.1, λ other apart. one.2.others other apart ∙ two.2 other apart, one.2.there ∙ with_at-same name (Some bytes) (files old))

-- ---- several files

apart_sym : (a b : FileName) → a ≢ b → b ≢ a
apart_sym a b apart e = apart (sym e)

-- what is seen is as before, but those of the list
abbrev pub OnlyTouches : (Disk → Files → Type 0) → List File → Disk → Disk → Type 0
OnlyTouches Sees list old at = (c : Files) → Sees at c → (d : Files) × Sees old d × Touches list d c

-- the files of the list are as reads of this disk give them
abbrev AreAs : List File → Disk → Files → Type 0
AreAs list disk c = AllByRecursion (λ (file : File). c file.0 ≡ files disk file.0) list

-- all were written
writes_done : (Sees : Disk → Files → Type 0) → FollowsSteps Sees → (list : List File) (old : Disk) → OnlyTouches Sees list old (taken (writes_all list) old)
writes_done Sees follows [] old c sees = (c, sees, λ name none. refl)
writes_done Sees follows (f ∷ fs) old c sees =
    let rest = writes_done Sees follows fs (Wrote f.0 f.1 ∷ old) c sees in
    let one = follows (Wrote f.0 f.1) old rest.0 rest.1 in
    (one.0, one.1, λ name none. rest.2 name none.1 ∙ one.2 name (apart_sym f.0 name none.0))

-- reads then give their bytes
written_there : (list : List File) (old : Disk) → AreApart list → AreThere list (files (taken (writes_all list) old))
written_there [] old apart = tt
written_there (f ∷ fs) old apart =
    let rest = writes_done IsRead reads_follow fs (Wrote f.0 f.1 ∷ old) (files (taken (writes_all fs) (Wrote f.0 f.1 ∷ old))) refl in
    let same : rest.0 f.0 ≡ Some f.1 = ap (λ (x : Files). x f.0) rest.1 ∙ with_at-same f.0 (Some f.1) (files old) in
    (rest.2 f.0 apart.0 ∙ same, written_there fs (Wrote f.0 f.1 ∷ old) apart.1)

-- all were synced
syncs_done : (Sees : Disk → Files → Type 0) → FollowsSteps Sees → (list : List File) (mid : Disk) (c : Files) → AreApart list → Sees (taken (syncs_all list) mid) c
    → (d : Files) × Sees mid d × Touches list d c × AreAs list mid c
syncs_done Sees follows [] mid c apart sees = (c, sees, (λ name none. refl), tt)
syncs_done Sees follows (f ∷ fs) mid c apart sees =
    let rest = syncs_done Sees follows fs (Synced f.0 ∷ mid) c apart.1 sees in
    let one = follows (Synced f.0) mid rest.0 rest.1 in (
      one.0,
      one.1,
      (λ name none. rest.2 name none.1 ∙ one.2.others name (apart_sym f.0 name none.0)),
      (rest.2 f.0 apart.0 ∙ one.2.there, rest.3),
    )

there_as : (list : List File) (mid : Disk) (c : Files) → AreThere list (files mid) → AreAs list mid c → AreThere list c
there_as [] mid c there same = tt
there_as (f ∷ fs) mid c there same = (same.0 ∙ there.0, there_as fs mid c there.1 same.1)

-- all were written and synced
pub puts_done : (Sees : Disk → Files → Type 0) → FollowsSteps Sees → (list : List File) (old : Disk) (c : Files) → AreApart list → Sees (taken (puts_all list) old) c
    → (d : Files) × Sees old d × Adds list d c
puts_done Sees follows list old c apart sees =
    let mid = taken (writes_all list) old in
    let two = syncs_done Sees follows list mid c apart (subst (λ (x : Disk). Sees x c) (taken_then (writes_all list) (syncs_all list) old) sees) in
    let one = writes_done Sees follows list old two.0 two.1 in (
      one.0,
      one.1,
      record {
        there = there_as list mid c (written_there list old apart) two.3;
        others = λ name none. two.2 name none ∙ one.2 name none;
      },
    )

-- a stop among the writes or after them
writes_stop : (Sees : Disk → Files → Type 0) → FollowsSteps Sees → (list : List File) (rest : List Step) (old at : Disk) → Stops (writes_all list ++ rest) old at
    → OnlyTouches Sees list old at ⊎ Stops rest (taken (writes_all list) old) at
writes_stop Sees follows [] rest old at stops = inr stops
writes_stop Sees follows (f ∷ fs) rest old at (inl (inl same)) = inl (λ c sees. (c, subst (λ (x : Disk). Sees x c) same sees, λ name none. refl))
writes_stop Sees follows (f ∷ fs) rest old at (inl (inr part)) =
    inl (λ c sees.
    let one = follows (Spoilt f.0 part.1.0) old c (subst (λ (x : Disk). Sees x c) (part.2 ∙ ap (λ (p : Step). p ∷ old) part.1.1) sees) in
    (one.0, one.1, λ name none. one.2 name (apart_sym f.0 name none.0)))
writes_stop Sees follows (f ∷ fs) rest old at (inr later) = more (writes_stop Sees follows fs rest (Wrote f.0 f.1 ∷ old) at later)
  where
    more : OnlyTouches Sees fs (Wrote f.0 f.1 ∷ old) at ⊎ Stops rest (taken (writes_all fs) (Wrote f.0 f.1 ∷ old)) at
        → OnlyTouches Sees (f ∷ fs) old at ⊎ Stops rest (taken (writes_all fs) (Wrote f.0 f.1 ∷ old)) at
    more (inl among) = inl (λ c sees.
        let two = among c sees in
        let one = follows (Wrote f.0 f.1) old two.0 two.1 in
        (one.0, one.1, λ name none. two.2 name none.1 ∙ one.2 name (apart_sym f.0 name none.0)))
    more (inr after) = inr after

-- a stop among the syncs or after them
syncs_stop : (Sees : Disk → Files → Type 0) → FollowsSteps Sees → (list : List File) (rest : List Step) (old at : Disk) → Stops (syncs_all list ++ rest) old at
    → OnlyTouches Sees list old at ⊎ Stops rest (taken (syncs_all list) old) at
syncs_stop Sees follows [] rest old at stops = inr stops
syncs_stop Sees follows (f ∷ fs) rest old at (inl (inl same)) = inl (λ c sees. (c, subst (λ (x : Disk). Sees x c) same sees, λ name none. refl))
syncs_stop Sees follows (f ∷ fs) rest old at (inl (inr part)) =
    inl (λ c sees.
    let one = follows (Spoilt f.0 part.1.0) old c (subst (λ (x : Disk). Sees x c) (part.2 ∙ ap (λ (p : Step). p ∷ old) part.1.1) sees) in
    (one.0, one.1, λ name none. one.2 name (apart_sym f.0 name none.0)))
syncs_stop Sees follows (f ∷ fs) rest old at (inr later) = more (syncs_stop Sees follows fs rest (Synced f.0 ∷ old) at later)
  where
    more : OnlyTouches Sees fs (Synced f.0 ∷ old) at ⊎ Stops rest (taken (syncs_all fs) (Synced f.0 ∷ old)) at
        → OnlyTouches Sees (f ∷ fs) old at ⊎ Stops rest (taken (syncs_all fs) (Synced f.0 ∷ old)) at
    more (inl among) = inl (λ c sees.
        let two = among c sees in
        let one = follows (Synced f.0) old two.0 two.1 in
        (one.0, one.1, λ name none. two.2 name none.1 ∙ one.2.others name (apart_sym f.0 name none.0)))
    more (inr after) = inr after

-- a stop among them or after them
pub puts_stop : (Sees : Disk → Files → Type 0) → FollowsSteps Sees → (list : List File) (rest : List Step) (old at : Disk) → Stops (puts_all list ++ rest) old at
    → OnlyTouches Sees list old at ⊎ Stops rest (taken (puts_all list) old) at
puts_stop Sees follows list rest old at stops =
    first (writes_stop Sees follows list (syncs_all list ++ rest) old at
    (subst (λ (steps : List Step). Stops steps old at) (append_assoc (writes_all list) (syncs_all list) rest) stops))
  where
    mid : Disk
    mid = taken (writes_all list) old

    second : OnlyTouches Sees list mid at ⊎ Stops rest (taken (syncs_all list) mid) at
        → OnlyTouches Sees list old at ⊎ Stops rest (taken (puts_all list) old) at
    second (inl among) = inl (λ c sees.
        let two = among c sees in
        let one = writes_done Sees follows list old two.0 two.1 in
        (one.0, one.1, λ name none. two.2 name none ∙ one.2 name none))
    second (inr after) = inr (subst (λ (x : Disk). Stops rest x at) (sym (taken_then (writes_all list) (syncs_all list) old)) after)

    first : OnlyTouches Sees list old at ⊎ Stops (syncs_all list ++ rest) mid at
        → OnlyTouches Sees list old at ⊎ Stops rest (taken (puts_all list) old) at
    first (inl among) = inl among
    first (inr later) = second (syncs_stop Sees follows list rest mid at later)

-- ---- the rename

-- files that are there stay, where nothing changes but two others
there_still : (list : List File) (a b : FileName) (old new : Files) → IsNoneOf list a → IsNoneOf list b → ((name : FileName) → name ≢ a → name ≢ b → new name ≡ old name)
    → AreThere list old → AreThere list new
there_still [] a b old new first second same there = tt
there_still (f ∷ fs) a b old new first second same there = (same f.0 first.0 second.0 ∙ there.0, there_still fs a b old new first.1 second.1 same there.1)

-- a stop at the rename or after it
rename_stops : (Sees : Disk → Files → Type 0) → FollowsSteps Sees → (pending final : FileName) (mid at : Disk) → Stops (Renamed pending final ∷ Settled ∷ []) mid at
    → (c : Files) → Sees at c → (e : Files) × Sees mid e × MayHaveRenamed pending final e c
rename_stops Sees follows pending final mid at (inl (inl same)) c sees = (c, subst (λ (x : Disk). Sees x c) same sees, inr refl)
rename_stops Sees follows pending final mid at (inl (inr part)) c sees = which part.1
  where
    which : (part.0 ≡ Renamed pending final) ⊎ (part.0 ≡ HalfRenamed pending final) → (e : Files) × Sees mid e × MayHaveRenamed pending final e c
    which (inl is) = follows (Renamed pending final) mid c (subst (λ (x : Disk). Sees x c) (part.2 ∙ ap (λ (p : Step). p ∷ mid) is) sees)
    which (inr is) = follows (HalfRenamed pending final) mid c (subst (λ (x : Disk). Sees x c) (part.2 ∙ ap (λ (p : Step). p ∷ mid) is) sees)
rename_stops Sees follows pending final mid at (inr (inl (inl same))) c sees = follows (Renamed pending final) mid c (subst (λ (x : Disk). Sees x c) same sees)
rename_stops Sees follows pending final mid at (inr (inl (inr part))) c sees = absurd part.1
rename_stops Sees follows pending final mid at (inr (inr done)) c sees =
    let last = follows Settled (Renamed pending final ∷ mid) c (subst (λ (x : Disk). Sees x c) done sees) in
    let one = follows (Renamed pending final) mid last.0 last.1 in
    (one.0, one.1, subst (λ (x : Files). MayHaveRenamed pending final one.0 x) (sym last.2.same) one.2)

-- ---- all of it

-- What is seen where calls that publish have stopped: the last file is as before, or all is there.
pub publish_stops : (Sees : Disk → Files → Type 0) → FollowsSteps Sees → (list : List File) (pending final : FileName) (bytes : List ℕ) (old at : Disk) → CanPublish list pending final
    → Stops (publishes list pending final bytes) old at → (c : Files) → Sees at c → (d : Files) × Sees old d × MayPublish list pending final bytes d c
publish_stops Sees follows list pending final bytes old at can stops c sees =
    first (puts_stop Sees follows list (puts pending bytes ++ (Renamed pending final ∷ Settled ∷ [])) old at stops)
  where
    third : Stops (Renamed pending final ∷ Settled ∷ []) (taken (puts pending bytes) (taken (puts_all list) old)) at → (d : Files) × Sees old d × MayPublish list pending final bytes d c
    third stops =
        let three = rename_stops Sees follows pending final (taken (puts pending bytes) (taken (puts_all list) old)) at stops c sees in
        let two = put_done Sees follows pending bytes (taken (puts_all list) old) three.0 three.1 in
        let one = puts_done Sees follows list old two.0 can.files two.1 in
        let moved : MayHaveRenamed pending final three.0 c → MayPublish list pending final bytes one.0 c = λ may. elim may [
          | inl renamed ↦ record {
            whole = inr (record {
              last = renamed.there ∙ two.3;
              gone = renamed.gone;
              there = there_still list pending final two.0 c can.pending_none can.final_none (λ name p f. renamed.others name p f ∙ two.2 name p) one.2.there;
            });
            elsewhere = λ name none p f. renamed.others name p f ∙ two.2 name p ∙ one.2.others name none;
          }
          | inr same ↦ record {
            whole = inl (ap (λ (x : Files). x final) same ∙ two.2 final (apart_sym pending final can.differ) ∙ one.2.others final can.final_none);
            elsewhere = λ name none p f. ap (λ (x : Files). x name) same ∙ two.2 name p ∙ one.2.others name none;
          }
        ] in
        (one.0, one.1, moved three.2)

    second : ((x : Files) → Sees at x → (e : Files) × Sees (taken (puts_all list) old) e × SameBut pending e x) ⊎ Stops (Renamed pending final ∷ Settled ∷ []) (taken (puts pending bytes) (taken (puts_all list) old)) at
        → (d : Files) × Sees old d × MayPublish list pending final bytes d c
    second (inl here) =
        let two = here c sees in
        let one = puts_done Sees follows list old two.0 can.files two.1 in (
          one.0,
          one.1,
          record {
            whole = inl (two.2 final (apart_sym pending final can.differ) ∙ one.2.others final can.final_none);
            elsewhere = λ name none p f. two.2 name p ∙ one.2.others name none;
          },
        )
    second (inr later) = third later

    first : OnlyTouches Sees list old at ⊎ Stops (puts pending bytes ++ (Renamed pending final ∷ Settled ∷ [])) (taken (puts_all list) old) at → (d : Files) × Sees old d × MayPublish list pending final bytes d c
    first (inl among) =
        let one = among c sees in
        (one.0, one.1, record { whole = inl (one.2 final can.final_none); elsewhere = λ name none p f. one.2 name none })
    first (inr later) = second (put_stops Sees follows pending bytes (Renamed pending final ∷ Settled ∷ []) (taken (puts_all list) old) at later)

-- What is seen once all was published: all is there.
pub publish_done : (Sees : Disk → Files → Type 0) → FollowsSteps Sees → (list : List File) (pending final : FileName) (bytes : List ℕ) (old new : Disk) → CanPublish list pending final
    → new ≡ taken (publishes list pending final bytes) old → (c : Files) → Sees new c → (d : Files) × Sees old d × Publishes list pending final bytes d c
publish_done Sees follows list pending final bytes old new can is c sees =
    let put = taken (puts pending bytes) (taken (puts_all list) old) in
    let all : new ≡ Settled ∷ Renamed pending final ∷ put = is ∙ taken_then (puts_all list) (puts pending bytes ++ (Renamed pending final ∷ Settled ∷ [])) old in
    let four = follows Settled (Renamed pending final ∷ put) c (subst (λ (x : Disk). Sees x c) all sees) in
    let three = follows (Renamed pending final) put four.0 four.1 in
    let two = put_done Sees follows pending bytes (taken (puts_all list) old) three.0 three.1 in
    let one = puts_done Sees follows list old two.0 can.files two.1 in
    let synced : is_unsynced (Renamed pending final ∷ put) final ≡ false = moved-to pending final false (is_unsynced put) can.differ ∙ with_at-same pending false (is_unsynced (Wrote pending bytes ∷ taken (puts_all list) old)) in
    let last : c final ≡ Some bytes =
    four.2.kept final (λ unsynced. differ (sym synced ∙ unsynced)) ∙ moved-to pending final None (files put) can.differ ∙ with_at-same pending (Some bytes) (files (taken (puts_all list) old)) in
    let settled : is_unsynced (Renamed pending final ∷ put) pending ≡ false = moved-from pending final false (is_unsynced put) can.differ in
    let gone : c pending ≡ None = four.2.kept pending (λ unsynced. differ (sym settled ∙ unsynced)) ∙ moved-from pending final None (files put) can.differ in
    let elsewhere : (name : FileName) → name ≢ pending → name ≢ final → c name ≡ two.0 name = λ name p f. ap (λ (x : Files). x name) four.2.same ∙ renamed_elsewhere three.0 four.0 three.2 name p f ∙ two.2 name p in (
      one.0,
      one.1,
      record {
        whole = record { last = last; gone = gone; there = there_still list pending final two.0 c can.pending_none can.final_none elsewhere one.2.there };
        elsewhere = λ name none p f. elsewhere name p f ∙ one.2.others name none;
      },
    )
  where
    differ : false ≡ true → ⊥
    differ e = cc

    renamed_elsewhere : (d e : Files) → MayHaveRenamed pending final d e → (name : FileName) → name ≢ pending → name ≢ final → e name ≡ d name
    renamed_elsewhere d e (inl renamed) name p f = renamed.others name p f
    renamed_elsewhere d e (inr same) name p f = ap (λ (x : Files). x name) same

-- ---- what a call that publishes promises

-- a crash at some moment of it leaves what one before it might have left, with all of it or with the last file as before
pub crash_of_publish : (list : List File) (pending final : FileName) (bytes : List ℕ) (old new : Disk) → CanPublish list pending final → Stops (publishes list pending final bytes) old new
    → (c : Files) → MayLeave old new c → (d : Files) × IsImage old d × MayPublish list pending final bytes d c
crash_of_publish list pending final bytes old new can stops c left =
    let at = left_by_stops (publishes list pending final bytes) old new c stops left in
    publish_stops IsImage images_follow list pending final bytes old at.0 can at.1 c at.2

-- once it is acknowledged, each image has all of it
pub image_of_publish : (list : List File) (pending final : FileName) (bytes : List ℕ) (old new : Disk) → CanPublish list pending final → new ≡ taken (publishes list pending final bytes) old
    → (c : Files) → IsImage new c → (d : Files) × IsImage old d × Publishes list pending final bytes d c
image_of_publish = publish_done IsImage images_follow

-- reads have all of it once it is done
pub reads_of_publish : (list : List File) (pending final : FileName) (bytes : List ℕ) (old new : Disk) → CanPublish list pending final → new ≡ taken (publishes list pending final bytes) old
    → Publishes list pending final bytes (files old) (files new)
reads_of_publish list pending final bytes old new can is =
    let found = publish_done IsRead reads_follow list pending final bytes old new can is (files new) refl in
    subst (λ (d : Files). Publishes list pending final bytes d (files new)) found.1 found.2

-- after an error reads have all of it, or the last file is as before
pub reads_of_stop : (list : List File) (pending final : FileName) (bytes : List ℕ) (old new : Disk) → CanPublish list pending final → Stops (publishes list pending final bytes) old new
    → MayPublish list pending final bytes (files old) (files new)
reads_of_stop list pending final bytes old new can stops =
    let found = publish_stops IsRead reads_follow list pending final bytes old new can stops (files new) refl in
    subst (λ (d : Files). MayPublish list pending final bytes d (files new)) found.1 found.2

-- ---- before the rename

-- the last file is as before, and every other file but those of the list and the pending one
pub record StaysAway (list : List File) (pending final : FileName) (old new : Files) : Type 0 where
  pub last : new final ≡ old final
  pub elsewhere : SameBesides list pending final old new

-- What is seen where calls have stopped before the rename: it asks nothing of what the files hold.
pub publish_early : (Sees : Disk → Files → Type 0) → FollowsSteps Sees → (list : List File) (pending final : FileName) (bytes : List ℕ) (old at : Disk) → CanPublish list pending final
    → Stops (puts_all list ++ puts pending bytes) old at → (c : Files) → Sees at c → (d : Files) × Sees old d × StaysAway list pending final d c
publish_early Sees follows list pending final bytes old at can stops c sees =
    first (puts_stop Sees follows list (puts pending bytes) old at stops)
  where
    from_mid : (e : Files) → Sees (taken (puts_all list) old) e → SameBut pending e c → (d : Files) × Sees old d × StaysAway list pending final d c
    from_mid e there same =
        let one = puts_done Sees follows list old e can.files there in (
          one.0,
          one.1,
          record {
            last = same final (apart_sym pending final can.differ) ∙ one.2.others final can.final_none;
            elsewhere = λ name none p f. same name p ∙ one.2.others name none;
          },
        )

    second : ((x : Files) → Sees at x → (e : Files) × Sees (taken (puts_all list) old) e × SameBut pending e x) ⊎ Stops [] (taken (puts pending bytes) (taken (puts_all list) old)) at
        → (d : Files) × Sees old d × StaysAway list pending final d c
    second (inl here) = let two = here c sees in from_mid two.0 two.1 two.2
    second (inr done) =
        let two = put_done Sees follows pending bytes (taken (puts_all list) old) c (subst (λ (x : Disk). Sees x c) done sees) in
        from_mid two.0 two.1 two.2

    first : OnlyTouches Sees list old at ⊎ Stops (puts pending bytes) (taken (puts_all list) old) at → (d : Files) × Sees old d × StaysAway list pending final d c
    first (inl among) = let one = among c sees in (one.0, one.1, record { last = one.2 final can.final_none; elsewhere = λ name none p f. one.2 name none })
    first (inr later) = second (put_stops Sees follows pending bytes [] (taken (puts_all list) old) at later)
