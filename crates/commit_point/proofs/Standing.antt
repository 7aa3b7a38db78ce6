-- Making a commit takes steps that make commits, and no step takes a commit that stands its files or bytes.
use Rattle.std.proofs.Common.{◌≡◌, ◌≢◌, ◌⊎◌, ◌∙◌, inl, inr, ℕ, ◌≤◌, List, [], ◌∷◌, ◌++◌, Option, Some, None, refl, sym, ap, subst, arith}
use Rattle.std.specs.List.{AllByRecursion}
use Rattle.ix_base.specs.declared.file_name.FileName.{FileName}
use Rattle.ix_base.specs.declared.file_name.FileName.TheVariants.{Commit, Pending}
use Rattle.ix_outside.specs.Files.{Files, SameBut, Changes, stays}
use Rattle.ix_outside.specs.Images.{MayHaveRenamed}
use Rattle.ix_outside.specs.Disk.{Disk, IsPartOf, Stops, Told, files, taken, told_files}
use Rattle.ix_outside.proofs.DiskLaws.{taken_then, told_onto}
use Rattle.ix_outside.proofs.CrashLaws.{reads_follow}
use Rattle.ix_outside.specs.declared.step.Step.{Step}
use Rattle.ix_outside.specs.declared.step.Step.TheVariants.{Wrote, Synced, Renamed, Settled, Spoilt, HalfRenamed}
use Rattle.segment_core.specs.LiveRows.{Lived}
use Rattle.commit_point.specs.declared.heads.HeadSegment.{HeadSegment}
use Rattle.commit_point.specs.declared.written.Written.{Written}
use Rattle.commit_point.specs.Holds.{Pairs, KeepsCommits, Lists}
use Rattle.commit_point.specs.Publishing.{File, IsNoneOf, puts_all, syncs_all, writes_all}
use Rattle.commit_point.proofs.PublishLaws.{reads_of_stop}
use Rattle.commit_point.specs.Spelling.{commit_file}
use Rattle.commit_point.specs.Steps.{GoesBy, IsNoCommit, KeepsMade, KeepsStanding, MakesCommits, OnlyCommits}
use Rattle.commit_point.proofs.StepLaws.{by_none, by_one, by_then}
use Rattle.commit_point.specs.Writing.{ComesAfter, IsElsewhere, IsOldId, MayCommit, SameElsewhere, commit_files, commit_steps, new_head}
use Rattle.commit_point.proofs.Made.{AreNew, may_of}
use Rattle.commit_point.proofs.Making.{Stopped}
use Rattle.commit_point.proofs.Names.{can_publish, no_commits, none_elsewhere}
use Rattle.commit_point.proofs.Settled.{by_number, none_is_there, was_file}

-- ---- steps that are taken one after another

-- each of the steps is such a one where those before it were taken, and so is each part of it
abbrev AreTaken : (Step → Disk → Type 0) → List Step → Disk → Type 0
AreTaken Is [] old = Unit {0}
AreTaken Is (step ∷ steps) old = Is step old × ((part : Step) → IsPartOf step part → Is part old) × AreTaken Is steps (step ∷ old)

taken_both : (Is : Step → Disk → Type 0) (xs ys : List Step) (old : Disk) → AreTaken Is xs old → AreTaken Is ys (taken xs old)
    → AreTaken Is (xs ++ ys) old
taken_both Is [] ys old first second = second
taken_both Is (x ∷ xs) ys old first second = (first.0, first.1, taken_both Is xs ys (x ∷ old) first.2 second)

stops_by : (Is : Step → Disk → Type 0) (steps : List Step) (old new : Disk) → AreTaken Is steps old → Stops steps old new → GoesBy Is old new
stops_by Is [] old new are same = subst (λ (d : Disk). GoesBy Is old d) (sym same) (by_none Is old)
stops_by Is (step ∷ steps) old new are (inl (inl same)) = subst (λ (d : Disk). GoesBy Is old d) (sym same) (by_none Is old)
stops_by Is (step ∷ steps) old new are (inl (inr part)) = by_one Is part.0 old new part.2 (are.1 part.0 part.1)
stops_by Is (step ∷ steps) old new are (inr later) =
    by_then Is old (step ∷ old) new (by_one Is step old (step ∷ old) refl are.0) (stops_by Is steps (step ∷ old) new are.2 later)

-- ---- what makes commits

abbrev Makes : Step → Disk → Type 0
Makes step older = MakesCommits step

part_makes : (name : FileName) (part : Step) → IsNoCommit name → (found : Option (List ℕ)) × (part ≡ Spoilt name found) → MakesCommits part
part_makes name part none found = subst MakesCommits (sym found.1) none

writes_make : (list : List File) (old : Disk) → AllByRecursion (λ (f : File). IsNoCommit f.0) list → AreTaken Makes (writes_all list) old
writes_make [] old none = tt
writes_make (f ∷ fs) old none = (none.0, (λ part found. part_makes f.0 part none.0 found), writes_make fs (Wrote f.0 f.1 ∷ old) none.1)

syncs_make : (list : List File) (old : Disk) → AllByRecursion (λ (f : File). IsNoCommit f.0) list → AreTaken Makes (syncs_all list) old
syncs_make [] old none = tt
syncs_make (f ∷ fs) old none = (tt, (λ part found. part_makes f.0 part none.0 found), syncs_make fs (Synced f.0 ∷ old) none.1)

puts_make : (list : List File) (old : Disk) → AllByRecursion (λ (f : File). IsNoCommit f.0) list → AreTaken Makes (puts_all list) old
puts_make list old none =
    taken_both Makes (writes_all list) (syncs_all list) old (writes_make list old none)
    (syncs_make list (taken (writes_all list) old) none)

rename_makes : (s : ℕ) (old : Disk) → AreTaken Makes (Renamed (Pending s) (Commit s) ∷ Settled ∷ []) old
rename_makes s old = (refl, (λ part found. by part found), (tt, (λ part none. absurd none), tt))
  where
    by : (part : Step) → (part ≡ Renamed (Pending s) (Commit s)) ⊎ (part ≡ HalfRenamed (Pending s) (Commit s)) → MakesCommits part
    by part (inl is) = subst MakesCommits (sym is) refl
    by part (inr is) = subst MakesCommits (sym is) refl

all_make : (s next : ℕ) (pairs : Pairs) (gs : List Lived) (ws : List (Option Written)) (old : Disk) → AreTaken Makes (commit_steps s next pairs gs ws) old
all_make s next pairs gs ws old =
    let pending : List File = (Pending s, commit_file (new_head s next pairs gs ws)) ∷ [] in
    let first = taken (puts_all (commit_files s gs ws)) old in
    taken_both Makes (puts_all (commit_files s gs ws)) (puts_all pending ++ (Renamed (Pending s) (Commit s) ∷ Settled ∷ [])) old
    (puts_make (commit_files s gs ws) old (no_commits s gs ws))
    (taken_both Makes (puts_all pending) (Renamed (Pending s) (Commit s) ∷ Settled ∷ []) first (puts_make pending first (tt, tt))
    (rename_makes s (taken (puts_all pending) first)))

pub only_commits : (s next : ℕ) (pairs : Pairs) (gs : List Lived) (ws : List (Option Written)) (a b : Option Disk) → Stopped s next pairs gs ws a b → Told OnlyCommits a b
only_commits s next pairs gs ws a b stopped =
    told_onto (λ old now. Stops (commit_steps s next pairs gs ws) old now) OnlyCommits a b
    (λ x y stops. stops_by Makes (commit_steps s next pairs gs ws) x y (all_make s next pairs gs ws x) stops) stopped

-- ---- what keeps the commits that stand

-- the same files
still : (step : Step) (older : Disk) → files (step ∷ older) ≡ files older → KeepsStanding step older
still step older same = λ t some name file. ap (λ (f : Files). f name) same

module _ (s : ℕ) (gs : List Lived) (ws : List (Option Written)) where
  -- the commit comes after those that stand
  abbrev Comes : Disk → Type 0
  Comes disk = ComesAfter (files disk) s gs ws

  abbrev Elsewhere : FileName → Type 0
  Elsewhere = IsElsewhere s (IsOldId gs ws)

  -- earlier commits have no file that this one writes
  keeps : (a c : Files) → SameElsewhere s (IsOldId gs ws) a c → ComesAfter a s gs ws → KeepsCommits a c
  keeps a c same after t some name file =
      let below : s ≤ t → ⊥ = λ le. none_is_there (a (Commit t)) (after.none_from t le) some in
      same name (was_file s t gs ws a a name (omega (arith, below)) after refl file).1

  comes_still : (a c : Files) → SameElsewhere s (IsOldId gs ws) a c → c (Commit s) ≡ a (Commit s) → ComesAfter a s gs ws
      → ComesAfter c s gs ws
  comes_still a c same last after = record {
    none_from = λ t le. at t ∙ after.none_from t le;
    new_ids = λ t e lists. after.new_ids t e (back t e lists);
  }
    where
      at : (t : ℕ) → c (Commit t) ≡ a (Commit t)
      at t =
          by_number t s (λ is. subst (λ (n : ℕ). c (Commit n) ≡ a (Commit n)) (sym is) last) (λ other. same (Commit t) other)

      back : (t : ℕ) (e : HeadSegment) → Lists c t e → Lists a t e
      back t e lists = record {
        head = lists.head;
        has_head = record {
          file = sym (at t) ∙ lists.has_head.file;
          number = lists.has_head.number;
          fits = lists.has_head.fits;
        };
        listed = lists.listed;
      }

  -- one file is written that is no other commit's
  one_else : (name : FileName) (a c : Files) → ((other : FileName) → Elsewhere other → name ≢ other) → SameBut name a c
      → SameElsewhere s (IsOldId gs ws) a c
  one_else name a c apart same = λ other else. same other (λ e. apart other else (sym e))

  wrote_but : (name : FileName) (bytes : List ℕ) (old : Disk) → SameBut name (files old) (files (Wrote name bytes ∷ old))
  wrote_but name bytes old =
      let found = reads_follow (Wrote name bytes) old (files (Wrote name bytes ∷ old)) refl in
      subst (λ (d : Files). SameBut name d (files (Wrote name bytes ∷ old))) found.1 found.2

  spoilt_but : (name : FileName) (found : Option (List ℕ)) (old : Disk) → SameBut name (files old) (files (Spoilt name found ∷ old))
  spoilt_but name found old =
      let seen = reads_follow (Spoilt name found) old (files (Spoilt name found ∷ old)) refl in
      subst (λ (d : Files). SameBut name d (files (Spoilt name found ∷ old))) seen.1 seen.2

  part_keeps : (name : FileName) (part : Step) (old : Disk) → ((other : FileName) → Elsewhere other → name ≢ other) → Comes old
      → (found : Option (List ℕ)) × (part ≡ Spoilt name found) → KeepsStanding part old
  part_keeps name part old apart comes found =
      subst (λ (p : Step). KeepsStanding p old) (sym found.1)
      (keeps (files old) (files (Spoilt name found.0 ∷ old))
      (one_else name (files old) (files (Spoilt name found.0 ∷ old)) apart (spoilt_but name found.0 old)) comes)

  writes_keep : (list : List File) (old : Disk) → ((other : FileName) → Elsewhere other → IsNoneOf list other) → IsNoneOf list (Commit s)
      → Comes old → AreTaken KeepsStanding (writes_all list) old × Comes (taken (writes_all list) old)
  writes_keep [] old apart last comes = (tt, comes)
  writes_keep (f ∷ fs) old apart last comes =
      let own : (other : FileName) → Elsewhere other → f.0 ≢ other = λ other else. (apart other else).0 in
      let wrote = wrote_but f.0 f.1 old in
      let same : SameElsewhere s (IsOldId gs ws) (files old) (files (Wrote f.0 f.1 ∷ old)) =
      one_else f.0 (files old) (files (Wrote f.0 f.1 ∷ old)) own wrote in
      let after : Comes (Wrote f.0 f.1 ∷ old) =
      comes_still (files old) (files (Wrote f.0 f.1 ∷ old)) same (wrote (Commit s) (λ e. last.0 (sym e))) comes in
      let rest = writes_keep fs (Wrote f.0 f.1 ∷ old) (λ other else. (apart other else).1) last.1 after in
      ((keeps (files old) (files (Wrote f.0 f.1 ∷ old)) same comes, (λ part found. part_keeps f.0 part old own comes found), rest.0), rest.1)

  syncs_keep : (list : List File) (old : Disk) → ((other : FileName) → Elsewhere other → IsNoneOf list other)
      → Comes old → AreTaken KeepsStanding (syncs_all list) old × Comes (taken (syncs_all list) old)
  syncs_keep [] old apart comes = (tt, comes)
  syncs_keep (f ∷ fs) old apart comes =
      let own : (other : FileName) → Elsewhere other → f.0 ≢ other = λ other else. (apart other else).0 in
      let rest = syncs_keep fs (Synced f.0 ∷ old) (λ other else. (apart other else).1) comes in
      ((still (Synced f.0) old refl, (λ part found. part_keeps f.0 part old own comes found), rest.0), rest.1)

  puts_keep : (list : List File) (old : Disk) → ((other : FileName) → Elsewhere other → IsNoneOf list other) → IsNoneOf list (Commit s)
      → Comes old → AreTaken KeepsStanding (puts_all list) old × Comes (taken (puts_all list) old)
  puts_keep list old apart last comes =
      let wrote = writes_keep list old apart last comes in
      let synced = syncs_keep list (taken (writes_all list) old) apart wrote.1 in (
        taken_both KeepsStanding (writes_all list) (syncs_all list) old wrote.0 synced.0,
        subst Comes (sym (taken_then (writes_all list) (syncs_all list) old)) synced.1,
      )

  rename_keeps : (old : Disk) → Comes old → KeepsStanding (Renamed (Pending s) (Commit s)) old
  rename_keeps old comes =
      keeps (files old) (files (Renamed (Pending s) (Commit s) ∷ old))
      (subst (λ (d : Files). SameElsewhere s (IsOldId gs ws) d (files (Renamed (Pending s) (Commit s) ∷ old))) seen.1 (by seen.0 seen.2)) comes
    where
      seen : (d : Files) × (d ≡ files old) × MayHaveRenamed (Pending s) (Commit s) d (files (Renamed (Pending s) (Commit s) ∷ old))
      seen = reads_follow (Renamed (Pending s) (Commit s)) old (files (Renamed (Pending s) (Commit s) ∷ old)) refl

      by : (d : Files) → MayHaveRenamed (Pending s) (Commit s) d (files (Renamed (Pending s) (Commit s) ∷ old))
          → SameElsewhere s (IsOldId gs ws) d (files (Renamed (Pending s) (Commit s) ∷ old))
      by d (inl renamed) = λ name else.
          renamed.others name (λ e. subst Elsewhere e else refl) (λ e. subst Elsewhere e else refl)
      by d (inr same) = λ name else. ap (λ (f : Files). f name) same

  last_keep : (old : Disk) → Comes old → AreTaken KeepsStanding (Renamed (Pending s) (Commit s) ∷ Settled ∷ []) old
  last_keep old comes = (
    rename_keeps old comes,
    (λ part found. by part found),
    (still Settled (Renamed (Pending s) (Commit s) ∷ old) refl, (λ part none. absurd none), tt),
  )
    where
      by : (part : Step) → (part ≡ Renamed (Pending s) (Commit s)) ⊎ (part ≡ HalfRenamed (Pending s) (Commit s)) → KeepsStanding part old
      by part (inl is) = subst (λ (p : Step). KeepsStanding p old) (sym is) (rename_keeps old comes)
      by part (inr is) =
          subst (λ (p : Step). KeepsStanding p old) (sym is) (still (HalfRenamed (Pending s) (Commit s)) old refl)

  all_keep : (next : ℕ) (pairs : Pairs) (old : Disk) → IsNoneOf (commit_files s gs ws) (Commit s) → Comes old
      → AreTaken KeepsStanding (commit_steps s next pairs gs ws) old
  all_keep next pairs old last comes =
      let pending : List File = (Pending s, commit_file (new_head s next pairs gs ws)) ∷ [] in
      let rename : List Step = Renamed (Pending s) (Commit s) ∷ Settled ∷ [] in
      let first = puts_keep (commit_files s gs ws) old (λ other else. none_elsewhere s gs ws other else) last comes in
      let before = taken (puts_all (commit_files s gs ws)) old in
      let second = puts_keep pending before (λ other else. ((λ e. subst Elsewhere (sym e) else refl), tt)) ((λ e. cc), tt) first.1 in
      taken_both KeepsStanding (puts_all (commit_files s gs ws)) (puts_all pending ++ rename) old first.0
      (taken_both KeepsStanding (puts_all pending) rename before second.0 (last_keep (taken (puts_all pending) before) second.1))

pub keeps_made : (s next : ℕ) (pairs : Pairs) (gs : List Lived) (ws : List (Option Written)) (a b : Option Disk) → IsNoneOf (commit_files s gs ws) (Commit s)
    → Stopped s next pairs gs ws a b → (was : Files) → told_files a ≡ Some was → ComesAfter was s gs ws → Told KeepsMade a b
keeps_made s next pairs gs ws None None last stopped was told comes = tt
keeps_made s next pairs gs ws None (Some y) last stopped was told comes = absurd stopped
keeps_made s next pairs gs ws (Some x) None last stopped was told comes = absurd stopped
keeps_made s next pairs gs ws (Some x) (Some y) last stopped was told comes =
    let same : was ≡ files x = cc in
    stops_by KeepsStanding (commit_steps s next pairs gs ws) x y
    (all_keep s gs ws next pairs x last (subst (λ (f : Files). ComesAfter f s gs ws) same comes)) stopped

-- ---- where it stopped

-- the files have the commit whole, or its commit file is as before
pub left_files : (s next : ℕ) (pairs : Pairs) (gs : List Lived) (ws : List (Option Written)) (a b : Option Disk) → AreNew s next pairs gs ws
    → Stopped s next pairs gs ws a b → Changes (MayCommit s next pairs gs ws) (told_files a) (told_files b)
left_files s next pairs gs ws None b new stopped = tt
left_files s next pairs gs ws (Some x) None new stopped = absurd stopped
left_files s next pairs gs ws (Some x) (Some y) new stopped =
    may_of s next pairs gs ws (files x) (files y) new
    (reads_of_stop (commit_files s gs ws) (Pending s) (Commit s) (commit_file (new_head s next pairs gs ws)) x y
    (can_publish s next gs ws new.can.ids) stopped)

pub left_same : (s next : ℕ) (pairs : Pairs) (gs : List Lived) (ws : List (Option Written)) (a : Option Files) → Changes (MayCommit s next pairs gs ws) a a
left_same s next pairs gs ws a = stays (MayCommit s next pairs gs ws) a a (λ x. record { elsewhere = λ name not. refl; whole = inl refl }) refl
