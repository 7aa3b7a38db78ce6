-- What a commit does to the files, and to the state.
use Rattle.std.specs.Prelude.{◌≡◌, ℕ, ◌<◌, List, [], ◌∷◌, Option, Some, None}
use Rattle.ix_base.specs.declared.file_name.FileName.TheVariants.{Commit}
use Rattle.ix_outside.specs.Files.{Files}
use Rattle.segment_core.specs.LiveRows.{Lived}
use Rattle.commit_point.specs.declared.heads.HeadSegment.{HeadSegment}
use Rattle.commit_point.specs.declared.written.Written.{Written}
use Rattle.commit_point.specs.Holds.{Lists, Pairs}
use Rattle.commit_point.specs.Writing as commit
use Rattle.commit_point.specs.Writing.{SameElsewhere, version}
use Rattle.index_writer.specs.declared.state.State.{State}
use Rattle.index_writer.specs.Ready.{IsStored}

-- ---- the state on its commit

-- What is on the store of a segment once the commit s is there: its live docs, written with s unless they were written
-- before as they are. Of a segment without a live row this says only that it is no longer a new one: nothing of it is
-- written, then or later.
abbrev pub own_written : ℕ → Option Written → Lived → Option Written
own_written s w g = Some (record { v = version s w g; live = g.live })

-- the same of each segment
abbrev pub renewed : ℕ → List Lived → List (Option Written) → List (Option Written)
renewed s [] ws = []
renewed s (g ∷ gs) [] = []
renewed s (g ∷ gs) (w ∷ ws) = own_written s w g ∷ renewed s gs ws

-- The state on its commit: nothing is to be written. Its segments stay, those without a live row too, though the commit
-- doesn't list them; a merge that runs still runs.
abbrev pub on_commit : State → State
on_commit s = record s {
  written = renewed s.published.upto s.published.segments s.written;
  last = s.published.upto;
  since = s.published.next_id;
  pending = None;
}

-- ---- the files

-- every file is as it was, but the commit file of s, files of segments with an id from `next` on, and what is written
-- with s of live bits and set numbers
abbrev pub SameBelow : ℕ → ℕ → Files → Files → Type 0
SameBelow s next = SameElsewhere s (λ id. id < next)

-- A writer committed with these pairs: the files have the commit, in which they stand, and what is on the store of the
-- writer's segments stands in the files.
pub record Commits (pairs : Pairs) (old new : State) (files now : Files) : Type 0 where
  pub made : commit.Commits old.published.upto old.published.next_id pairs old.published.segments old.written files now
  pub stands : IsStored files old → IsStored now new

-- a crash while a writer commits: the commit is there whole, or its commit file is as before
abbrev pub MayCommit : Pairs → State → Files → Files → Type 0
MayCommit pairs s = commit.MayCommit s.published.upto s.published.next_id pairs s.published.segments s.written

-- The writer can go on from these files: no commit is above its last one, none lists an id that is new since that one,
-- and what is on the store of its segments stands.
pub record GoesOn (files : Files) (s : State) : Type 0 where
  pub none_above : (t : ℕ) → s.last < t → files (Commit t) ≡ None
  pub ids : (t : ℕ) (e : HeadSegment) → Lists files t e → e.id < s.since
  pub stored : IsStored files s
