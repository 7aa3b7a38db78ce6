-- What contracts say of posters and watchers.
use Rattle.std.specs.Prelude.{◌≡◌, ◌⊎◌, List, [], ◌∷◌, ◌++◌, drop, map, take}
use Rattle.std.specs.Option.{option_map_or}
use Rattle.std.specs.Arc.{arc_value}
use Rattle.left_right.specs.Sides.{view}
use Rattle.commit_board.specs.declared.commit.Commit.{Commit}
use Rattle.commit_board.specs.declared.publisher.Publisher.{Publisher}
use Rattle.commit_board.specs.declared.viewer.Viewer.{Viewer}
use Rattle.commit_board.specs.declared.poster.Poster.{Poster}
use Rattle.commit_board.specs.declared.watcher.Watcher.{Watcher}

-- ---- the poster

abbrev pub listed_in : Publisher → List Commit
listed_in p = view p.writer.desk.place

abbrev pub waiting_in : Publisher → List Commit
waiting_in p = map arc_value (drop p.writer.behind p.writer.log.items)

-- the board's list: all that the watchers were shown, in order
abbrev pub posted_on : Poster → List Commit
posted_on p = option_map_or listed_in p.publisher []

-- what was refused, and will be shown with the next commit that is posted
abbrev pub waiting_on : Poster → List Commit
waiting_on p = option_map_or waiting_in p.publisher []

-- what waits after a post of this commit was refused: what waited before, and the commit, where there was memory for it
abbrev pub MayWait : Commit → List Commit → List Commit → Type 0
MayWait commit old new = (new ≡ old) ⊎ (new ≡ old ++ commit ∷ [])

-- ---- watchers

abbrev pub seen_in : Viewer → List Commit
seen_in v = take v.count (view v.reader.place)

-- the beginning of the board's list whose last commit the watcher was shown
abbrev pub seen_by : Watcher → List Commit
seen_by w = option_map_or seen_in w.viewer []
