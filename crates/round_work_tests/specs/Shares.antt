-- What the tests' functions say of a share.
use Rattle.std.specs.Prelude.{◌≡◌, ◌≤◌, None, length}
use Rattle.worker_tasks.specs.declared.share.Share.{Share}

-- A worker can go on with it: it has no more replies than tasks, and holds no piece.
pub record CanGoOn (share : Share) : Type 0 where
  pub few : length share.replies ≤ length share.tasks
  pub empty : share.held ≡ None
