-- Settings of one name in the documents of one term, of which the last one counts where no delete
-- by a range stands between.
use Rattle.std.specs.Prelude.{◌≡◌, ℕ, ◌<◌, ◌≤◌, List, [], ◌∷◌, Bool, true, false, length, slice_index_or}
use Rattle.frozen_packet.specs.Updates.{as_operations, NumberedUpTo, NumberedWithin}
use Rattle.frozen_packet.specs.declared.updates.Change.{Change}
use Rattle.frozen_packet.specs.declared.updates.Change.TheVariants as c
use Rattle.frozen_packet.specs.declared.updates.Setting.{Setting}
use Rattle.frozen_packet.specs.declared.updates.Updates.{Updates}

-- A later setting of the same name for the same term, with no lower number: whatever the earlier
-- one sets, it sets anew.
pub record Replaces (later earlier : Setting) : Type 0 where
  pub number : earlier.number ≤ later.number
  pub term : later.term ≡ earlier.term
  pub num : later.num ≡ earlier.num

-- both changes are settings, and the later one replaces the earlier one
abbrev pub SetsOver : Change → Change → Type 0
SetsOver (c.Set later) (c.Set earlier) = Replaces later earlier
SetsOver (c.Set later) (c.Delete earlier) = ⊥
SetsOver (c.Delete later) earlier = ⊥

-- the change is a setting
abbrev pub IsSet : Change → Type 0
IsSet (c.Set s) = Unit {0}
IsSet (c.Delete q) = ⊥

-- a setting behind this place replaces the one at it, and no delete stands between
pub record IsReplaced (changes : List Change) (at : ℕ) : Type 0 where
  pub place : ℕ
  pub behind : at < place
  pub within : place < length changes
  pub replaces : (d : Change) → SetsOver (slice_index_or changes place d) (slice_index_or changes at d)
  pub between : (k : ℕ) (d : Change) → at < k → k < place → IsSet (slice_index_or changes k d)

-- each change with a mark is a setting that is replaced by one behind it
abbrev pub AreReplaced : List Change → List Bool → Type 0
AreReplaced changes marks = (at : ℕ) → slice_index_or marks at false ≡ true → IsReplaced changes at

-- the changes without a mark
abbrev pub unmarked : List Change → List Bool → List Change
unmarked [] marks = []
unmarked (x ∷ changes) [] = x ∷ changes
unmarked (x ∷ changes) (true ∷ marks) = unmarked changes marks
unmarked (x ∷ changes) (false ∷ marks) = x ∷ unmarked changes marks

-- whatever bounds hold the numbers before, hold the numbers now
pub record KeepsNumbers (old new : Updates) : Type 0 where
  pub within : (after upto : ℕ) → NumberedWithin after upto (as_operations old)
      → NumberedWithin after upto (as_operations new)
  pub below : (upto : ℕ) → NumberedUpTo upto (as_operations old) → NumberedUpTo upto (as_operations new)
