-- What each kind of step on the table's words does to the view of its seat.
use Rattle.std.specs.Prelude.{◌≡◌, ℕ, ◌+◌, ◌-◌, ◌<◌, ◌==◌, MatchBool, [], ◌∷◌, ◌++◌, take}
use Rattle.atomic_table.specs.Table.{Me, Step}
use Rattle.queue_rule.specs.declared.view.View.{View}
use Rattle.queue_rule.specs.Chain.{start}
use Rattle.queue_rule.specs.Views.{draft_start, with_draft, links, sees, with_loaded, loaded, knows}
use Rattle.queue_rule.specs.Told.{Whole}

-- a store: the word joins the draft, in place of what stood from there on
abbrev pub Drafted : Step (Unit {0}) → Me (Unit {0}) View → ℕ → Me (Unit {0}) View → Type 0
Drafted st m found m' = m' ≡ (with_draft m.0 (take (st.word - draft_start m.0) m.0.draft ++ st.first ∷ []), m.1)

-- a compare-exchange: the draft was linked, or an entry was seen behind the last one
abbrev pub Tried : Step (Unit {0}) → Me (Unit {0}) View → ℕ → Me (Unit {0}) View → Type 0
Tried st m found m' =
    MatchBool (found == 0) (m' ≡ (links m.0, m.1)) ((m' ≡ (sees m.0 found, m.1))
    × (found + 1 < start m.0.seats))

-- a load of a next word: the count of loads rises, and where the word isn't 0 an entry is seen;
-- where it is 0, the entries seen are all
abbrev pub Looked : Step (Unit {0}) → Me (Unit {0}) View → ℕ → Me (Unit {0}) View → Type 0
Looked st m found m' = let v = with_loaded m.0 (loaded st.word found (m.0.loaded.count + 1)) in
    MatchBool (found == 0) ((m' ≡ (v, m.1)) × Whole v) ((m' ≡ (sees v found, m.1)) × (found + 1 < start m.0.seats))

-- a load of a linked word: the word is known
abbrev pub HasRead : Step (Unit {0}) → Me (Unit {0}) View → ℕ → Me (Unit {0}) View → Type 0
HasRead st m found m' = m' ≡ (knows m.0 st.word found, m.1)
