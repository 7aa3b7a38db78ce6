-- Views, and what each kind of step makes of one.
use Rattle.std.specs.Prelude.{◌≡◌, ◌<◌, ℕ, zero, suc, true, false, ◌+◌, ◌-◌, if◌then◌else◌, List, [], ◌∷◌, ◌++◌, map, length, drop, slice_index}
use mathlib.Core.Option.{some}
use lib.ListN.{get_elem?}
use Rattle.queue_rule.specs.declared.view.View.{View}
use Rattle.queue_rule.specs.declared.view.Known.{Known}
use Rattle.queue_rule.specs.declared.view.Old.{Old}
use Rattle.queue_rule.specs.declared.view.Loaded.{Loaded}
use Rattle.queue_rule.specs.Lists.{longer}
use Rattle.queue_rule.specs.Chain.{start, filled, own}

abbrev pub loaded : ℕ → ℕ → ℕ → Loaded
loaded a x n = record { at = a; word = x; count = n }

abbrev pub known : ℕ → ℕ → Known
known a x = record { at = a; word = x }

-- the words as known words, the first of them at this address
abbrev pub known_from : ℕ → List ℕ → List Known
known_from at [] = []
known_from at (w ∷ ws) = known at w ∷ known_from (at + 1) ws

-- the word at a is known to be x
abbrev pub IsAmong : List Known → ℕ → ℕ → Type 0
IsAmong ks a x = (i : ℕ) × (get_elem? ks i ≡ some (known a x))

-- these words are known to stand from `at` on
abbrev pub KnownFrom : List Known → ℕ → List ℕ → Type 0
KnownFrom ks at ws = (d : ℕ) → d < length ws → IsAmong ks (at + d) (slice_index ws d)

-- the view knows that the word at a is x for good
abbrev pub Knows : View → ℕ → ℕ → Type 0
Knows v a x = IsAmong v.known a x

-- the seat numbers of joined seats, and those that may still be split off
abbrev pub more_numbers : View → List ℕ
more_numbers v = map (λ (o : Old). o.number) v.olds ++ v.spares

-- the seat numbers that a view holds
abbrev pub numbers : View → List ℕ
numbers v = if v.live then v.number ∷ more_numbers v else []

abbrev pub numbers_from : ℕ → ℕ → List ℕ
numbers_from i zero = []
numbers_from i (suc n) = i ∷ numbers_from (i + 1) n

-- the view of seat n of k seats, which has linked nothing
abbrev pub view_of : ℕ → ℕ → List ℕ → List ℕ → View
view_of k n spares seen = record { live = true; seats = k; number = n; spares = spares; olds = []; seen = seen; known = []; own = []; draft = []; loaded = loaded 0 0 0 }

-- the view of the first seat of a new table for k seats
abbrev pub newcomer : ℕ → View
newcomer k = view_of k 0 (numbers_from 1 (k - 1)) []

-- where the draft of a view begins
abbrev pub draft_start : View → ℕ
draft_start v = start v.number + filled v.own

abbrev pub with_draft : View → List ℕ → View
with_draft v xs = record { live = v.live; seats = v.seats; number = v.number; spares = v.spares; olds = v.olds; seen = v.seen; known = v.known; own = v.own; draft = xs; loaded = v.loaded }

-- the view has seen one entry more
abbrev pub sees : View → ℕ → View
sees v a = record { live = v.live; seats = v.seats; number = v.number; spares = v.spares; olds = v.olds; seen = v.seen ++ a ∷ []; known = v.known; own = v.own; draft = v.draft; loaded = v.loaded }

abbrev pub with_loaded : View → Loaded → View
with_loaded v l = record { live = v.live; seats = v.seats; number = v.number; spares = v.spares; olds = v.olds; seen = v.seen; known = v.known; own = v.own; draft = v.draft; loaded = l }

-- the view knows one word more
abbrev pub knows : View → ℕ → ℕ → View
knows v a x = record { live = v.live; seats = v.seats; number = v.number; spares = v.spares; olds = v.olds; seen = v.seen; known = v.known ++ known a x ∷ []; own = v.own; draft = v.draft; loaded = v.loaded }

-- the draft has become the view's own entry, the last one of the chain, whose words it knows
abbrev pub links : View → View
links v = record { live = v.live; seats = v.seats; number = v.number; spares = v.spares; olds = v.olds; seen = v.seen ++ draft_start v ∷ []; known = v.known ++ known_from (draft_start v + 1) (drop 1 v.draft); own = v.own ++ own (length v.seen + 1) (drop 1 v.draft) ∷ []; draft = []; loaded = v.loaded }

-- the view without its first spare number
abbrev pub kept_back : View → View
kept_back v = record { live = v.live; seats = v.seats; number = v.number; spares = drop 1 v.spares; olds = v.olds; seen = v.seen; known = v.known; own = v.own; draft = v.draft; loaded = v.loaded }

-- the view of a new seat with that number
abbrev pub split_off : View → View
split_off v = view_of v.seats (slice_index v.spares 0) [] v.seen

-- what v keeps of w, which it takes over
abbrev pub old_of : View → View → Old
old_of v w = record { number = w.number; own = w.own; seen = w.seen; mine = v.seen }

-- v has taken w over
abbrev pub joined : View → View → View
joined v w =
    record {
      live = v.live;
      seats = v.seats;
      number = v.number;
      spares = v.spares;
      olds = v.olds
          ++ old_of v w ∷ w.olds;
      seen = longer v.seen w.seen;
      known = v.known
          ++ w.known;
      own = v.own;
      draft = v.draft;
      loaded = v.loaded;
    }

-- the view of a seat that was taken over
abbrev pub spent : View
spent = record { live = false; seats = 0; number = 0; spares = []; olds = []; seen = []; known = []; own = []; draft = []; loaded = loaded 0 0 0 }
