-- What the writers of a round have linked, and whether one has closed the queue or seen it closed.
use Rattle.std.specs.Prelude.{◌≡◌, ◌↔◌, ℕ, ◌+◌, ◌<◌, List, [], ◌∷◌, length}
use Rattle.std.specs.List.{Any, filter}
use Rattle.queue_rule.specs.declared.view.Own.{Own}
use Rattle.delete_queue.specs.Seats.{SawClosed, own_of, the_view}
use Rattle.thread_writer.specs.Writing.{is_turn}
use Rattle.thread_writer.specs.declared.writer.ThreadWriter.{ThreadWriter}
use Rattle.index_writer.specs.declared.round.RoundEnd.{RoundEnd}
use Rattle.index_writer.specs.declared.round.RoundEnd.TheVariants.{Turned}
use Rattle.index_writer.specs.declared.round.RoundParts.{RoundParts}

-- how many entries these writers have linked
abbrev pub links_in : List ThreadWriter → ℕ
links_in [] = 0
links_in (w ∷ ws) = length (own_of w.seat) + links_in ws

-- how many entries the writers of a round have linked
abbrev pub links_of : RoundParts → ℕ
links_of parts = links_in parts.writers.items

-- one of the writers has seen that the queue is closed
abbrev pub SomeSawClosed : RoundParts → Type 0
SomeSawClosed parts = Any (λ (w : ThreadWriter). SawClosed (the_view w.seat)) parts.writers.items

-- no writer has linked anything, and yet one has seen that the queue is closed
abbrev pub IsStuck : RoundParts → Type 0
IsStuck parts = (links_of parts ≡ 0) × SomeSawClosed parts

-- how many turns these own entries are
abbrev pub turns_in : List Own → ℕ
turns_in own = length (filter (λ (o : Own). is_turn o.words) own)

-- how many turns these writers have linked
abbrev pub turns_by : List ThreadWriter → ℕ
turns_by [] = 0
turns_by (w ∷ ws) = turns_in (own_of w.seat) + turns_by ws

-- one of the writers has linked a turn
abbrev pub SomeTurned : RoundParts → Type 0
SomeTurned parts = 0 < turns_by parts.writers.items

-- the round ended by a turn exactly where one of its writers has linked one
abbrev pub TurnsExactly : RoundParts → RoundEnd → Type 0
TurnsExactly parts end = (end ≡ Turned) ↔ SomeTurned parts
