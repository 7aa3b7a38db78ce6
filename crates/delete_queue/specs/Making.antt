-- What a new queue's seats are.
use Rattle.std.specs.Prelude.{◌≡◌, ℕ, ◌+◌, List, [], ◌∷◌, length}
use Rattle.delete_queue.specs.declared.queue.DeleteQueue.{DeleteQueue}
use Rattle.delete_queue.specs.declared.seat.Seat.{Seat}
use Rattle.delete_queue.specs.Seats.{IsSeatOf, base_of, seats_of, number_of, own_of, seen_of, olds_of, last_of}

-- seat n of the queue, which has linked, seen and taken over nothing
pub record IsNew (q : DeleteQueue) (n : ℕ) (s : Seat) : Type 0 where
  pub seat : IsSeatOf q s
  pub number : number_of s ≡ n
  pub own : own_of s ≡ []
  pub seen : seen_of s ≡ 0
  pub olds : olds_of s ≡ []
  pub last : last_of s ≡ base_of q

-- seats n, n + 1 and so on
abbrev pub AreNewFrom : DeleteQueue → ℕ → List Seat → Type 0
AreNewFrom q n [] = Unit {0}
AreNewFrom q n (s ∷ ss) = IsNew q n s × AreNewFrom q (n + 1) ss

-- all seats of a new queue, numbered from 0
pub record AreNew (q : DeleteQueue) (seats : List Seat) : Type 0 where
  pub all : length seats ≡ seats_of q
  pub new : AreNewFrom q 0 seats
