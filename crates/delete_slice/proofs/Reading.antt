-- An entry that a seat found and read.
use Rattle.std.proofs.Common.{◌≡◌, ℕ, ◌+◌, ◌-◌, ◌==◌, if◌then◌else◌, List, get_or, sym, ap, ◌∙◌, subst, refl, append-nil, [], ◌++◌, length, take}
use Rattle.std.proofs.Math.Seq.{take-append_seam}
use Rattle.frozen_packet.specs.declared.updates.Updates.{Updates}
use Rattle.delete_queue.specs.declared.queue.DeleteQueue.{DeleteQueue}
use Rattle.delete_queue.specs.declared.seat.Seat.{Seat}
use Rattle.delete_queue.specs.declared.seat.Found.{Found}
use Rattle.delete_queue.specs.Seats.{IsSeatOf, IsFound, Extends, Learns, Knows, base_of, number_at, own_of}
use Rattle.delete_queue.proofs.Laws.{extends_same, head_known_stays, knows_grammar}
use Rattle.delete_queue.proofs.Numbers.{found_words}
use Rattle.delete_slice.specs.Taken.{HaveUpTo, TakesNext, TakesWords}
use Rattle.delete_slice.proofs.Words.{before_it, taken_there}

pub learns_same : (s : Seat) → Learns s s
learns_same s = record {
  grows = record { extends = extends_same s; number = refl; olds = refl; own = ([], sym (append-nil (own_of s))) };
  own = refl;
}

pub found_stays : (s t : Seat) (f : Found) → Extends s t → IsFound s f → IsFound t f
found_stays s t f ext is = record {
  head = is.head;
  known = head_known_stays s t f.place is.head ext is.known;
  number = is.number ∙ ap (λ (b : ℕ). number_at b f.place.at is.head) (sym ext.base);
  kind = is.kind;
  words = is.words;
}

-- the number that was found is that of the place and the words
number_found : (q : DeleteQueue) (s : Seat) (f : Found) (from : ℕ) (words : List ℕ) → IsSeatOf q s → IsFound s f → f.place.at ≡ from + 1
    → Knows s f.place.at words → f.number ≡ number_at (base_of q) (from + 1) (get_or words 0 0)
number_found q s f from words h is next k =
    is.number ∙ (ap (λ (b : ℕ). number_at b f.place.at is.head) h.base
    ∙ (ap (λ (n : ℕ). base_of q + f.place.at - (if n == 7 then 1 else 0)) (sym is.kind ∙ (found_words q s f words h is k).0)
    ∙ ap (λ (p : ℕ). number_at (base_of q) p (get_or words 0 0)) next))

pub known_upto : (q : DeleteQueue) (s : Seat) (f : Found) (from : ℕ) (words : List ℕ) (u : Updates) → IsSeatOf q s → IsFound s f → f.place.at ≡ from + 1
    → Knows s f.place.at words → HaveUpTo (base_of q + from) u → HaveUpTo f.number u
known_upto q s f from words u h is next k held =
    subst (λ (n : ℕ). HaveUpTo n u) (sym (number_found q s f from words h is next k))
    (before_it (base_of q) from words u (knows_grammar q s f.place.at words h k) held)

pub known_taken : (q : DeleteQueue) (s : Seat) (f : Found) (from : ℕ) (words : List ℕ) (old new : Updates) → IsSeatOf q s → IsFound s f → f.place.at ≡ from + 1
    → Knows s f.place.at words → TakesWords f.number words old new → TakesNext q s from old new
known_taken q s f from words old new h is next k taken =
    taken_there (Knows s) (base_of q) from f.number words old new (subst (λ (p : ℕ). Knows s p words) next k) (knows_grammar q s f.place.at words h k)
    (number_found q s f from words h is next k) taken

-- the words that a row of this length has once they were read into it
pub read_known : (s : Seat) (place n : ℕ) (words rest now : List ℕ) → Knows s place words → length words ≡ n → now ≡ take n (words ++ rest) → Knows s place now
read_known s place n words rest now k len is =
    subst (λ (ws : List ℕ). Knows s place ws) (sym (is ∙ (ap (λ (m : ℕ). take m (words ++ rest)) (sym len) ∙ take-append_seam words rest))) k
