-- How doors are made.
use Rattle.std.proofs.Common.{◌≡◌, ◌∙◌, ℕ, zero, suc, ◌+◌, ◌<◌, ◌≤◌, false, List, [], ◌∷◌, ◌++◌, length, map, take, refl, sym, ap, subst, ⊎_elim, arith, true≢false}
use Rattle.std.specs.Prelude.{Option, Some, None, All, slice_index}
use Rattle.atomic_table.specs.Seated.{TableId}
use Rattle.door_pool.specs.declared.view.View.{View}
use Rattle.door_pool.specs.declared.view.DoorSeen.{DoorSeen}
use Rattle.door_pool.specs.declared.doors.Pass.{Pass}
use Rattle.door_pool.specs.Views.{deed_at, taken_at, next_pass, door_seen, doors_of, doors_in}
use Rattle.door_pool.specs.Passes.{ArePassesAt, IsNewPass, AreFresh}
use Rattle.atomic_table.proofs.Lists.{at_last, at_longer}
use Rattle.door_pool.proofs.Words.{at_end}

-- ---- words

abbrev pub AreZeros : List ℕ → Type 0
AreZeros [] = Unit {0}
AreZeros (x ∷ xs) = (x ≡ 0) × AreZeros xs

pub zero_at : (xs : List ℕ) (i : ℕ) → AreZeros xs → slice_index xs i ≡ 0
zero_at [] i zeros = refl
zero_at (x ∷ xs) zero zeros = zeros.0
zero_at (x ∷ xs) (suc i) zeros = zero_at xs i zeros.1

pub zeros_front : (k : ℕ) (xs : List ℕ) → AreZeros xs → AreZeros (take k xs)
zeros_front zero xs zeros = tt
zeros_front (suc k) [] zeros = tt
zeros_front (suc k) (x ∷ xs) zeros = (zeros.0, zeros_front k xs zeros.1)

pub front_many : {A : Type 0} (k : ℕ) (xs : List A) → k ≤ length xs → length (take k xs) ≡ k
front_many zero xs le = refl
front_many (suc k) [] le = absurd (omega (arith, le))
front_many (suc k) (x ∷ xs) le = ap suc (front_many k xs (omega (arith, le)))

-- ---- slots

abbrev pub somes : {A : Type 0} → List (Option A) → List A
somes [] = []
somes (None ∷ xs) = somes xs
somes (Some x ∷ xs) = x ∷ somes xs

pub somes_of : {A : Type 0} (xs : List A) → somes (map Some xs) ≡ xs
somes_of [] = refl
somes_of (x ∷ xs) = ap (λ l. x ∷ l) (somes_of xs)

pub somes_some : {A : Type 0} (xs : List (Option A)) (x : A) → somes (xs ++ Some x ∷ []) ≡ somes xs ++ x ∷ []
somes_some [] x = refl
somes_some (None ∷ xs) x = somes_some xs x
somes_some (Some y ∷ xs) x = ap (λ l. y ∷ l) (somes_some xs x)

pub somes_none : {A : Type 0} (xs : List (Option A)) → somes (xs ++ None ∷ []) ≡ somes xs
somes_none [] = refl
somes_none (None ∷ xs) = somes_none xs
somes_none (Some y ∷ xs) = ap (λ l. y ∷ l) (somes_none xs)

pub nothing_left : {A : Type 0} (xs : List A) → length xs ≡ 0 → xs ≡ []
nothing_left [] e = refl
nothing_left (x ∷ xs) e = absurd (omega (arith, e))

-- ---- passes

pub passes_more : {H D T : Type 0} (t : TableId) (doors : List (DoorSeen D)) (ps : List (Pass H D T)) (p : Pass H D T)
    → ArePassesAt t doors ps → IsNewPass t (length ps) (deed_at doors (length ps)) p → ArePassesAt t doors (ps ++ p ∷ [])
passes_more {H} {D} {T} t doors ps p are new c q got = ⊎_elim (λ o. are c q o)
    (λ (e : (c ≡ length ps) × (p ≡ q)).
    subst (λ (y : ℕ × Pass H D T). IsNewPass t y.0 (deed_at doors y.0) y.1) (λ i. (sym e.0 i, e.1 i)) new)
    (at_end ps p q c got)

-- the last of several, and those before it
pub last_new : {H D T : Type 0} (t : TableId) (doors : List (DoorSeen D)) (old new : List (Pass H D T)) (p : Pass H D T)
    → ArePassesAt t doors old → old ≡ new ++ p ∷ [] → IsNewPass t (length new) (deed_at doors (length new)) p
last_new {H} {D} {T} t doors old new p are is =
    subst (λ (ps : List (Pass H D T)). ArePassesAt t doors ps) is are (length new) p (at_last new p (length new) refl)

pub others_new : {H D T : Type 0} (t : TableId) (doors : List (DoorSeen D)) (old new : List (Pass H D T)) (p : Pass H D T)
    → ArePassesAt t doors old → old ≡ new ++ p ∷ [] → ArePassesAt t doors new
others_new {H} {D} {T} t doors old new p are is c q got =
    subst (λ (ps : List (Pass H D T)). ArePassesAt t doors ps) is are c q (at_longer new (p ∷ []) c q got)

-- a seat that was split off is a new pass
pub split_off : {H D T : Type 0} (t : TableId) (doors : List (DoorSeen D)) (v : View D T) (p : Pass H D T)
    → p.seat.table_id ≡ t → p.seat.me ≡ (next_pass v, []) → v.made ≡ p.door → v.doors ≡ doors → p.door + 2 < t.words → p.door < 16
    → IsNewPass t p.door (deed_at doors p.door) p
split_off t doors v p table is made same words few = record {
  pass = record {
    seat = record {
      table = table;
      words = words;
      few = few;
      is_pass = ap (λ m. m.0.is_pass) is;
      no_keeper = ap (λ m. m.0.is_keeper) is;
      door = ap (λ m. m.0.door) is ∙ made;
    };
    out = λ o. ap (λ m. m.1) is;
    inn = λ i. absurd (true≢false (sym i ∙ ap (λ m. m.0.inside) is));
  };
  door = ap (λ m. m.0.door) is ∙ made;
  deed_is = ap (λ m. m.0.deed) is ∙ ap (λ (x : ℕ). deed_at v.doors x) made ∙ ap (λ (ds : List (DoorSeen _)). deed_at ds p.door) same;
  told = ap (λ m. m.0.told) is;
  outside = ap (λ m. m.0.inside) is;
}

-- ---- hands

-- hands that were told nothing, each in a slot
pub fresh_in_slots : {H T : Type 0} (told_of : H → List T) (hands : List H) → All (λ h. told_of h ≡ []) hands
    → AreFresh told_of (map Some hands)
fresh_in_slots told_of [] fresh = tt
fresh_in_slots told_of (h ∷ hs) fresh = (fresh 0 h (omega arith), fresh_in_slots told_of hs (λ k d lt. fresh (suc k) d (omega (arith, lt))))

pub doors_in_slots : {H D : Type 0} (deed_of : H → D) (hands : List H) → doors_in deed_of (map Some hands) ≡ doors_of deed_of hands
doors_in_slots deed_of [] = refl
doors_in_slots deed_of (h ∷ hs) = ap (λ ds. door_seen (Some (deed_of h)) false ∷ ds) (doors_in_slots deed_of hs)

-- the doors that the keeper of new doors knows
pub known : {H D : Type 0} (deed_of : H → D) (now first : List (DoorSeen D)) (slots : List (Option H)) (hands : List H) → now ≡ first
    → first ≡ doors_in deed_of slots → slots ≡ map Some hands → now ≡ doors_of deed_of hands
known deed_of now first slots hands same is all = same ∙ is ∙ ap (doors_in deed_of) all ∙ doors_in_slots deed_of hands

-- none of them is taken
pub none_taken : {H D : Type 0} (deed_of : H → D) (hands : List H) (c : ℕ) → taken_at (doors_of deed_of hands) c ≡ false
none_taken deed_of [] c = refl
none_taken deed_of (h ∷ hs) zero = refl
none_taken deed_of (h ∷ hs) (suc c) = none_taken deed_of hs c
