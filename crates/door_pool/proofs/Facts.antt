-- What a step told that found the word 0.
use Rattle.std.proofs.Common.{◌≡◌, ◌∙◌, ℕ, ◌+◌, ◌==◌, ◌≤◌, length, List, ◌∷◌, sym, ap, subst, arith}
use Rattle.std.specs.Prelude.{Option, Some, MatchBool}
use Rattle.atomic_table.specs.Table.{Me, rest}
use Rattle.atomic_table.specs.Seated.{TableId}
use Rattle.atomic_table.specs.declared.shared.Seat.{Seat}
use Rattle.door_pool.specs.Passes.{IsKeeperAt}
use Rattle.door_pool.proofs.Words.{doors_many}
use Rattle.door_pool.specs.declared.view.View.{View}
use Rattle.door_pool.specs.Views.{deed_at, after_found, after_enter, after_take}
use Rattle.door_pool.specs.Steps.{Enters, Takes}

-- the slot that was taken last
pub opened : {S : Type 0} (l : List (ℕ × S)) (c d : ℕ) (x : S) (r : List (ℕ × S)) → l ≡ (c, x) ∷ r → c ≡ d → l ≡ (d, x) ∷ rest l
opened l c d x r e is = e ∙ (λ i. (is i, x) ∷ sym (ap rest e) i)

module _ {H D T : Type 0} (deed_of : H → D) (told_of : H → List T) where
  -- the pass went in, and has the slot with the hand
  abbrev pub WentIn : Me (Option H) (View D T) → Me (Option H) (View D T) → Type 0
  WentIn m after = (h : H) × (Some (deed_of h) ≡ m.0.deed) × (told_of h ≡ m.0.told)
      × (after ≡ (after_enter m.0, (m.0.door, Some h) ∷ m.1))

  pub entered : (m : Me (Option H) (View D T)) (found : ℕ) (after : Me (Option H) (View D T)) → Enters deed_of told_of m found after
      → found ≡ 0 → WentIn m after
  entered m found after e is = subst (λ (x : ℕ). Enters deed_of told_of m x after) is e

module _ {H D T : Type 0} (deed_of : H → D) where
  -- the keeper took door d, and has the slot with the hand
  abbrev pub TookIt : ℕ → Me (Option H) (View D T) → Me (Option H) (View D T) → Type 0
  TookIt d m after = (h : H) × (Some (deed_of h) ≡ deed_at m.0.doors d) × (after ≡ (after_take m.0 d, (d, Some h) ∷ m.1))

  pub took : (d : ℕ) (m : Me (Option H) (View D T)) (found : ℕ) (after : Me (Option H) (View D T))
      → Takes deed_of (d + 2) m found after → found ≡ 0 → TookIt d m after
  took d m found after e is =
      subst (λ (x : ℕ). TookIt x m after) (let w = e.1 in omega (arith, w))
      (subst (λ (x : ℕ). MatchBool (x == 0) (TookIt e.0 m after) ((x ≡ 1) × (after ≡ (after_found m.0 1, m.1)))) is e.2)

-- the keeper's seat after it took a door
pub keeper_took : {H D T : Type 0} (t : TableId) (s new : Seat (Option H) (View D T)) (d : ℕ) → IsKeeperAt t s
    → new.table_id ≡ s.table_id → new.me.0 ≡ after_take s.me.0 d → IsKeeperAt t new
keeper_took t s new d k table is =
    let many : length new.me.0.doors ≡ length s.me.0.doors = ap (λ v. length v.doors) is ∙ doors_many s.me.0.doors d in
    record {
      table = table ∙ k.table;
      words = k.words ∙ ap (λ (n : ℕ). n + 2) (sym many);
      few = subst (λ (n : ℕ). n ≤ 16) (sym many) k.few;
      is_keeper = ap (λ v. v.is_keeper) is ∙ k.is_keeper;
      no_pass = ap (λ v. v.is_pass) is ∙ k.no_pass;
    }
