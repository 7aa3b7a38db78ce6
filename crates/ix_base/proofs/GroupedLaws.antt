-- Places put one after another: where their postings have them.
use Rattle.std.proofs.Common.{◌≡◌, ℕ, List, [], ◌∷◌, ◌++◌, Bool, true, false, ◌&&◌, ◌||◌, ◌==◌, refl, sym, ap, ◌∙◌, arith}
use Rattle.std.specs.List.{list_any}
use Rattle.std.proofs.lemmas.Bool.{eqb-true}
use Rattle.ix_base.specs.Posted.{has_number, posted_at}
use Rattle.ix_base.specs.declared.postings.Posting.{Posting}
use Rattle.ix_base.specs.declared.spots.Spot.{Spot}
use Rattle.ix_base.specs.Grouped.{joined, with_spot, grouped_from}

pub grouped_push : (gs : List Posting) (xs : List Spot) (y : Spot) → grouped_from gs (xs ++ y ∷ []) ≡ with_spot (grouped_from gs xs) y
grouped_push gs [] y = refl
grouped_push gs (x ∷ xs) y = grouped_push (with_spot gs x) xs y

pub or_false : (b : Bool) → b ≡ (b || false)
or_false true = refl
or_false false = refl

pub or_assoc : (a b c : Bool) → (a || (b || c)) ≡ ((a || b) || c)
or_assoc true b c = refl
or_assoc false b c = refl

pub has_push : (xs : List ℕ) (y x : ℕ) → has_number (xs ++ y ∷ []) x ≡ (has_number xs x || (y == x))
has_push [] y x = ends (y == x)
  where
    ends : (b : Bool) → (b || false) ≡ (false || b)
    ends true = refl
    ends false = refl
has_push (z ∷ xs) y x = ap (λ (b : Bool). (z == x) || b) (has_push xs y x) ∙ or_assoc (z == x) (has_number xs x) (y == x)

parted : (a b c d : Bool) → ((a && (b || c)) || d) ≡ ((a && b || d) || (a && c))
parted true true c d = refl
parted true false true true = refl
parted true false true false = refl
parted true false false true = refl
parted true false false false = refl
parted false b c true = refl
parted false b c false = refl

joined_exact : (g : Posting) (s : Spot) (same : Bool) → (g.row == s.row) ≡ same → (r x : ℕ) → posted_at (joined same g s) r x ≡ (posted_at (g ∷ []) r x || ((s.row == r) && (s.position == x)))
joined_exact g s true e r x =
    let is : g.row ≡ s.row = eqb-true g.row s.row e in
    ap (λ (b : Bool). ((g.row == r) && b) || false) (has_push g.positions s.position x)
    ∙ parted (g.row == r) (has_number g.positions x) (s.position == x) false
    ∙ ap (λ (n : ℕ). ((g.row == r) && has_number g.positions x || false) || ((n == r) && (s.position == x))) is
joined_exact g s false e r x = grind arith

pub spot_exact : (gs : List Posting) (s : Spot) (r x : ℕ) → posted_at (with_spot gs s) r x ≡ (posted_at gs r x || ((s.row == r) && (s.position == x)))
spot_exact [] s r x = grind arith
spot_exact (g ∷ []) s r x = joined_exact g s (g.row == s.row) refl r x
spot_exact (g ∷ h ∷ gs) s r x = ap (λ (b : Bool). ((g.row == r) && has_number g.positions x) || b) (spot_exact (h ∷ gs) s r x) ∙ or_assoc ((g.row == r) && has_number g.positions x) (posted_at (h ∷ gs) r x) ((s.row == r) && (s.position == x))

abbrev pub is_spot : ℕ → ℕ → Spot → Bool
is_spot r x s = (s.row == r) && (s.position == x)

-- the postings of places have these places alone
pub posted_are : (gs : List Posting) (spots : List Spot) (r x : ℕ) → posted_at (grouped_from gs spots) r x ≡ (posted_at gs r x || list_any (is_spot r x) spots)
posted_are gs [] r x = or_false (posted_at gs r x)
posted_are gs (s ∷ rest) r x =
    posted_are (with_spot gs s) rest r x
    ∙ ap (λ (b : Bool). b || list_any (is_spot r x) rest) (spot_exact gs s r x)
    ∙ sym (or_assoc (posted_at gs r x) (is_spot r x s) (list_any (is_spot r x) rest))
