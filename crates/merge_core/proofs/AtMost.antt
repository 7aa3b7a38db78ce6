-- How many bytes postings take in a file at most.
use Rattle.std.proofs.Common.{◌≡◌, ◌∙◌, ℕ, ◌+◌, ◌*◌, ◌<◌, ◌≤◌, List, [], ◌∷◌, ◌++◌, Bool, true, false, ◌==◌, Option, Some, None, length, take, get_or, refl, ap, arith, length-append}
use Rattle.std.specs.Prelude.{sum_by}
use Rattle.std.specs.List.{flat_map}
use Rattle.std.specs.Option.{IfSome}
use Rattle.std.proofs.lemmas.List.Concat.{flat_map-cons}
use Rattle.ix_base.proofs.EntryLaws.{length-be32}
use Rattle.ix_base.specs.Grouped.{grouped, grouped_from, joined, one, with_spot}
use Rattle.ix_base.specs.Spelling.{be32}
use Rattle.ix_base.specs.declared.postings.Posting.{Posting}
use Rattle.ix_base.specs.declared.postings.TermPostings.{TermPostings}
use Rattle.ix_base.specs.declared.spots.Spot.{Spot}
use Rattle.segment_files.specs.Spelling.{posting, term_postings}
use Rattle.segment_files.proofs.Rooms.{entry_size, next_size, text_size}
use Rattle.merge_core.proofs.Summing.{next_sum}

cons_size : {X : Type 0} (f : X → List ℕ) (x : X) (xs : List X) → length (flat_map f (x ∷ xs)) ≡ length (f x) + length (flat_map f xs)
cons_size f x xs = ap length (flat_map-cons f x xs) ∙ length-append (f x) (flat_map f xs)

fours : (ps : List ℕ) → length (flat_map be32 ps) ≡ 4 * length ps
fours [] = refl
fours (p ∷ ps) = omega (arith, cons_size be32 p ps, length-be32 p, fours ps)

posting_size : (p : Posting) → length (posting p) ≡ 8 + 4 * length p.positions
posting_size p = omega (
  arith,
  length-append (be32 p.row) (be32 (length p.positions) ++ flat_map be32 p.positions),
  length-append (be32 (length p.positions)) (flat_map be32 p.positions),
  length-be32 p.row,
  length-be32 (length p.positions),
  fours p.positions,
)

abbrev size : List Posting → ℕ
size gs = length (flat_map posting gs)

one_size : (p : Posting) → size (p ∷ []) ≡ 8 + 4 * length p.positions
one_size p = omega (arith, cons_size posting p [], posting_size p)

joined_most : (same : Bool) (g : Posting) (s : Spot) → size (joined same g s) ≤ size (g ∷ []) + 12
joined_most true g s = omega (arith, one_size g, one_size (record { row = g.row; positions = g.positions ++ s.position ∷ [] }), length-append g.positions (s.position ∷ []))
joined_most false g s = omega (arith, one_size g, cons_size posting g (one s ∷ []), posting_size g, one_size (one s))

with_most : (gs : List Posting) (s : Spot) → size (with_spot gs s) ≤ size gs + 12
with_most [] s = omega (arith, one_size (one s))
with_most (g ∷ []) s = joined_most (g.row == s.row) g s
with_most (g ∷ h ∷ gs) s = omega (arith, cons_size posting g (with_spot (h ∷ gs) s), cons_size posting g (h ∷ gs), with_most (h ∷ gs) s)

from_most : (gs : List Posting) (spots : List Spot) → size (grouped_from gs spots) ≤ size gs + 12 * length spots
from_most gs [] = omega arith
from_most gs (s ∷ spots) = omega (arith, from_most (with_spot gs s) spots, with_most gs s)

-- the postings of a term, whose places are these
pub entry_most : (e : TermPostings) (spots : List Spot) → e.rows ≡ grouped spots
    → length (term_postings e) ≤ 12 + length e.term.field + length e.term.bytes + 12 * length spots
entry_most e spots is = omega (arith, entry_size e, text_size e.term.field, text_size e.term.bytes, ap size is, from_most [] spots)

-- a room behind the parts of a term's postings
pub entry_room : (e : TermPostings) (spots : List Spot) (room a b d : ℕ) (r : Option ℕ) → e.rows ≡ grouped spots → a + 12 ≡ room
    → b + length e.term.field ≡ a → d + length e.term.bytes ≡ b → IfSome r (λ (left : ℕ). left + 12 * length spots ≡ d)
    → IfSome r (λ (left : ℕ). left + length (term_postings e) ≤ room)
entry_room e spots room a b d None is p q t h = tt
entry_room e spots room a b d (Some left) is p q t h = omega (arith, p, q, t, h, entry_most e spots is)

-- one part more
pub next_most : {X : Type 0} (f : X → List ℕ) (room : ℕ) (xs : List X) (i : ℕ) (x : X) (left now : ℕ)
    → i < length xs → x ≡ get_or xs i x → left + length (flat_map f (take i xs)) ≤ room → now + length (f x) ≤ left
    → now + length (flat_map f (take (i + 1) xs)) ≤ room
next_most f room xs i x left now lt is was takes = omega (arith, next_size f xs i x lt is)

pub next_sum_most : {X : Type 0} (f : X → ℕ) (room : ℕ) (xs : List X) (i : ℕ) (x : X) (left now : ℕ)
    → i < length xs → x ≡ get_or xs i x → left + sum_by f (take i xs) ≤ room → now + f x ≤ left
    → now + sum_by f (take (i + 1) xs) ≤ room
next_sum_most f room xs i x left now lt is was takes = omega (arith, next_sum f xs i x lt is)
