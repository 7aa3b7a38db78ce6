-- The source that is taken first of all that wait.
use Rattle.std.proofs.Common.{◌≡◌, ℕ, zero, suc, ◌+◌, ◌*◌, ◌/◌, ◌<◌, ◌≤◌, List, [], ◌∷◌, length, get_or, Option, Some, None, ◌⊎◌, inl, inr, refl, sym, ap, ◌∙◌, subst, arith}
use Rattle.std.specs.List.{AllByRecursion, insert, remove, slice_set}
use Rattle.std.specs.Option.{IfSome}
use Rattle.std.specs.Cmp.Lexicographic.{slice_cmp}
use Rattle.std.specs.Ordering.{nat_cmp}
use Rattle.std.specs.declared.cmp.Ordering.TheVariants.{Less}
use Rattle.std.proofs.lemmas.Bool.{cases_lt}
use Rattle.std.proofs.lemmas.List.Edits.{length-remove}
use Rattle.std.proofs.lemmas.List.Elements.{All-from_recursion, recursion_from_All}
use Rattle.std.proofs.lemmas.List.{get_or_default}
use Rattle.merge_postings.specs.Tree.{IsFirst, IsPlayed, Queued, IsUpto, term_of, winner_of, HavePlayed}
use Rattle.merge_postings.specs.Walk.{IsBelow, IsPassed, IsPutBack, StartFrom, Waiting, waiting}
use Rattle.merge_postings.proofs.Queued.{less_not_itself, put_again, put_other, removed_other, through}
use Rattle.merge_postings.proofs.TermKeys.{field_from}
use Rattle.merge_postings.proofs.Nodes.{at_leaf, winner_within}

-- ---- the one that is taken first of all

least : (heads : List Waiting) (wins : List ℕ) → IsPlayed heads wins → (more z : ℕ) → 1 ≤ z → z < 2 * length heads → z ≤ more → IsUpto heads wins z 1
least heads wins h zero z one lt most = absurd (omega arith)
least heads wins h (suc more) z one lt most = go (λ y. least heads wins h more y) (cases_lt z 2)
  where
    go : ((y : ℕ) → 1 ≤ y → y < 2 * length heads → y ≤ more → IsUpto heads wins y 1) → (z < 2) ⊎ (2 ≤ z) → IsUpto heads wins z 1
    go again (inl l) d low =
        let e : z ≡ 1 = omega arith in
        less_not_itself (term_of heads (winner_of wins (length heads) 1) d)
        (subst (λ (k : ℕ). IsBelow (term_of heads (winner_of wins (length heads) k) d) (term_of heads (winner_of wins (length heads) 1) d)) e low)
    go again (inr g) d low =
        through (term_of heads (winner_of wins (length heads) z) d) (term_of heads (winner_of wins (length heads) (z / 2)) d) (term_of heads (winner_of wins (length heads) 1) d)
        (h.first z g lt d) (again (z / 2) (omega arith) (omega arith) (omega arith) d) low

pub first_is_least : (heads : List Waiting) (wins : List ℕ) (w : Waiting) → IsPlayed heads wins → 1 ≤ length heads → ((d : Waiting) → get_or heads (winner_of wins (length heads) 1) d ≡ w)
    → StartFrom w.first.term heads
first_is_least heads wins w h some is = recursion_from_All (λ (v : Waiting). IsBelow v.first.term w.first.term → ⊥) heads each
  where
    each : (i : ℕ) (d : Waiting) → i < length heads → IsBelow (get_or heads i d).first.term w.first.term → ⊥
    each i d lt low =
        let n : ℕ = length heads in
        let leaf : winner_of wins (length heads) (length heads + i) ≡ i = at_leaf wins (length heads) (length heads + i) (omega arith) ∙ omega arith in
        least heads wins h (length heads + i) (length heads + i) (omega arith) (omega arith) (omega arith) d
        (subst (λ (k : ℕ). IsBelow (term_of heads k d) (term_of heads (winner_of wins (length heads) 1) d)) (sym leaf)
        (subst (λ (v : Waiting). IsBelow (term_of heads i d) v.first.term) (sym (is d)) low))

-- ---- the source that is taken first

-- what is taken first stands among the others
pub first_among : (P : Waiting → Type 0) (q : Queued) (w : Waiting) → IsFirst q w → AllByRecursion P q.waiting → P w
first_among P q w h all = subst P (h.is w) (All-from_recursion P q.waiting all q.place w h.within)

pub is_first : (heads : List Waiting) (losers : List ℕ) (place : ℕ) (w : Waiting) (field : List ℕ) → HavePlayed heads losers place → place < length heads → w ≡ get_or heads place w
    → IsFirst (record { waiting = heads; place = place; field = field }) w
is_first heads losers place w field h lt is =
    let each : (d : Waiting) → get_or heads place d ≡ w = λ d. get_or_default heads place d w lt ∙ sym is in
    record { within = lt; is = each; from = first_is_least heads h.wins w h.played (omega arith) (λ d. ap (λ (k : ℕ). get_or heads k d) (sym h.first) ∙ each d) }

-- the field doesn't matter
pub still_first : (q new : Queued) (w : Waiting) (field : List ℕ) → new ≡ record q { field = field } → IsFirst q w → IsFirst new w
still_first q new w field is h = subst (λ (p : Queued). IsFirst p w) (sym is) (record { within = h.within; is = h.is; from = h.from })

some_one : (o : Option Waiting) (v : Waiting) (others new : List Waiting) (place : ℕ) → o ≡ Some v → place ≤ length others → new ≡ insert others place v → IsPutBack o others new
some_one o v others new place is le put = subst (λ (x : Option Waiting). IsPutBack x others new) (sym is) (place, le, put)

pub passed_on : (heads : List Waiting) (place : ℕ) (w v : Waiting) → place < length heads → ((d : Waiting) → get_or heads place d ≡ w) → waiting w.rest w.numbers ≡ Some v
    → IsBelow w.first.term v.first.term → IsPassed w heads (slice_set heads place v)
passed_on heads place w v lt is next rises =
    let le : place ≤ length (remove heads place) = omega (arith, length-remove heads place lt) in
    record {
      others = remove heads place;
      was = (place, le, sym (ap (insert (remove heads place) place) (sym (is w)) ∙ put_again heads place w lt));
      back = some_one (waiting w.rest w.numbers) v (remove heads place) (slice_set heads place v) place next le (sym (put_other heads place v lt));
      rises = subst (λ (o : Option Waiting). IfSome o (λ (x : Waiting). IsBelow w.first.term x.first.term)) (sym next) rises;
    }

pub passed_last : (heads : List Waiting) (place : ℕ) (w v : Waiting) → place < length heads → ((d : Waiting) → get_or heads place d ≡ w) → waiting w.rest w.numbers ≡ None
    → IsPassed w heads (remove (slice_set heads place v) place)
passed_last heads place w v lt is none =
    let le : place ≤ length (remove heads place) = omega (arith, length-remove heads place lt) in
    record {
      others = remove heads place;
      was = (place, le, sym (ap (insert (remove heads place) place) (sym (is w)) ∙ put_again heads place w lt));
      back = subst (λ (o : Option Waiting). IsPutBack o (remove heads place) (remove (slice_set heads place v) place)) (sym none) (removed_other heads place v);
      rises = subst (λ (o : Option Waiting). IfSome o (λ (x : Waiting). IsBelow w.first.term x.first.term)) (sym none) tt;
    }

-- where the place is that of no source, there is none
pub none_waits_here : (heads : List Waiting) (losers : List ℕ) (place : ℕ) → HavePlayed heads losers place → length heads ≤ place → heads ≡ []
none_waits_here [] losers place h le = refl
none_waits_here (w ∷ ws) losers place h le =
    absurd (omega (arith, le, h.first, winner_within h.wins (length (w ∷ ws)) 1 h.played.within (omega arith)))

-- the fields of all next terms, where the least one is known
pub fields_from : (heads : List Waiting) (losers : List ℕ) (place : ℕ) (w : Waiting) (field : List ℕ) → HavePlayed heads losers place → place < length heads
    → w ≡ get_or heads place w → field ≡ w.first.term.field → (k : ℕ) (d : Waiting) → k < length heads → slice_cmp nat_cmp (get_or heads k d).first.term.field field ≡ Less → ⊥
fields_from heads losers place w field played lt is named k d in' less =
    let first : IsFirst (record { waiting = heads; place = place; field = field }) w = is_first heads losers place w field played lt is in
    field_from (get_or heads k d).first.term w.first.term (All-from_recursion (λ (v : Waiting). IsBelow v.first.term w.first.term → ⊥) heads first.from k d in')
    (subst (λ (f : List ℕ). slice_cmp nat_cmp (get_or heads k d).first.term.field f ≡ Less) named less)
