-- The places of lines in the script, and the numbers of lines by them.
use Rattle.std.proofs.Common.{◌≡◌, ◌≢◌, ◌∙◌, ℕ, ◌+◌, ◌≤◌, Bool, true, false, cond, eqb, eq-eqb, eqb-true, ne_eqb, List, [], ◌∷◌, ◌++◌, refl, sym, ap, subst, inl, inr, arith}
use Rattle.std.proofs.lemmas.Bool.Decides.{eqb_tells}
use Rattle.std.specs.List.{AllByRecursion, filter}
use Rattle.op_script.specs.Shape.{LinesRise}
use Rattle.op_script.specs.declared.script.Line.{Line}
use Rattle.run_log.proofs.Lists.{Decided, each_says, each_pair, each_in_part, each_passed, each_of_filter, each_by_key}
use Rattle.run_log.specs.Telling.{IsPartOf, PlacesDiffer}
pub use Rattle.run_log.specs.Telling.{of_caller}

pub rise_from_lower : (low high : ℕ) (ls : List Line) → low ≤ high → LinesRise high ls → LinesRise low ls
rise_from_lower low high [] le h = tt
rise_from_lower low high (l ∷ ls) le h = (omega (arith, le, h.0), h.1)

pub none_below : (low : ℕ) (ls : List Line) → LinesRise low ls → AllByRecursion (λ (l : Line). low ≤ l.line) ls
none_below low [] h = tt
none_below low (l ∷ ls) h = (
  h.0,
  each_says (λ (y : Line). l.line + 1 ≤ y.line) (λ (y : Line). low ≤ y.line) ls
      (λ y le. omega (arith, le, h.0)) (none_below (l.line + 1) ls h.1),
)

-- a part of lines that rise does so
rises_behind : (low : ℕ) (front ls : List Line) → LinesRise low (front ++ ls) → LinesRise low ls
rises_behind low [] ls h = h
rises_behind low (l ∷ front) ls h =
    rise_from_lower low (l.line + 1) ls (omega (arith, h.0)) (rises_behind (l.line + 1) front ls h.1)

rises_in_front : (low : ℕ) (ls back : List Line) → LinesRise low (ls ++ back) → LinesRise low ls
rises_in_front low [] back h = tt
rises_in_front low (l ∷ ls) back h = (h.0, rises_in_front (l.line + 1) ls back h.1)

pub part_rises : (low : ℕ) (part whole : List Line) → IsPartOf part whole → LinesRise low whole → LinesRise low part
part_rises low part whole p h =
    rises_in_front low part p.back (rises_behind low p.front (part ++ p.back) (subst (LinesRise low) p.is h))

pub filter_rises : (p : Line → Bool) (low : ℕ) (ls : List Line) → LinesRise low ls → LinesRise low (filter p ls)
filter_rises p low [] h = tt
filter_rises p low (l ∷ ls) h = by_test (p l) (filter_rises p (l.line + 1) ls h.1)
  where
    by_test : (b : Bool) → LinesRise (l.line + 1) (filter p ls)
        → LinesRise low (cond b (l ∷ filter p ls) (filter p ls))
    by_test true k = (h.0, k)
    by_test false k = rise_from_lower low (l.line + 1) (filter p ls) (omega (arith, h.0)) k

-- ---- lines of several callers, of which each caller's rise, stand at different places

-- the caller of the line that stands at this place
abbrev caller_at : List Line → ℕ → ℕ
caller_at [] place = 0
caller_at (l ∷ ls) place = cond (eqb l.line place) l.caller (caller_at ls place)

abbrev IsCallersLine : List Line → Line → Type 0
IsCallersLine ls l = l.caller ≡ caller_at ls l.line

callers_lines : (low : ℕ) (ls : List Line) → LinesRise low ls → AllByRecursion (IsCallersLine ls) ls
callers_lines low [] h = tt
callers_lines low (l ∷ ls) h = (
  rw (eq-eqb l.line l.line refl) refl,
  each_pair (λ (y : Line). l.line + 1 ≤ y.line) (IsCallersLine ls) (IsCallersLine (l ∷ ls)) ls passed
      (none_below (l.line + 1) ls h.1) (callers_lines (l.line + 1) ls h.1),
)
  where
    passed : (y : Line) → l.line + 1 ≤ y.line → IsCallersLine ls y → IsCallersLine (l ∷ ls) y
    passed y le is = rw (ne_eqb l.line y.line (λ same. absurd (omega (arith, le, same)))) is

differ : (at : ℕ → ℕ) (low : ℕ) (ls : List Line) → AllByRecursion (λ (l : Line). l.caller ≡ at l.line) ls
    → ((c : ℕ) → LinesRise low (of_caller c ls)) → PlacesDiffer ls
differ at low [] is rise = tt
differ at low (l ∷ ls) is rise = (
  each_by_key (λ (y : Line). y.caller) IsElsewhere ls elsewhere,
  differ at low ls is.1
      (λ c. rest c (eqb l.caller c) (rise c)),
)
  where
    IsElsewhere : Line → Type 0
    IsElsewhere y = y.line ≢ l.line

    rest : (c : ℕ) (b : Bool) → LinesRise low (cond b (l ∷ of_caller c ls) (of_caller c ls))
        → LinesRise low (of_caller c ls)
    rest c true h = rise_from_lower low (l.line + 1) (of_caller c ls) (omega (arith, h.0)) h.1
    rest c false h = h

    other : (c : ℕ) → l.caller ≢ c → (y : Line) → y.caller ≡ at y.line → y.caller ≡ c → IsElsewhere y
    other c ne y here own same = ne (is.0 ∙ ap at (sym same) ∙ sym here ∙ own)

    by : (c : ℕ) → Decided l.caller c → AllByRecursion IsElsewhere (of_caller c ls)
    by c (inl k) =
        let behind : LinesRise low (l ∷ of_caller c ls) =
        subst (λ (b : Bool). LinesRise low (cond b (l ∷ of_caller c ls) (of_caller c ls))) k.0 (rise c) in
        each_says (λ (y : Line). l.line + 1 ≤ y.line) IsElsewhere (of_caller c ls)
        (λ y le same. absurd (omega (arith, le, same)))
        (none_below (l.line + 1) (of_caller c ls) behind.1)
    by c (inr k) =
        each_pair (λ (y : Line). y.caller ≡ at y.line) (λ (y : Line). y.caller ≡ c) IsElsewhere (of_caller c ls)
        (other c k.1)
        (each_of_filter (λ (y : Line). eqb y.caller c) (λ (y : Line). y.caller ≡ at y.line) ls is.1)
        (each_passed (λ (y : Line). eqb y.caller c) (λ (y : Line). y.caller ≡ c) ls (λ y e. eqb-true y.caller c e))

    elsewhere : (c : ℕ) → AllByRecursion IsElsewhere (of_caller c ls)
    elsewhere c = by c (eqb_tells l.caller c)

-- Lines of which those of each caller are a part of its lines in a script stand at different places.
pub places_differ : (low : ℕ) (script xs : List Line) → LinesRise low script
    → ((caller : ℕ) → IsPartOf (of_caller caller xs) (of_caller caller script)) → PlacesDiffer xs
places_differ low script xs rise part =
    differ (caller_at script) low xs (each_by_key (λ (l : Line). l.caller) (IsCallersLine script) xs callers)
    (λ c. part_rises low (of_caller c xs) (of_caller c script) (part c)
    (filter_rises (λ (l : Line). eqb l.caller c) low script rise))
  where
    callers : (c : ℕ) → AllByRecursion (IsCallersLine script) (of_caller c xs)
    callers c =
        let whole : AllByRecursion (IsCallersLine script) (of_caller c script) =
        each_of_filter (λ (l : Line). eqb l.caller c) (IsCallersLine script) script (callers_lines low script rise) in
        each_in_part (IsCallersLine script) (part c).front (of_caller c xs) (part c).back
        (subst (AllByRecursion (IsCallersLine script)) (part c).is whole)
