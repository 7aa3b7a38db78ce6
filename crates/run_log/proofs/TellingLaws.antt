-- What the workers of a round were told is an order of the round's lines.
use Rattle.std.proofs.Common.{◌≡◌, ◌≢◌, ◌∙◌, ℕ, ◌+◌, ◌%◌, Bool, true, false, cond, eqb, eq-eqb, eqb-true, ne_eqb, List, [], ◌∷◌, map, length}
use Rattle.std.proofs.Common.{refl, sym, ap, subst, inl, inr}
use Rattle.std.proofs.lemmas.Bool.Decides.{eqb_tells}
use Rattle.std.proofs.lemmas.List.{length-map}
use Rattle.std.specs.List.{AllByRecursion, filter}
use Rattle.ix_base.specs.declared.document.Operation.{Operation}
use Rattle.op_script.specs.Shape.{LinesRise}
use Rattle.op_script.specs.declared.script.Line.{Line}
use Rattle.row_fates.specs.Fate.{Numbered}
use Rattle.run_log.proofs.Lists.{Decided, each_pair, each_mapped, each_behind, each_passed, each_of_filter, filter_twice, filter_mapped, each_by_key}
use Rattle.run_log.specs.Headline.{number_of, operations}
use Rattle.round_order.specs.Order.{Working, told_of, seconds}
use Rattle.run_log.proofs.PlaceLaws.{places_differ}
use Rattle.run_log.specs.Telling.{Tell, IsTell, lines_of, pairs_of, of_caller, IsPartOf, AreTells, PlacesDiffer, IsOrder}

-- ---- the tells in the order of their numbers

-- the tells of worker i of n
abbrev pub tells_by : ℕ → ℕ → List Tell → List Tell
tells_by n i tells = filter (λ (t : Tell). eqb (t.line.caller % n) i) tells

-- the numbers are consecutive, and the first is the one after `base`
abbrev NumbersFollow : ℕ → List Tell → Type 0
NumbersFollow base [] = Unit {0}
NumbersFollow base (t ∷ us) = (t.number ≡ base + 1) × NumbersFollow (base + 1) us

abbrev ops_of : List Tell → List Operation
ops_of us = map (λ (t : Tell). t.op) us

-- a worker's first tell, and what it was told after it
record First (number : ℕ) (op : Operation) (rest : List Numbered) (tells : List Tell) : Type 0 where
  tell : Tell
  others : List Tell
  is : tells ≡ tell ∷ others
  number_is : tell.number ≡ number
  op_is : tell.op ≡ op
  rest_is : rest ≡ pairs_of others

abbrev head_pair : Numbered → List Numbered → Numbered
head_pair d [] = d
head_pair d (p ∷ ps) = p

abbrev rest_pairs : List Numbered → List Numbered
rest_pairs [] = []
rest_pairs (p ∷ ps) = ps

first_of : (number : ℕ) (op : Operation) (rest : List Numbered) (tells : List Tell)
    → (number, op) ∷ rest ≡ pairs_of tells → First number op rest tells
first_of number op rest [] e = absurd cc
first_of number op rest (t ∷ tells) e = record {
  tell = t;
  others = tells;
  is = refl;
  number_is = sym (ap (λ (ps : List Numbered). (head_pair (number, op) ps).0) e);
  op_is = sym (ap (λ (ps : List Numbered). (head_pair (number, op) ps).1) e);
  rest_is = ap (λ (ps : List Numbered). rest_pairs ps) e;
}

no_tell : (tells : List Tell) → [] ≡ pairs_of tells → [] ≡ tells
no_tell [] e = refl
no_tell (t ∷ tells) e = absurd cc

-- what each worker is yet to be told, once worker w was told its first
abbrev less : (ℕ → List Tell) → ℕ → List Tell → ℕ → List Tell
less told w rest i = cond (eqb w i) rest (told i)

-- the tells of all workers in the order of these operations
record Merged (n base : ℕ) (ts : List Working) (told : ℕ → List Tell) : Type 0 where
  us : List Tell
  by : (i : ℕ) → tells_by n i us ≡ told i
  follow : NumbersFollow base us
  ops : ops_of us ≡ seconds ts

abbrev AreOwn : ℕ → (ℕ → List Tell) → Type 0
AreOwn n told = (i : ℕ) → AllByRecursion (λ (t : Tell). t.line.caller % n ≡ i) (told i)

module _ (n base : ℕ) (t : Working) (ts : List Working) (told : ℕ → List Tell) where
  of_first : ((i : ℕ) → told_of i base (t ∷ ts) ≡ pairs_of (told i))
      → First (base + 1) t.1 (told_of t.0 (base + 1) ts) (told t.0)
  of_first order =
      let own : told_of t.0 base (t ∷ ts) ≡ (base + 1, t.1) ∷ told_of t.0 (base + 1) ts =
      rw (eq-eqb t.0 t.0 refl) refl in
      first_of (base + 1) t.1 (told_of t.0 (base + 1) ts) (told t.0) (sym own ∙ order t.0)

  order_less : (f : First (base + 1) t.1 (told_of t.0 (base + 1) ts) (told t.0))
      → ((i : ℕ) → told_of i base (t ∷ ts) ≡ pairs_of (told i))
      → (i : ℕ) → told_of i (base + 1) ts ≡ pairs_of (less told t.0 f.others i)
  order_less f order i = by (eqb_tells t.0 i)
    where
      by : Decided t.0 i → told_of i (base + 1) ts ≡ pairs_of (less told t.0 f.others i)
      by (inl k) = rw k.0 (subst (λ (j : ℕ). told_of j (base + 1) ts ≡ pairs_of f.others) k.1 f.rest_is)
      by (inr k) =
          let passed : told_of i base (t ∷ ts) ≡ told_of i (base + 1) ts = rw k.0 refl in
          rw k.0 (sym passed ∙ order i)

  own_less : (f : First (base + 1) t.1 (told_of t.0 (base + 1) ts) (told t.0)) → AreOwn n told
      → AreOwn n (less told t.0 f.others)
  own_less f own i = by (eqb_tells t.0 i)
    where
      IsOwn : Tell → Type 0
      IsOwn x = x.line.caller % n ≡ i

      by : Decided t.0 i → AllByRecursion IsOwn (less told t.0 f.others i)
      by (inl k) =
          let all : AllByRecursion IsOwn (f.tell ∷ f.others) =
          subst (AllByRecursion IsOwn) (sym (ap told k.1) ∙ f.is) (own i) in
          rw k.0 all.1
      by (inr k) = rw k.0 (own i)

  by_first : (f : First (base + 1) t.1 (told_of t.0 (base + 1) ts) (told t.0)) → AreOwn n told → (us : List Tell)
      → ((i : ℕ) → tells_by n i us ≡ less told t.0 f.others i) → (i : ℕ) → tells_by n i (f.tell ∷ us) ≡ told i
  by_first f own us rest i =
      let mine : AllByRecursion (λ (x : Tell). x.line.caller % n ≡ t.0) (f.tell ∷ f.others) =
      subst (AllByRecursion (λ (x : Tell). x.line.caller % n ≡ t.0)) f.is (own t.0) in
      by mine.0 (eqb_tells t.0 i) (rest i)
    where
      by : f.tell.line.caller % n ≡ t.0 → Decided t.0 i
          → tells_by n i us ≡ less told t.0 f.others i → tells_by n i (f.tell ∷ us) ≡ told i
      by of (inl k) rest =
          let here : eqb (f.tell.line.caller % n) i ≡ true = eq-eqb (f.tell.line.caller % n) i (of ∙ k.1) in
          let others : less told t.0 f.others i ≡ f.others = rw k.0 refl in
          rw here (ap (λ (l : List Tell). f.tell ∷ l) (rest ∙ others) ∙ sym f.is ∙ ap told k.1)
      by of (inr k) rest =
          let elsewhere : eqb (f.tell.line.caller % n) i ≡ false =
          ne_eqb (f.tell.line.caller % n) i (λ same. k.1 (sym of ∙ same)) in
          let others : less told t.0 f.others i ≡ told i = rw k.0 refl in
          rw elsewhere (rest ∙ others)

merge : (n base : ℕ) (ts : List Working) (told : ℕ → List Tell) → ((i : ℕ) → told_of i base ts ≡ pairs_of (told i))
    → AreOwn n told → Merged n base ts told
merge n base [] told order own = record { us = []; by = λ i. no_tell (told i) (order i); follow = tt; ops = refl }
merge n base (t ∷ ts) told order own =
    let f = of_first n base t ts told order in
    let rest =
    merge n (base + 1) ts (less told t.0 f.others) (order_less n base t ts told f order)
    (own_less n base t ts told f own) in
    record {
      us = f.tell ∷ rest.us;
      by = by_first n base t ts told f own rest.us rest.by;
      follow = (f.number_is, rest.follow);
      ops = ap (λ (op : Operation). op ∷ ops_of rest.us) f.op_is ∙ ap (λ (ops : List Operation). t.1 ∷ ops) rest.ops;
    }

-- ---- what the order of the tells says of their lines

operations_of : (us : List Tell) → AllByRecursion IsTell us → operations (lines_of us) ≡ ops_of us
operations_of [] h = refl
operations_of (t ∷ us) h = rw h.0 (ap (λ (ops : List Operation). t.op ∷ ops) (operations_of us h.1))

-- a tell's number is that of its line
abbrev pub HasNumber : ℕ → List Line → Tell → Type 0
HasNumber base log t = number_of base log t.line.line ≡ t.number

numbers_found : (base : ℕ) (us : List Tell) → NumbersFollow base us → PlacesDiffer (lines_of us)
    → AllByRecursion (HasNumber base (lines_of us)) us
numbers_found base [] follow apart = tt
numbers_found base (t ∷ us) follow apart = (
  rw (eq-eqb t.line.line t.line.line refl) (sym follow.0),
  each_pair (λ (u : Tell). u.line.line ≢ t.line.line) (HasNumber (base + 1) (lines_of us))
      (HasNumber base (lines_of (t ∷ us))) us passed
      (each_behind (λ (u : Tell). u.line) (λ (l : Line). l.line ≢ t.line.line) us apart.0)
      (numbers_found (base + 1) us follow.1 apart.1),
)
  where
    passed : (u : Tell) → u.line.line ≢ t.line.line → HasNumber (base + 1) (lines_of us) u
        → HasNumber base (lines_of (t ∷ us)) u
    passed u ne is = rw (ne_eqb t.line.line u.line.line (λ same. ne (sym same))) is

-- a caller's lines among all tells are those among its worker's tells
callers_same : (n : ℕ) (us : List Tell) (told : ℕ → List Tell) → ((i : ℕ) → tells_by n i us ≡ told i)
    → (c : ℕ) → of_caller c (lines_of us) ≡ of_caller c (lines_of (told (c % n)))
callers_same n us told by c =
    filter_mapped (λ (t : Tell). t.line) (λ (l : Line). eqb l.caller c) us
    ∙ ap lines_of (sym (filter_twice is_callers is_workers us within)
    ∙ ap (λ (l : List Tell). filter is_callers l) (by (c % n)))
    ∙ sym (filter_mapped (λ (t : Tell). t.line) (λ (l : Line). eqb l.caller c) (told (c % n)))
  where
    is_callers : Tell → Bool
    is_callers t = eqb t.line.caller c

    is_workers : Tell → Bool
    is_workers t = eqb (t.line.caller % n) (c % n)

    within : (t : Tell) → is_callers t ≡ true → is_workers t ≡ true
    within t e = eq-eqb (t.line.caller % n) (c % n) (ap (λ (k : ℕ). k % n) (eqb-true t.line.caller c e))

-- what is true of each worker's tells is true of each tell, and the other way round
each_told : (n : ℕ) (P : Tell → Type 0) (us : List Tell) (told : ℕ → List Tell)
    → ((i : ℕ) → tells_by n i us ≡ told i) → ((i : ℕ) → AllByRecursion P (told i)) → AllByRecursion P us
each_told n P us told by h =
    each_by_key (λ (t : Tell). t.line.caller % n) P us (λ i. subst (AllByRecursion P) (sym (by i)) (h i))

told_each : (n : ℕ) (P : Tell → Type 0) (us : List Tell) (told : ℕ → List Tell)
    → ((i : ℕ) → tells_by n i us ≡ told i) → AllByRecursion P us → (i : ℕ) → AllByRecursion P (told i)
told_each n P us told by h i =
    subst (AllByRecursion P) (by i) (each_of_filter (λ (t : Tell). eqb (t.line.caller % n) i) P us h)

-- ---- the order

-- The lines of a round whose workers were told these operations, in the order of their numbers.
pub order_of : (n base low : ℕ) (script : List Line) (told : ℕ → List Tell) (ts : List Working)
    → LinesRise low script → AreTells n script told
    → ((worker : ℕ) → told_of worker base ts ≡ pairs_of (told worker))
    → (more : List Line) × IsOrder n base told ts more
order_of n base low script told ts rise tells order =
    let m = merge n base ts told order tells.own in
    let callers : (c : ℕ) → of_caller c (lines_of m.us) ≡ of_caller c (lines_of (told (c % n))) =
    callers_same n m.us told m.by in
    let apart : PlacesDiffer (lines_of m.us) = places_differ low script (lines_of m.us) rise
    (λ c. subst (λ (ls : List Line). IsPartOf ls (of_caller c script)) (sym (callers c)) (tells.part c)) in (
      lines_of m.us,
      record {
        ops = operations_of m.us (each_told n IsTell m.us told m.by tells.good) ∙ m.ops;
        count =
            length-map m.us (λ (t : Tell). t.line) ∙ sym (length-map m.us (λ (t : Tell). t.op))
            ∙ ap (λ (ops : List Operation). length ops) m.ops
            ∙ length-map ts (λ (t : Working). t.1);
        callers = callers;
        numbers =
            told_each n (HasNumber base (lines_of m.us)) m.us told m.by (numbers_found base m.us m.follow apart);
        apart = apart;
      },
    )

-- ---- the lines of an order are those of the tells

-- What is true of each tell's line is true of each line of the order, and the other way round.
pub within_all : (n base : ℕ) (told : ℕ → List Tell) (ts : List Working) (more : List Line)
    → IsOrder n base told ts more → (P : Line → Type 0)
    → ((worker : ℕ) → AllByRecursion P (lines_of (told worker))) → AllByRecursion P more
within_all n base told ts more o P h = each_by_key (λ (l : Line). l.caller) P more callers
  where
    callers : (c : ℕ) → AllByRecursion P (of_caller c more)
    callers c =
        subst (AllByRecursion P) (sym (o.callers c))
        (each_of_filter (λ (l : Line). eqb l.caller c) P (lines_of (told (c % n))) (h (c % n)))

pub told_all : (n base : ℕ) (script : List Line) (told : ℕ → List Tell) (ts : List Working) (more : List Line)
    → AreTells n script told → IsOrder n base told ts more → (P : Line → Type 0) → AllByRecursion P more
    → (worker : ℕ) → AllByRecursion P (lines_of (told worker))
told_all n base script told ts more tells o P h worker =
    each_by_key (λ (l : Line). l.caller) P (lines_of (told worker)) (λ c. by c (eqb_tells (c % n) worker))
  where
    IsOwn : Line → Type 0
    IsOwn l = l.caller % n ≡ worker

    own : AllByRecursion IsOwn (lines_of (told worker))
    own = each_mapped (λ (t : Tell). t.line) IsOwn (told worker) (tells.own worker)

    by : (c : ℕ) → Decided (c % n) worker → AllByRecursion P (of_caller c (lines_of (told worker)))
    by c (inl k) =
        subst (λ (i : ℕ). AllByRecursion P (of_caller c (lines_of (told i)))) k.1
        (subst (AllByRecursion P) (o.callers c) (each_of_filter (λ (l : Line). eqb l.caller c) P more h))
    by c (inr k) =
        each_pair (λ (l : Line). l.caller ≡ c) IsOwn P (of_caller c (lines_of (told worker)))
        (λ l is of. absurd (k.1 (sym (ap (λ (i : ℕ). i % n) is) ∙ of)))
        (each_passed (λ (l : Line). eqb l.caller c) (λ (l : Line). l.caller ≡ c) (lines_of (told worker))
        (λ l e. eqb-true l.caller c e))
        (each_of_filter (λ (l : Line). eqb l.caller c) IsOwn (lines_of (told worker)) own)
