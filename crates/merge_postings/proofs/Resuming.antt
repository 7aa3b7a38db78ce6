-- Sources that are walked on behind a term that was reached.
use Rattle.std.proofs.Common.{◌≡◌, ℕ, zero, suc, ◌+◌, ◌<◌, ◌≤◌, Option, Some, None, List, [], ◌∷◌, ◌++◌, Bool, true, false, ◌&&◌, ◌||◌, length, get_or, drop, drop-cons, take, ◌⊎◌, inl, inr, refl, sym, ap, ◌∙◌, subst, arith}
use Rattle.std.specs.List.{All, AllByRecursion, list_any}
use Rattle.std.specs.Option.{IfSome}
use Rattle.std.specs.Str.{bytes_eq}
use Rattle.std.proofs.lemmas.Bool.{cases_lt}
use Rattle.std.proofs.lemmas.Slice.Eq.{bytes_eq-Decides}
use Rattle.std.proofs.lemmas.List.Elements.{recursion_from_All}
use Rattle.std.proofs.lemmas.List.{get_or_default}
use Rattle.std.proofs.lemmas.List.Folds.{list_any-append}
use Rattle.ix_base.proofs.GroupedLaws.{or_false}
use Rattle.ix_base.specs.Inversion.{IsPostings, posted, posted_at}
use Rattle.ix_base.specs.declared.document.Term.{Term}
use Rattle.ix_base.specs.declared.postings.Postings.{Postings}
use Rattle.ix_base.specs.declared.postings.TermPostings.{TermPostings}
use Rattle.ix_base.proofs.TermOrder.{term_total}
use Rattle.merge_postings.specs.Renumbering.{CanMove, HasMoved, Moving, NumbersRise, any_moved, is_named, moved, moved_at}
use Rattle.merge_postings.specs.Steps.{AreResumed, IsAllBeyond, IsBeyond, IsMergedUpto, IsReached, IsResumed, Walked, WalkedUpto}
use Rattle.merge_postings.specs.Walk.{Adds, CanWait, IsBelow, IsPutBack, PutsTerm, StartAbove, Waiting, any_waiting, waiting}
use Rattle.merge_postings.specs.Tree.{IsFirst, Queued}
use Rattle.merge_postings.specs.declared.partly.PartlyMerged.{PartlyMerged}
use Rattle.merge_postings.proofs.Queued.{above_not_below, less_not_itself, tail_ordered, tri}
use Rattle.merge_postings.proofs.Taking.{back_all, back_any}
use Rattle.merge_postings.proofs.Walking.{made_before, walk}

-- ---- terms that were reached, and those beyond

pub reached_or_beyond : (upto : Option Term) (t : Term) → IsReached upto t ⊎ IsBeyond upto t
reached_or_beyond None t = inr tt
reached_or_beyond (Some u) t = go (tri u t)
  where
    go : IsBelow u t ⊎ ((u ≡ t) ⊎ IsBelow t u) → IsReached (Some u) t ⊎ IsBelow u t
    go (inl l) = inr l
    go (inr (inl e)) = inl (λ l. less_not_itself u (subst (IsBelow u) (sym e) l))
    go (inr (inr g)) = inl (above_not_below t u g)

apart : (upto : Option Term) (a b : Term) → IsReached upto a → IsBeyond upto b → a ≡ b → ⊥
apart None a b no_ yes_ e = no_
apart (Some u) a b no_ yes_ e = no_ (subst (IsBelow u) (sym e) yes_)

below_beyond : (upto : Option Term) (a b : Term) → IsReached upto a → IsBeyond upto b → IsBelow a b
below_beyond None a b no_ yes_ = absurd no_
below_beyond (Some u) a b no_ yes_ = go (tri a u)
  where
    go : IsBelow a u ⊎ ((a ≡ u) ⊎ IsBelow u a) → IsBelow a b
    go (inl l) = term_total.trans a u b l yes_
    go (inr (inl e)) = subst (λ (t : Term). IsBelow t b) (sym e) yes_
    go (inr (inr g)) = absurd (no_ g)

all_map : {X : Type 0} (P Q : X → Type 0) → ((x : X) → P x → Q x) → (xs : List X) → AllByRecursion P xs → AllByRecursion Q xs
all_map P Q f [] all = tt
all_map P Q f (x ∷ xs) all = (f x all.0, all_map P Q f xs all.1)

-- ---- terms that don't stand in entries

same_bytes : (a b : List ℕ) → bytes_eq a b ≡ true → a ≡ b
same_bytes a b e = (bytes_eq-Decides a b).0 e

named_term : (t e : Term) → is_named t.field t.bytes e ≡ true → e ≡ t
named_term t e is =
    let f : e.field ≡ t.field = same_bytes e.field t.field (left (bytes_eq e.field t.field) (bytes_eq e.bytes t.bytes) is) in
    let b : e.bytes ≡ t.bytes = same_bytes e.bytes t.bytes (right (bytes_eq e.field t.field) (bytes_eq e.bytes t.bytes) is) in
    λ i. record { field = f i; bytes = b i }
  where
    left : (a b : Bool) → (a && b) ≡ true → a ≡ true
    left true b e = refl
    left false b e = absurd (cc)

    right : (a b : Bool) → (a && b) ≡ true → b ≡ true
    right true b e = e
    right false b e = absurd (cc)

none_named : (t : Term) (f : TermPostings → Bool) (es : List TermPostings) → AllByRecursion (λ (e : TermPostings). e.term ≡ t → ⊥) es
    → list_any (λ (e : TermPostings). is_named t.field t.bytes e.term && f e) es ≡ false
none_named t f [] all = refl
none_named t f (e ∷ es) all = go (is_named t.field t.bytes e.term) refl (none_named t f es all.1)
  where
    rest : Bool
    rest = list_any (λ (x : TermPostings). is_named t.field t.bytes x.term && f x) es

    go : (b : Bool) → is_named t.field t.bytes e.term ≡ b → rest ≡ false → ((is_named t.field t.bytes e.term && f e) || rest) ≡ false
    go true is more = absurd (all.0 (named_term t e.term is))
    go false is more = ap (λ (b : Bool). (b && f e) || rest) is ∙ more

others_reached : (upto : Option Term) (t : Term) (es : List TermPostings) → AllByRecursion (λ (e : TermPostings). IsReached upto e.term) es → IsBeyond upto t
    → AllByRecursion (λ (e : TermPostings). e.term ≡ t → ⊥) es
others_reached upto t es all is = all_map (λ (e : TermPostings). IsReached upto e.term) (λ (e : TermPostings). e.term ≡ t → ⊥) (λ e r. apart upto e.term t r is) es all

others_beyond : (upto : Option Term) (t : Term) (es : List TermPostings) → AllByRecursion (λ (e : TermPostings). IsBeyond upto e.term) es → IsReached upto t
    → AllByRecursion (λ (e : TermPostings). e.term ≡ t → ⊥) es
others_beyond upto t es all is = all_map (λ (e : TermPostings). IsBeyond upto e.term) (λ (e : TermPostings). e.term ≡ t → ⊥) (λ e b same. apart upto t e.term is b (sym same)) es all

none_waits : (upto : Option Term) (t : Term) (queue : List Waiting) (r x : ℕ) → AllByRecursion (IsAllBeyond upto) queue → IsReached upto t
    → any_waiting queue t.field t.bytes r x ≡ false
none_waits upto t [] r x all is = refl
none_waits upto t (w ∷ ws) r x all is =
    ap (λ (b : Bool). b || any_waiting ws t.field t.bytes r x) (none_named t (λ (e : TermPostings). moved_at w.numbers e.rows r x) (w.first ∷ w.rest) (others_beyond upto t (w.first ∷ w.rest) all.0 is))
    ∙ none_waits upto t ws r x all.1 is

-- ---- where a source goes on

pub split : (es : List TermPostings) (n : ℕ) → es ≡ take n es ++ drop n es
split es zero = refl
split [] (suc n) = refl
split (e ∷ es) (suc n) = ap (λ (l : List TermPostings). e ∷ l) (split es n)

pub resumed : (upto : Option Term) (s : Moving) (n : ℕ) (rest : List TermPostings) (o : Option Waiting) → All (λ (e : TermPostings). IsReached upto e.term) (take n s.terms)
    → All (λ (e : TermPostings). IsBeyond upto e.term) (drop n s.terms) → rest ≡ drop n s.terms → o ≡ waiting rest s.numbers → IsResumed upto s o
resumed upto s n rest o reached beyond rest_is is = record {
  before = take n s.terms;
  rest = drop n s.terms;
  all = split s.terms n;
  reached = recursion_from_All (λ (e : TermPostings). IsReached upto e.term) (take n s.terms) reached;
  beyond = recursion_from_All (λ (e : TermPostings). IsBeyond upto e.term) (drop n s.terms) beyond;
  is = is ∙ ap (λ (es : List TermPostings). waiting es s.numbers) rest_is;
}

-- an entry in the middle that is above the term: those behind it are too
pub middle_above : (u : Term) (es : List TermPostings) (m : ℕ) (d : TermPostings) → IsPostings es → m < length es → IsBelow u (get_or es m d).term
    → (k : ℕ) (e : TermPostings) → m ≤ k → k < length es → IsBelow u (get_or es k e).term
middle_above u es m d ordered lt low k e from in' = go (cases_lt m k)
  where
    go : (m < k) ⊎ (k ≤ m) → IsBelow u (get_or es k e).term
    go (inl l) = term_total.trans u (get_or es m e).term (get_or es k e).term (subst (λ (x : TermPostings). IsBelow u x.term) (get_or_default es m d e lt) low) (ordered.rise m k e l in')
    go (inr g) =
        let same : m ≡ k = omega arith in
        subst (λ (x : TermPostings). IsBelow u x.term) (get_or_default es m d e lt ∙ ap (λ (i : ℕ). get_or es i e) same) low

-- one that isn't: those before it aren't either
pub middle_reached : (u : Term) (es : List TermPostings) (m : ℕ) (d : TermPostings) → IsPostings es → m < length es → (IsBelow u (get_or es m d).term → ⊥)
    → (k : ℕ) (e : TermPostings) → k < m + 1 → k < length es → IsBelow u (get_or es k e).term → ⊥
middle_reached u es m d ordered lt low k e upto in' l = go (cases_lt k m)
  where
    go : (k < m) ⊎ (m ≤ k) → ⊥
    go (inl less) = low (subst (λ (x : TermPostings). IsBelow u x.term) (get_or_default es m e d lt) (term_total.trans u (get_or es k e).term (get_or es m e).term l (ordered.rise k m e less lt)))
    go (inr g) =
        let same : k ≡ m = omega arith in
        low (subst (λ (x : TermPostings). IsBelow u x.term) (ap (λ (i : ℕ). get_or es i e) same ∙ get_or_default es m e d lt) l)

-- ---- the sources are queued

-- the sources before the i-th one wait behind what was reached
pub record Resuming (upto : Option Term) (sources : List Moving) (i : ℕ) (queue : List Waiting) : Type 0 where
  pub can : AllByRecursion CanWait queue
  pub beyond : AllByRecursion (IsAllBeyond upto) queue
  pub exact : (t : Term) (r x : ℕ) → IsBeyond upto t → (any_waiting queue t.field t.bytes r x || any_moved (drop i sources) t.field t.bytes r x) ≡ any_moved sources t.field t.bytes r x

regroup : (m a d : Bool) → ((m || a) || d) ≡ (a || (m || d))
regroup true true d = refl
regroup true false d = refl
regroup false a d = refl

rest_moved : (upto : Option Term) (s : Moving) (o : Option Waiting) (t : Term) (r x : ℕ) (is : IsResumed upto s o) → IsBeyond upto t
    → moved s.numbers is.rest t.field t.bytes r x ≡ moved s.numbers s.terms t.field t.bytes r x
rest_moved upto s o t r x is there =
    sym (ap (λ (es : List TermPostings). moved s.numbers es t.field t.bytes r x) is.all
    ∙ list_any-append (λ (e : TermPostings). is_named t.field t.bytes e.term && moved_at s.numbers e.rows r x) is.before is.rest
    ∙ ap (λ (b : Bool). b || moved s.numbers is.rest t.field t.bytes r x) (none_named t (λ (e : TermPostings). moved_at s.numbers e.rows r x) is.before (others_reached upto t is.before is.reached there)))

some_beyond : (upto : Option Term) (rest : List TermPostings) (numbers : List (Option ℕ)) → AllByRecursion (λ (e : TermPostings). IsBeyond upto e.term) rest
    → IfSome (waiting rest numbers) (IsAllBeyond upto)
some_beyond upto [] numbers all = tt
some_beyond upto (e ∷ es) numbers all = all

some_can : (rest : List TermPostings) (numbers : List (Option ℕ)) → IsPostings rest → NumbersRise numbers → IfSome (waiting rest numbers) CanWait
some_can [] numbers ordered rise = tt
some_can (e ∷ es) numbers ordered rise = record { ordered = ordered; rise = rise }

rest_ordered : (before rest : List TermPostings) → IsPostings (before ++ rest) → IsPostings rest
rest_ordered [] rest h = h
rest_ordered (e ∷ es) rest h = rest_ordered es rest (tail_ordered e (es ++ rest) h)

pub more_resumed : (upto : Option Term) (sources : List Moving) (i : ℕ) (s : Moving) (o : Option Waiting) (old new : List Waiting) → Resuming upto sources i old → i < length sources → s ≡ get_or sources i s
    → CanMove s → IsResumed upto s o → IsPutBack o old new → Resuming upto sources (i + 1) new
more_resumed upto sources i s o old new was lt is able resumed put =
    let back : IsPutBack (waiting resumed.rest s.numbers) old new = subst (λ (w : Option Waiting). IsPutBack w old new) resumed.is put in
    let more : i + 1 ≡ suc i = omega arith in
    let left : drop i sources ≡ s ∷ drop (suc i) sources = drop-cons sources i s lt ∙ ap (λ (t : Moving). t ∷ drop (suc i) sources) (sym is) in
    record {
      can = back_all CanWait (waiting resumed.rest s.numbers) old new back was.can
          (some_can resumed.rest s.numbers (rest_ordered resumed.before resumed.rest (subst IsPostings resumed.all able.ordered)) able.rise);
      beyond = back_all (IsAllBeyond upto) (waiting resumed.rest s.numbers) old new back was.beyond (some_beyond upto resumed.rest s.numbers resumed.beyond);
      exact = λ t r x there.
          (λ j. back_any resumed.rest s.numbers old new back t.field t.bytes r x j || any_moved (drop (more j) sources) t.field t.bytes r x)
          ∙ ap (λ (b : Bool). (b || any_waiting old t.field t.bytes r x) || any_moved (drop (suc i) sources) t.field t.bytes r x) (rest_moved upto s o t r x resumed there)
          ∙ regroup (moved s.numbers s.terms t.field t.bytes r x) (any_waiting old t.field t.bytes r x) (any_moved (drop (suc i) sources) t.field t.bytes r x)
          ∙ ap (λ (ss : List Moving). any_waiting old t.field t.bytes r x || any_moved ss t.field t.bytes r x) (sym left)
          ∙ was.exact t r x there;
    }

pub all_resumed : (upto : Option Term) (sources : List Moving) (i : ℕ) (queue : List Waiting) → Resuming upto sources i queue → length sources ≤ i → AreResumed upto sources queue
all_resumed upto sources i queue was le = record {
  can = was.can;
  beyond = was.beyond;
  exact = λ t r x there.
      or_false (any_waiting queue t.field t.bytes r x)
      ∙ ap (λ (ss : List Moving). any_waiting queue t.field t.bytes r x || any_moved ss t.field t.bytes r x) (sym (past sources i le))
      ∙ was.exact t r x there;
}
  where
    past : (ss : List Moving) (j : ℕ) → length ss ≤ j → drop j ss ≡ []
    past [] zero h = refl
    past [] (suc j) h = refl
    past (s ∷ ss) zero h = absurd (omega (arith, h))
    past (s ∷ ss) (suc j) h = past ss j (omega (arith, h))

-- ---- the walk goes on

made_below : (upto : Option Term) (queue : List Waiting) (made : List TermPostings) → AllByRecursion (IsAllBeyond upto) queue → AllByRecursion (λ (e : TermPostings). IsReached upto e.term) made
    → AllByRecursion (λ (e : TermPostings). StartAbove e.term queue) made
made_below upto queue made beyond within =
    all_map (λ (e : TermPostings). IsReached upto e.term) (λ (e : TermPostings). StartAbove e.term queue)
    (λ e reached. all_map (IsAllBeyond upto) (λ (w : Waiting). IsBelow e.term w.first.term) (λ w b. below_beyond upto e.term w.first.term reached b.0) queue beyond) made within

pub walked_from : (sources : List Moving) (m : PartlyMerged) (queue : List Waiting) → IsMergedUpto sources m → AreResumed m.upto sources queue → Walked sources queue m.terms
walked_from sources m queue was resumed = record {
  exact = λ field bytes r x. go (record { field = field; bytes = bytes }) r x (reached_or_beyond m.upto (record { field = field; bytes = bytes }));
  can = resumed.can;
  ordered = was.ordered;
  below = made_below m.upto queue m.terms resumed.beyond was.within;
}
  where
    go : (t : Term) (r x : ℕ) → IsReached m.upto t ⊎ IsBeyond m.upto t → (posted m.terms t.field t.bytes r x || any_waiting queue t.field t.bytes r x) ≡ any_moved sources t.field t.bytes r x
    go t r x (inl reached) =
        ap (λ (b : Bool). posted m.terms t.field t.bytes r x || b) (none_waits m.upto t queue r x resumed.beyond reached)
        ∙ sym (or_false (posted m.terms t.field t.bytes r x))
        ∙ was.exact t r x reached
    go t r x (inr there) =
        ap (λ (b : Bool). b || any_waiting queue t.field t.bytes r x) (none_named t (λ (e : TermPostings). posted_at e.rows r x) m.terms (others_reached m.upto t m.terms was.within there))
        ∙ resumed.exact t r x there

-- where the first term of a source is above a term, all are
all_above : (u : Term) (w : Waiting) → CanWait w → IsBelow u w.first.term → IsAllBeyond (Some u) w
all_above u w can low = (low, go w.rest (λ i d lt. term_total.trans u w.first.term (get_or w.rest i d).term low (can.ordered.rise 0 (suc i) d (omega arith) (omega (arith, lt)))))
  where
    go : (es : List TermPostings) → ((i : ℕ) (d : TermPostings) → i < length es → IsBelow u (get_or es i d).term) → AllByRecursion (λ (e : TermPostings). IsBelow u e.term) es
    go [] h = tt
    go (e ∷ es) h = (h 0 e (omega arith), go es (λ i d lt. h (suc i) d (omega (arith, lt))))

all_waits_above : (u : Term) (queue : List Waiting) → AllByRecursion CanWait queue → StartAbove u queue → AllByRecursion (IsAllBeyond (Some u)) queue
all_waits_above u [] can above = tt
all_waits_above u (w ∷ ws) can above = (all_above u w can.0 above.0, all_waits_above u ws can.1 above.1)

pub walked_upto : (sources : List Moving) (u : Term) (queue : List Waiting) (m : PartlyMerged) → WalkedUpto sources u queue m.terms → m.upto ≡ Some u → IsMergedUpto sources m
walked_upto sources u queue m w is = record {
  ordered = w.walked.ordered;
  within = subst (λ (upto : Option Term). AllByRecursion (λ (e : TermPostings). IsReached upto e.term) m.terms) (sym is) w.within;
  exact = λ t r x reached.
      or_false (posted m.terms t.field t.bytes r x)
      ∙ ap (λ (b : Bool). posted m.terms t.field t.bytes r x || b)
      (sym (none_waits (Some u) t queue r x (all_waits_above u queue w.walked.can w.above) (subst (λ (upto : Option Term). IsReached upto t) is reached)))
      ∙ w.walked.exact t.field t.bytes r x;
}

-- one more term
pub walk_upto : (sources : List Moving) (q : Queued) (left : List Waiting) (h : Waiting) (made new : List TermPostings) → IsFirst q h → Walked sources q.waiting made
    → PutsTerm h.first.term q.waiting left made new → WalkedUpto sources h.first.term left new
walk_upto sources q left h made new is w puts = record {
  walked = walk sources q left h made new is w puts;
  within = go puts.adds;
  above = puts.taken.above;
}
  where
    u : Term
    u = h.first.term

    old : AllByRecursion (λ (e : TermPostings). IsBelow u e.term → ⊥) made
    old = all_map (λ (e : TermPostings). IsBelow e.term u) (λ (e : TermPostings). IsBelow u e.term → ⊥) (λ e l. above_not_below e.term u l) made (made_before q h made is w.below)

    push : (es : List TermPostings) (e : TermPostings) → AllByRecursion (λ (x : TermPostings). IsBelow u x.term → ⊥) es → (IsBelow u e.term → ⊥) → AllByRecursion (λ (x : TermPostings). IsBelow u x.term → ⊥) (es ++ e ∷ [])
    push [] e all p = (p, tt)
    push (x ∷ es) e all p = (all.0, push es e all.1 p)

    go : Adds u puts.rows made new → AllByRecursion (λ (e : TermPostings). IsBelow u e.term → ⊥) new
    go (inl k) = subst (AllByRecursion (λ (e : TermPostings). IsBelow u e.term → ⊥)) (sym k.0) old
    go (inr k) = subst (AllByRecursion (λ (e : TermPostings). IsBelow u e.term → ⊥)) (sym k.1)
        (push made k.0 old (λ l. less_not_itself u (subst (IsBelow u) k.2 l)))

-- all terms were made
pub all_walked : (sources : List Moving) (made : Postings) → Walked sources [] made.terms → HasMoved sources made
all_walked sources made w field bytes r x = or_false (posted made.terms field bytes r x) ∙ w.exact field bytes r x
