-- Sources that wait, by their first terms.
use Rattle.std.proofs.Common.{◌≡◌, ℕ, zero, suc, ◌+◌, ◌<◌, Option, List, [], ◌∷◌, ◌++◌, Bool, true, false, ◌||◌, length, get_or, ◌⊎◌, inl, inr, refl, sym, ap, ◌∙◌, subst, arith}
use Rattle.std.specs.List.{AllByRecursion, insert, remove, slice_set}
use Rattle.std.specs.Option.{IfSome}
use Rattle.std.specs.Ordering.{ordering_reverse}
use Rattle.std.specs.declared.cmp.Ordering.{Ordering}
use Rattle.std.specs.declared.cmp.Ordering.TheVariants.{Less, Equal, Greater}
use Rattle.std.proofs.lemmas.List.Elements.{All-tail}
use Rattle.ix_base.specs.Inversion.{term_cmp, IsPostings, IsTermPostings}
use Rattle.ix_base.specs.declared.document.Term.{Term}
use Rattle.ix_base.specs.declared.postings.TermPostings.{TermPostings}
use Rattle.ix_base.proofs.TermOrder.{term_total, term_same}
use Rattle.merge_postings.specs.Renumbering.{moved}
use Rattle.merge_postings.specs.Walk.{IsBelow, Waiting, any_waiting, entry_count, waiting}

-- ---- terms

pub less_not_itself : (a : Term) → IsBelow a a → ⊥
less_not_itself a e = let f : Less ≡ Greater = sym e ∙ term_total.antisymm a a ∙ ap ordering_reverse e in absurd (cc)

pub tri : (a b : Term) → IsBelow a b ⊎ ((a ≡ b) ⊎ IsBelow b a)
tri a b = go (term_cmp a b) refl
  where
    go : (o : Ordering) → term_cmp a b ≡ o → IsBelow a b ⊎ ((a ≡ b) ⊎ IsBelow b a)
    go Less e = inl e
    go Equal e = inr (inl (term_same a b e))
    go Greater e = inr (inr (term_total.antisymm b a ∙ ap ordering_reverse e))

pub above_not_below : (a b : Term) → IsBelow a b → IsBelow b a → ⊥
above_not_below a b l m = less_not_itself a (term_total.trans a b a l m)

pub equal_not_below : (a b : Term) → a ≡ b → IsBelow a b → ⊥
equal_not_below a b e l = less_not_itself b (subst (λ (t : Term). IsBelow t b) e l)

-- what isn't below a term that isn't below a third one isn't below that
pub through : (a b c : Term) → (IsBelow a b → ⊥) → (IsBelow b c → ⊥) → IsBelow a c → ⊥
through a b c f g l = go (tri b c)
  where
    go : IsBelow b c ⊎ ((b ≡ c) ⊎ IsBelow c b) → ⊥
    go (inl m) = g m
    go (inr (inl e)) = f (subst (IsBelow a) (sym e) l)
    go (inr (inr m)) = f (term_total.trans a c b l m)

-- what is below a term is below those that aren't below that
pub below_through : (u a b : Term) → IsBelow u a → (IsBelow b a → ⊥) → IsBelow u b
below_through u a b l f = go (tri a b)
  where
    go : IsBelow a b ⊎ ((a ≡ b) ⊎ IsBelow b a) → IsBelow u b
    go (inl m) = term_total.trans u a b l m
    go (inr (inl e)) = subst (IsBelow u) e l
    go (inr (inr m)) = absurd (f m)

-- ---- a source that is put among others

pub all_put : (P : Waiting → Type 0) (ws : List Waiting) (i : ℕ) (w : Waiting) → P w → AllByRecursion P ws → AllByRecursion P (insert ws i w)
all_put P ws zero w p all = (p, all)
all_put P [] (suc i) w p all = (p, tt)
all_put P (v ∷ ws) (suc i) w p all = (all.0, all_put P ws i w p all.1)

swap : (a b c : Bool) → (a || (b || c)) ≡ (b || (a || c))
swap true true c = refl
swap true false c = refl
swap false b c = refl

abbrev has : Waiting → List ℕ → List ℕ → ℕ → ℕ → Bool
has w field bytes r x = moved w.numbers (w.first ∷ w.rest) field bytes r x

pub any_put : (ws : List Waiting) (i : ℕ) (w : Waiting) (field bytes : List ℕ) (r x : ℕ) → any_waiting (insert ws i w) field bytes r x ≡ (moved w.numbers (w.first ∷ w.rest) field bytes r x || any_waiting ws field bytes r x)
any_put ws zero w field bytes r x = refl
any_put [] (suc i) w field bytes r x = refl
any_put (v ∷ ws) (suc i) w field bytes r x =
    ap (λ (b : Bool). has v field bytes r x || b) (any_put ws i w field bytes r x)
    ∙ swap (has v field bytes r x) (has w field bytes r x) (any_waiting ws field bytes r x)

pub count_put : (ws : List Waiting) (i : ℕ) (w : Waiting) → entry_count (insert ws i w) ≡ length w.rest + 1 + entry_count ws
count_put ws zero w = refl
count_put [] (suc i) w = refl
count_put (v ∷ ws) (suc i) w = omega (arith, count_put ws i w)

-- ---- a source that was put among others

pub all_others : (P : Waiting → Type 0) (ws : List Waiting) (i : ℕ) (w : Waiting) → AllByRecursion P (insert ws i w) → AllByRecursion P ws
all_others P ws zero w all = all.1
all_others P [] (suc i) w all = tt
all_others P (v ∷ ws) (suc i) w all = (all.0, all_others P ws i w all.1)

pub all_one : (P : Waiting → Type 0) (ws : List Waiting) (i : ℕ) (w : Waiting) → AllByRecursion P (insert ws i w) → P w
all_one P ws zero w all = all.0
all_one P [] (suc i) w all = all.0
all_one P (v ∷ ws) (suc i) w all = all_one P ws i w all.1

-- it stands where it was put
pub put_again : (ws : List Waiting) (i : ℕ) (d : Waiting) → i < length ws → insert (remove ws i) i (get_or ws i d) ≡ ws
put_again [] i d lt = absurd (omega arith)
put_again (w ∷ ws) zero d lt = refl
put_again (w ∷ ws) (suc i) d lt = ap (λ (l : List Waiting). w ∷ l) (put_again ws i d (omega arith))

pub put_other : (ws : List Waiting) (i : ℕ) (v : Waiting) → i < length ws → insert (remove ws i) i v ≡ slice_set ws i v
put_other [] i v lt = absurd (omega arith)
put_other (w ∷ ws) zero v lt = refl
put_other (w ∷ ws) (suc i) v lt = ap (λ (l : List Waiting). w ∷ l) (put_other ws i v (omega arith))

pub removed_other : (ws : List Waiting) (i : ℕ) (v : Waiting) → remove (slice_set ws i v) i ≡ remove ws i
removed_other [] i v = refl
removed_other (w ∷ ws) zero v = refl
removed_other (w ∷ ws) (suc i) v = ap (λ (l : List Waiting). w ∷ l) (removed_other ws i v)

pub put_last : (ws : List Waiting) (w : Waiting) → insert ws (length ws) w ≡ ws ++ w ∷ []
put_last [] w = refl
put_last (v ∷ ws) w = ap (λ (l : List Waiting). v ∷ l) (put_last ws w)

-- ---- the entries of one source

pub tail_ordered : (e : TermPostings) (es : List TermPostings) → IsPostings (e ∷ es) → IsPostings es
tail_ordered e es h = record { rise = λ i j d lt in'. h.rise (suc i) (suc j) d (omega arith) (omega arith); each = All-tail IsTermPostings e es h.each }

pub next_rises : (e : TermPostings) (es : List TermPostings) (numbers : List (Option ℕ)) → IsPostings (e ∷ es) → IfSome (waiting es numbers) (λ (next : Waiting). IsBelow e.term next.first.term)
next_rises e [] numbers h = tt
next_rises e (f ∷ es) numbers h = h.rise 0 1 e (omega arith) (omega arith)

-- ---- one term

pub equal_itself : (a : Term) → term_cmp a a ≡ Equal
equal_itself a = go (term_cmp a a) refl
  where
    go : (o : Ordering) → term_cmp a a ≡ o → o ≡ Equal
    go Less e = absurd (less_not_itself a e)
    go Equal e = refl
    go Greater e = absurd (less_not_itself a (term_total.antisymm a a ∙ ap ordering_reverse e))
