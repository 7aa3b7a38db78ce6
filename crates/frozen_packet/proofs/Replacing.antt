-- Changes without the settings that later ones replace make the same of every row.
use Rattle.std.proofs.Common.{◌≡◌, ◌∙◌, ℕ, zero, suc, ◌<◌, ◌⊎◌, List, [], ◌∷◌, ◌++◌, length, get_or, Bool, true, false, ◌&&◌, ◌||◌, map, None, Some, nat_lt, refl, sym, ap, subst, arith, inl, inr, if◌then◌else◌}
use Rattle.ix_base.specs.Births.{first_birth}
use Rattle.ix_base.specs.Matches.{holds_term}
use Rattle.ix_base.specs.Steps.{Named, with_number}
use Rattle.ix_base.specs.declared.document.Term.{Term}
use Rattle.ix_base.specs.declared.document.Row.{Row}
use Rattle.row_fates.specs.Fate.{Numbered, fate, renumbered, SameFates}
use Rattle.row_fates.specs.Told.{is_removed, numbers_given, WithoutRanges, FatesAreTold}
use Rattle.row_fates.proofs.Same.{same-append, same-trans}
use Rattle.frozen_packet.specs.Gathered.{Replaces, SetsOver, IsSet, IsReplaced, AreReplaced, unmarked}
use Rattle.frozen_packet.specs.Updates.{term_delete, query_delete, change, setting}
use Rattle.frozen_packet.specs.declared.updates.Change.{Change}
use Rattle.frozen_packet.specs.declared.updates.Change.TheVariants as c
use Rattle.frozen_packet.specs.declared.updates.QueryDelete.{QueryDelete}
use Rattle.frozen_packet.specs.declared.updates.Setting.{Setting}
use Rattle.frozen_packet.proofs.Naming.{set_over, swap_or_over}
use Rattle.frozen_packet.proofs.Taking.{Numbers, numbers_join, numbers_first, numbers_second}
use borrow.Author.Tests.{ltb-true, ltb-false}

-- ---- what a setting makes of the numbers of a row

abbrev put_if : Bool → Bool → Setting → List Named → List Named
put_if acts holds s ns = if acts then (if holds then with_number s.num s.value ns else ns) else ns

abbrev put : Setting → Row → List Named → List Named
put s row ns = put_if (nat_lt row.birth (first_birth s.number)) (holds_term s.term.field s.term.bytes row.doc) s ns

-- of two settings the first may come last, or it is set over
put_apart : (a h b g : Bool) (s t : Setting) (ns : List Named)
    → (put_if b g t (put_if a h s ns) ≡ put_if a h s (put_if b g t ns)) ⊎ (put_if b g t (put_if a h s ns) ≡ put_if b g t ns)
put_apart false h b g s t ns = inr refl
put_apart true false b g s t ns = inr refl
put_apart true true false g s t ns = inl refl
put_apart true true true false s t ns = inl refl
put_apart true true true true s t ns = swap_or_over s.num t.num s.value t.value ns

put_over : (s t : Setting) (row : Row) (ns : List Named) → Replaces t s → put t row (put s row ns) ≡ put t row ns
put_over s t row ns r = by (nat_lt row.birth (first_birth s.number)) (nat_lt row.birth (first_birth t.number)) (holds_term s.term.field s.term.bytes row.doc) refl refl refl
  where
    same : holds_term t.term.field t.term.bytes row.doc ≡ holds_term s.term.field s.term.bytes row.doc
    same = ap (λ (u : Term). holds_term u.field u.bytes row.doc) r.term

    by : (a b h : Bool) → nat_lt row.birth (first_birth s.number) ≡ a → nat_lt row.birth (first_birth t.number) ≡ b → holds_term s.term.field s.term.bytes row.doc ≡ h → put t row (put_if a h s ns) ≡ put t row ns
    by false b h p q e = refl
    by true b false p q e = refl
    by true false true p q e = absurd (omega (arith, r.number, ltb-true row.birth (first_birth s.number) p, ltb-false row.birth (first_birth t.number) q))
    by true true true p q e =
        let acts : (ms : List Named) → put t row ms ≡ with_number t.num t.value ms = λ ms. ap (λ (b : Bool). put_if b (holds_term t.term.field t.term.bytes row.doc) t ms) q ∙ ap (λ (h : Bool). put_if true h t ms) (same ∙ e) in
        acts (with_number s.num s.value ns)
        ∙ (ap (λ (name : List ℕ). with_number t.num t.value (with_number name s.value ns)) (sym r.num) ∙ set_over t.num s.value t.value ns)
        ∙ sym (acts ns)

-- ---- a setting that a later one replaces sets nothing

-- one of these replaces the setting
abbrev ReplacedIn : Setting → List Setting → Type 0
ReplacedIn s [] = ⊥
ReplacedIn s (t ∷ ts) = Replaces t s ⊎ ReplacedIn s ts

undone : (s : Setting) (ts : List Setting) (row : Row) → ReplacedIn s ts → (ns : List Named) → numbers_given (map setting ts) row (put s row ns) ≡ numbers_given (map setting ts) row ns
undone s [] row r ns = absurd r
undone s (t ∷ ts) row (inl r) ns = ap (numbers_given (map setting ts) row) (put_over s t row ns r)
undone s (t ∷ ts) row (inr r) ns =
    elim (put_apart (nat_lt row.birth (first_birth s.number)) (holds_term s.term.field s.term.bytes row.doc) (nat_lt row.birth (first_birth t.number)) (holds_term t.term.field t.term.bytes row.doc) s t ns) [
      | inl swapped ↦ ap (numbers_given (map setting ts) row) swapped ∙ undone s ts row r (put t row ns)
      | inr over ↦ ap (numbers_given (map setting ts) row) over
    ]

-- settings remove no row
none_removed : (ss : List Setting) (row : Row) → is_removed (map setting ss) row ≡ false
none_removed [] row = refl
none_removed (s ∷ ss) row = by (nat_lt row.birth (first_birth s.number)) (none_removed ss row)
  where
    by : (b : Bool) → is_removed (map setting ss) row ≡ false → (b && false) || is_removed (map setting ss) row ≡ false
    by true e = e
    by false e = e

none_reads : (ss : List Setting) → WithoutRanges (map setting ss)
none_reads [] = tt
none_reads (s ∷ ss) = (refl, none_reads ss)

settings_told : FatesAreTold → (ss : List Setting) (row : Row) → fate (map setting ss) row ≡ Some (renumbered (numbers_given (map setting ss) row row.doc.num) row)
settings_told told ss row =
    told (map setting ss) row (none_reads ss)
    ∙ ap (λ (b : Bool). if b then None else Some (renumbered (numbers_given (map setting ss) row row.doc.num) row)) (none_removed ss row)

left_out : FatesAreTold → (s : Setting) (ts : List Setting) → ReplacedIn s ts → SameFates (map setting ts) (map setting (s ∷ ts))
left_out told s ts r row =
    settings_told told ts row ∙ ap (λ (ns : List Named). Some (renumbered ns row)) (sym (undone s ts row r row.doc.num)) ∙ sym (settings_told told (s ∷ ts) row)

-- ---- among changes: settings up to one that replaces it, and then any others

abbrev ReplacedAmong : Setting → List Change → Type 0
ReplacedAmong s [] = ⊥
ReplacedAmong s (c.Set t ∷ ts) = Replaces t s ⊎ ReplacedAmong s ts
ReplacedAmong s (c.Delete q ∷ ts) = ⊥

split : (s : Setting) (ts : List Change) → ReplacedAmong s ts → (ss : List Setting) × (others : List Change) × (map change ts ≡ map setting ss ++ map change others) × ReplacedIn s ss
split s [] r = absurd r
split s (c.Set t ∷ ts) (inl r) = (t ∷ [], ts, refl, inl r)
split s (c.Set t ∷ ts) (inr r) =
    let p = split s ts r in
    (t ∷ p.0, p.1, ap (λ (ops : List Numbered). setting t ∷ ops) p.2, inr p.3)
split s (c.Delete q ∷ ts) r = absurd r

left_out_among : FatesAreTold → (s : Setting) (ts : List Change) → ReplacedAmong s ts → SameFates (map change ts) (map change (c.Set s ∷ ts))
left_out_among told s ts r =
    let p = split s ts r in
    let same : SameFates (map setting p.0 ++ map change p.1) (map setting (s ∷ p.0) ++ map change p.1) =
    same-append (map setting p.0) (map setting (s ∷ p.0)) (map change p.1) (map change p.1) (left_out told s p.0 p.3) (λ row. refl) in
    subst (λ (ops : List Numbered). SameFates ops (setting s ∷ ops)) (sym p.2) same

-- ---- the changes without a mark

replaced_in : (s : Setting) (ts : List Change) (place : ℕ) → place < length ts → ((d : Change) → SetsOver (get_or ts place d) (c.Set s)) → ((k : ℕ) (d : Change) → k < place → IsSet (get_or ts k d)) → ReplacedAmong s ts
replaced_in s [] place lt r sets = absurd (omega arith)
replaced_in s (c.Set t ∷ ts) zero lt r sets = inl (r (c.Set t))
replaced_in s (c.Delete q ∷ ts) zero lt r sets = r (c.Set s)
replaced_in s (c.Set t ∷ ts) (suc place) lt r sets = inr (replaced_in s ts place (omega arith) r (λ k d low. sets (suc k) d (omega arith)))
replaced_in s (c.Delete q ∷ ts) (suc place) lt r sets = sets 0 (c.Set s) (omega arith)

first_replaced : (s : Setting) (ts : List Change) → IsReplaced (c.Set s ∷ ts) 0 → ReplacedAmong s ts
first_replaced s ts is = by is.place is.behind is.within is.replaces is.between
  where
    by : (place : ℕ) → 0 < place → place < length (c.Set s ∷ ts) → ((d : Change) → SetsOver (get_or (c.Set s ∷ ts) place d) (c.Set s)) → ((k : ℕ) (d : Change) → 0 < k → k < place → IsSet (get_or (c.Set s ∷ ts) k d)) → ReplacedAmong s ts
    by zero lt within r sets = absurd (omega arith)
    by (suc place) lt within r sets = replaced_in s ts place (omega arith) r (λ k d low. sets (suc k) d (omega arith) (omega arith))

no_delete_replaced : (q : QueryDelete) (ts : List Change) → IsReplaced (c.Delete q ∷ ts) 0 → ⊥
no_delete_replaced q ts is = by (get_or (c.Delete q ∷ ts) is.place (c.Delete q)) (is.replaces (c.Delete q))
  where
    by : (x : Change) → SetsOver x (c.Delete q) → ⊥
    by (c.Set s) h = h
    by (c.Delete p) h = h

rest_replaced : (x : Change) (ts : List Change) (at : ℕ) → IsReplaced (x ∷ ts) (suc at) → IsReplaced ts at
rest_replaced x ts at is = by is.place is.behind is.within is.replaces is.between
  where
    by : (place : ℕ) → suc at < place → place < length (x ∷ ts) → ((d : Change) → SetsOver (get_or (x ∷ ts) place d) (get_or ts at d)) → ((k : ℕ) (d : Change) → suc at < k → k < place → IsSet (get_or (x ∷ ts) k d)) → IsReplaced ts at
    by zero lt within r sets = absurd (omega arith)
    by (suc place) lt within r sets = record { place = place; behind = omega arith; within = omega arith; replaces = r; between = λ k d low high. sets (suc k) d (omega arith) (omega arith) }

pub unmarked_same : FatesAreTold → (xs : List Change) (marks : List Bool) → AreReplaced xs marks → SameFates (map change (unmarked xs marks)) (map change xs)
unmarked_same told [] marks all = λ row. refl
unmarked_same told (x ∷ xs) [] all = λ row. refl
unmarked_same told (c.Set s ∷ xs) (true ∷ marks) all =
    same-trans (map change (unmarked xs marks)) (map change xs) (map change (c.Set s ∷ xs)) (unmarked_same told xs marks (λ at e. rest_replaced (c.Set s) xs at (all (suc at) e))) (left_out_among told s xs (first_replaced s xs (all 0 refl)))
unmarked_same told (c.Delete q ∷ xs) (true ∷ marks) all = absurd (no_delete_replaced q xs (all 0 refl))
unmarked_same told (x ∷ xs) (false ∷ marks) all =
    same-append (change x ∷ []) (change x ∷ []) (map change (unmarked xs marks)) (map change xs) (λ row. refl) (unmarked_same told xs marks (λ at e. rest_replaced x xs at (all (suc at) e)))

unmarked_numbers : (P : ℕ → Type 0) (xs : List Change) (marks : List Bool) → Numbers P (map change xs) → Numbers P (map change (unmarked xs marks))
unmarked_numbers P [] marks h = tt
unmarked_numbers P (x ∷ xs) [] h = h
unmarked_numbers P (x ∷ xs) (true ∷ marks) h = unmarked_numbers P xs marks h.1
unmarked_numbers P (x ∷ xs) (false ∷ marks) h = (h.0, unmarked_numbers P xs marks h.1)

-- ---- as the call tells it

pub gathered_same : FatesAreTold → (D : List (Term × ℕ)) (Q : List QueryDelete) (S : List Change) (marks : List Bool) → AreReplaced S marks
    → SameFates (map term_delete D ++ (map query_delete Q ++ map change (unmarked S marks))) (map term_delete D ++ (map query_delete Q ++ map change S))
gathered_same told D Q S marks all =
    same-append (map term_delete D) (map term_delete D) _ _ (λ row. refl) (same-append (map query_delete Q) (map query_delete Q) _ _ (λ row. refl) (unmarked_same told S marks all))

pub gathered_numbers : (P : ℕ → Type 0) (D : List (Term × ℕ)) (Q : List QueryDelete) (S : List Change) (marks : List Bool)
    → Numbers P (map term_delete D ++ (map query_delete Q ++ map change S)) → Numbers P (map term_delete D ++ (map query_delete Q ++ map change (unmarked S marks)))
gathered_numbers P D Q S marks h =
    let others = numbers_second P (map term_delete D) (map query_delete Q ++ map change S) h in
    numbers_join P (map term_delete D) (map query_delete Q ++ map change (unmarked S marks)) (numbers_first P (map term_delete D) (map query_delete Q ++ map change S) h)
    (numbers_join P (map query_delete Q) (map change (unmarked S marks)) (numbers_first P (map query_delete Q) (map change S) others)
    (unmarked_numbers P S marks (numbers_second P (map query_delete Q) (map change S) others)))
