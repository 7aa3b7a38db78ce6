-- Births that are below the count of the documents.
use Rattle.std.proofs.Common.{◌≡◌, ℕ, zero, suc, ◌<◌, ◌≤◌, ◌+◌, ◌∙◌, None, List, [], ◌∷◌, ◌++◌, length, map, drop, refl, sym, ap, subst, arith, append_assoc}
use Rattle.std.specs.List.{All}
use Rattle.std.proofs.lemmas.List.{length-append}
use Rattle.std.proofs.lemmas.List.Elements.{All-append, All-cons, All-map, All-nil, All-weaker}
use Rattle.ix_base.specs.Births.{first_birth, rows_from}
use Rattle.ix_base.specs.Documents.{Document}
use Rattle.ix_base.specs.declared.document.Row.{Row}
use Rattle.ram_postings.specs.Buffer.{Staged, waiting, born_rows, with_births}
use Rattle.ram_postings.proofs.BornRows.{rows_waiting, rows_born}

-- all births of these documents are before the operation of this number
abbrev pub AreBelow : ℕ → List Staged → Type 0
AreBelow n xs = All (λ (row : Row). row.birth < first_birth n) (born_rows xs)

-- one that waits
pub below_waiting : (xs : List Staged) (doc : Document) (n : ℕ) (new : List Staged) → length xs < n → new ≡ xs ++ waiting doc ∷ [] → AreBelow (length xs + 1) xs → AreBelow n new
below_waiting xs doc n new lt made h =
    subst (All (λ (row : Row). row.birth < first_birth n)) (sym (ap born_rows made ∙ rows_waiting xs doc))
    (All-weaker (λ (row : Row). row.birth < first_birth (length xs + 1)) (λ row. row.birth < first_birth n) (λ row l. omega (arith, lt, l)) (born_rows xs) h)

pub below_void : (xs : List Staged) (doc : Document) (new : List Staged) → new ≡ xs ++ waiting doc ∷ [] → AreBelow (length xs + 1) xs → AreBelow (length new + 1) new
below_void xs doc new made h = below_waiting xs doc (length new + 1) new (omega (arith, ap length made, length-append xs (waiting doc ∷ []))) made h

rows_below : (room birth n : ℕ) (docs : List Document) → birth + room ≤ first_birth n → All (λ (row : Row). row.birth < first_birth n) (rows_from room birth docs)
rows_below room birth n [] le = All-nil (λ (row : Row). row.birth < first_birth n)
rows_below zero birth n (doc ∷ docs) le = All-nil (λ (row : Row). row.birth < first_birth n)
rows_below (suc room) birth n (doc ∷ docs) le =
    All-cons (λ (row : Row). row.birth < first_birth n) (record { birth = birth; doc = doc }) (rows_from room (birth + 1) docs) (omega (arith, le))
    (rows_below room (birth + 1) n docs (omega (arith, le)))

wait_behind : (xs : List Staged) (docs : List Document) → All (λ s. s.birth ≡ None) (drop (length xs) (xs ++ map waiting docs))
wait_behind [] docs = All-map (λ (s : Staged). s.birth ≡ None) waiting docs (λ i d lt. refl)
wait_behind (x ∷ xs) docs = wait_behind xs docs

-- three that were staged one after another
pub three_wait : (xs a b c : List Staged) (x y z : Document) (place : ℕ) → place ≡ length xs → a ≡ xs ++ waiting x ∷ [] → b ≡ a ++ waiting y ∷ [] → c ≡ b ++ waiting z ∷ []
    → All (λ s. s.birth ≡ None) (drop place c)
three_wait xs a b c x y z place at first second third =
    let all : c ≡ xs ++ map waiting (x ∷ y ∷ z ∷ []) =
    third ∙ ap (λ (l : List Staged). l ++ waiting z ∷ []) (second ∙ ap (λ (l : List Staged). l ++ waiting y ∷ []) first)
    ∙ append_assoc (xs ++ waiting x ∷ []) (waiting y ∷ []) (waiting z ∷ [])
    ∙ append_assoc xs (waiting x ∷ []) (waiting y ∷ waiting z ∷ []) in
    subst (λ (k : ℕ). All (λ s. s.birth ≡ None) (drop k c)) (sym at)
    (subst (λ (l : List Staged). All (λ s. s.birth ≡ None) (drop (length xs) l)) (sym all) (wait_behind xs (x ∷ y ∷ z ∷ [])))

same_count : (xs : List Staged) (place count birth : ℕ) → length (with_births xs place count birth) ≡ length xs
same_count [] place count birth = refl
same_count (x ∷ xs) (suc place) count birth = ap suc (same_count xs place count birth)
same_count (x ∷ xs) zero zero birth = refl
same_count (x ∷ xs) zero (suc count) birth = ap suc (same_count xs zero count (birth + 1))

-- one that the operation of the next number added
pub below_born : (xs : List Staged) (doc : Document) (place n : ℕ) (mid new : List Staged) → place ≡ length xs → n ≡ length xs + 1 → mid ≡ xs ++ waiting doc ∷ []
    → new ≡ with_births mid place 1 (first_birth n) → AreBelow (length xs + 1) xs → AreBelow (length new + 1) new
below_born xs doc place n mid new at is made now h =
    let long : length mid ≡ length xs + 1 = ap length made ∙ length-append xs (waiting doc ∷ []) in
    let same : length new ≡ length mid = ap length now ∙ same_count mid place 1 (first_birth n) in
    let waits : All (λ s. s.birth ≡ None) (drop place mid) =
    subst (λ (k : ℕ). All (λ s. s.birth ≡ None) (drop k mid)) (sym at) (subst (λ (l : List Staged). All (λ s. s.birth ≡ None) (drop (length xs) l)) (sym made) (wait_behind xs (doc ∷ []))) in
    let rows = rows_born mid place 1 (first_birth n) 64 (omega (arith, long, at)) (omega arith) waits in
    subst (All (λ (row : Row). row.birth < first_birth (length new + 1))) (sym (ap born_rows now ∙ rows.1))
    (All-append (λ (row : Row). row.birth < first_birth (length new + 1)) (born_rows mid) (rows_from 64 (first_birth n) rows.0)
    (below_waiting xs doc (length new + 1) mid (omega (arith, long, same)) made h)
    (rows_below 64 (first_birth n) (length new + 1) rows.0 (omega (arith, is, long, same))))
