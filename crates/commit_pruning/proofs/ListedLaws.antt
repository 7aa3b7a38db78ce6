-- Which files are listed: commit files, and those of the entries.
use Rattle.std.specs.Prelude.{◌≡◌, ◌⊎◌, ℕ, List, [], ◌∷◌, Bool, true, false, ◌&&◌, ◌==◌, Contains, refl}
use Rattle.std.proofs.Common.{◌∙◌, inl, inr, zero, suc, sym, ap, arith}
use Rattle.std.specs.List.{list_any}
use Rattle.std.proofs.lemmas.Bool.{and_parts, eq-eqb, eqb-true}
use Rattle.std.proofs.lemmas.List.Folds.{list_any_at}
use Rattle.ix_base.specs.declared.file_name.FileName.{FileName}
use Rattle.ix_base.specs.declared.file_name.FileName.TheVariants.{Commit, Pending, Rows, Posts, Live, Values}
use Rattle.commit_point.specs.declared.heads.HeadSegment.{HeadSegment}
use Rattle.commit_point.specs.Holds.{IsAmong, names_of}
use Rattle.commit_pruning.specs.Choosing.{has_id, has_written, is_listed}

any_of : {X : Type 0} (test : X → Bool) (xs : List X) (x : X) → Contains xs x → test x ≡ true → list_any test xs ≡ true
any_of test xs x c is = list_any_at test xs c.0 x c.1 (ap test c.2 ∙ is)

any_found : {X : Type 0} (test : X → Bool) (xs : List X) → list_any test xs ≡ true → (x : X) × Contains xs x × (test x ≡ true)
any_found test [] e = absurd cc
any_found {X} test (x ∷ xs) e = by (test x) refl (λ rest. any_found test xs rest) e
  where
    by : (b : Bool) → test x ≡ b → (list_any test xs ≡ true → (y : X) × Contains xs y × (test y ≡ true)) → list_any test (x ∷ xs) ≡ true
        → (y : X) × Contains (x ∷ xs) y × (test y ≡ true)
    by true is more any = (x, (zero, omega arith, refl), is)
    by false is more any =
        let rest : list_any test xs ≡ true = rw is at any in
        let found = more rest in
        (found.0, (suc found.1.0, omega (arith, found.1.1), found.1.2), found.2)

both_true : (a b : Bool) → a ≡ true → b ≡ true → (a && b) ≡ true
both_true true true p q = refl
both_true true false p q = q
both_true false b p q = p

own_id : (entries : List HeadSegment) (e : HeadSegment) → Contains entries e → has_id entries e.id ≡ true
own_id entries e c = any_of (λ (x : HeadSegment). x.id == e.id) entries e c (eq-eqb e.id e.id refl)

own_written : (entries : List HeadSegment) (e : HeadSegment) → Contains entries e → has_written entries e.id e.written ≡ true
own_written entries e c =
    any_of (λ (x : HeadSegment). (x.id == e.id) && (x.written == e.written)) entries e c
    (both_true (e.id == e.id) (e.written == e.written) (eq-eqb e.id e.id refl) (eq-eqb e.written e.written refl))

pub own_listed : (entries : List HeadSegment) (e : HeadSegment) (name : FileName) → Contains entries e → IsAmong (names_of e) name → is_listed entries name ≡ true
own_listed entries e name c (inl same) = ap (is_listed entries) same ∙ own_id entries e c
own_listed entries e name c (inr (inl same)) = ap (is_listed entries) same ∙ own_id entries e c
own_listed entries e name c (inr (inr (inl same))) = ap (is_listed entries) same ∙ own_written entries e c
own_listed entries e name c (inr (inr (inr (inl same)))) = ap (is_listed entries) same ∙ own_written entries e c
own_listed entries e name c (inr (inr (inr (inr none)))) = absurd none

-- a listed file is a commit file, or one of an entry
pub listed_by : (entries : List HeadSegment) (name : FileName) → is_listed entries name ≡ true
    → ((s : ℕ) × (name ≡ Commit s)) ⊎ ((e : HeadSegment) × Contains entries e × IsAmong (names_of e) name)
listed_by entries (Commit s) is = inl (s, refl)
listed_by entries (Pending s) is = absurd cc
listed_by entries (Rows id) is =
    let found = any_found (λ (x : HeadSegment). x.id == id) entries is in
    inr (found.0, found.1, inl (ap Rows (sym (eqb-true found.0.id id found.2))))
listed_by entries (Posts id) is =
    let found = any_found (λ (x : HeadSegment). x.id == id) entries is in
    inr (found.0, found.1, inr (inl (ap Posts (sym (eqb-true found.0.id id found.2)))))
listed_by entries (Live id v) is =
    let found = any_found (λ (x : HeadSegment). (x.id == id) && (x.written == v)) entries is in
    let h = and_parts (found.0.id == id) (found.0.written == v) found.2 in
    let same_id : found.0.id ≡ id = eqb-true found.0.id id h.0 in
    let same_v : found.0.written ≡ v = eqb-true found.0.written v h.1 in
    inr (found.0, found.1, inr (inr (inl cc)))
listed_by entries (Values id v) is =
    let found = any_found (λ (x : HeadSegment). (x.id == id) && (x.written == v)) entries is in
    let h = and_parts (found.0.id == id) (found.0.written == v) found.2 in
    let same_id : found.0.id ≡ id = eqb-true found.0.id id h.0 in
    let same_v : found.0.written ≡ v = eqb-true found.0.written v h.1 in
    inr (found.0, found.1, inr (inr (inr (inl cc))))
