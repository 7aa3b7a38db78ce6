-- Lists of terms in which one changes.
use Rattle.std.proofs.Common.{◌≡◌, ℕ, ◌<◌, ◌-◌, Option, Some, List, [], ◌∷◌, ◌++◌, Bool, true, false, ◌&&◌, ◌||◌, ◌==◌, cond, length, get_or, refl, sym, ap, ◌∙◌, subst, arith}
use Rattle.std.specs.List.{AllPairs}
use Rattle.std.specs.Option.{option_map_or}
use Rattle.std.specs.Cmp.{eq_by_cmp_equiv}
use Rattle.std.specs.Map.{lookup}
use Rattle.std.specs.Ordering.{is_eq, eq_by_cmp}
use Rattle.std.specs.Str.{bytes_eq}
use Rattle.std.specs.declared.cmp.Ordering.{Ordering}
use Rattle.std.specs.declared.cmp.Ordering.TheVariants.{Less, Equal, Greater}
use Rattle.std.proofs.lemmas.Bool.{and_parts, and_from, eqb-true, eq-eqb}
use Rattle.std.proofs.lemmas.List.{get_or_append_left, get_or-append_right, length-append}
use Rattle.std.proofs.lemmas.List.Folds.{list_any-append, Any-from_list_any}
use Rattle.std.proofs.lemmas.Slice.Eq.{bytes_eq-Decides}
use Rattle.ix_base.specs.Inversion.{term_cmp, posted, posted_at}
use Rattle.ix_base.specs.declared.document.Term.{Term}
use Rattle.ix_base.specs.declared.postings.Posting.{Posting}
use Rattle.ix_base.specs.declared.postings.TermPostings.{TermPostings}
use Rattle.ix_base.proofs.TermOrder.{term_total, term_same}
use Rattle.ram_postings.specs.Kept.{kept, IsKeptBelow}
use Rattle.ix_base.proofs.GroupedLaws.{or_false}

equal_by : (a b : Term) (o : Ordering) → term_cmp a b ≡ o → is_eq o ≡ true → a ≡ b
equal_by a b Less e h = cc
equal_by a b Equal e h = term_same a b e
equal_by a b Greater e h = cc

pub term_equal : (a b : Term) → is_eq (term_cmp a b) ≡ true → a ≡ b
term_equal a b h = equal_by a b (term_cmp a b) refl h

pub term_itself : (a : Term) → is_eq (term_cmp a a) ≡ true
term_itself a = (eq_by_cmp_equiv term_total).refl a

-- the places of the key's list become these
abbrev pub Puts : List (Term × List Posting) → List (Term × List Posting) → Term → List Posting → Type 0
Puts old new key rows = (t : Term) → lookup (eq_by_cmp term_cmp t) new ≡ cond (is_eq (term_cmp key t)) (Some rows) (lookup (eq_by_cmp term_cmp t) old)

-- what a list has that holds these places, or the places of a term that has none
pub kept_put : (old new : List (Term × List Posting)) (key : Term) (rows : List Posting) → Puts old new key rows
    → (t : Term) (r x : ℕ) → kept new t r x ≡ cond (is_eq (term_cmp key t)) (posted_at rows r x) (kept old t r x)
kept_put old new key rows put t r x = ap (λ (o : Option (List Posting)). option_map_or (λ rows. posted_at rows r x) o false) (put t) ∙ go (is_eq (term_cmp key t))
  where
    go : (b : Bool) → option_map_or (λ rows. posted_at rows r x) (cond b (Some rows) (lookup (eq_by_cmp term_cmp t) old)) false ≡ cond b (posted_at rows r x) (kept old t r x)
    go true = refl
    go false = refl

pub put_others : (old new : List (Term × List Posting)) (key : Term) (was rows : List Posting) (mark : ℕ) → Puts old new key rows
    → ((r x : ℕ) → kept old key r x ≡ posted_at was r x)
    → ((r x : ℕ) → (r ≡ mark → ⊥) → posted_at rows r x ≡ posted_at was r x)
    → (t : Term) (r x : ℕ) → (r ≡ mark → ⊥) → kept new t r x ≡ kept old t r x
put_others old new key was rows mark put found same t r x ne = kept_put old new key rows put t r x ∙ go (is_eq (term_cmp key t)) refl
  where
    go : (b : Bool) → is_eq (term_cmp key t) ≡ b → cond b (posted_at rows r x) (kept old t r x) ≡ kept old t r x
    go true e = same r x ne ∙ sym (found r x) ∙ ap (λ (u : Term). kept old u r x) (term_equal key t e)
    go false e = refl

pub put_other_terms : (old new : List (Term × List Posting)) (key : Term) (rows : List Posting) → Puts old new key rows
    → (t : Term) (r x : ℕ) → (t ≡ key → ⊥) → kept new t r x ≡ kept old t r x
put_other_terms old new key rows put t r x ne = kept_put old new key rows put t r x ∙ go (is_eq (term_cmp key t)) refl
  where
    go : (b : Bool) → is_eq (term_cmp key t) ≡ b → cond b (posted_at rows r x) (kept old t r x) ≡ kept old t r x
    go true e = absurd (ne (sym (term_equal key t e)))
    go false e = refl

-- ---- terms taken one after another

abbrev pub is_term : Term → Term → Bool
is_term t u = bytes_eq u.field t.field && bytes_eq u.bytes t.bytes

pub is_term_same : (t u : Term) → is_term t u ≡ true → u ≡ t
is_term_same t u h =
    let parts = and_parts (bytes_eq u.field t.field) (bytes_eq u.bytes t.bytes) h in
    let field : u.field ≡ t.field = (bytes_eq-Decides u.field t.field).0 parts.0 in
    let bytes : u.bytes ≡ t.bytes = (bytes_eq-Decides u.bytes t.bytes).0 parts.1 in
    λ i. record { field = field i; bytes = bytes i }

pub is_term_itself : (t : Term) → is_term t t ≡ true
is_term_itself t = and_from (bytes_eq t.field t.field) (bytes_eq t.bytes t.bytes) ((bytes_eq-Decides t.field t.field).1 refl) ((bytes_eq-Decides t.bytes t.bytes).1 refl)

pub posted_more : (front : List TermPostings) (entry : TermPostings) (t : Term) (r x : ℕ)
    → posted (front ++ entry ∷ []) t.field t.bytes r x ≡ (posted front t.field t.bytes r x || (is_term t entry.term && posted_at entry.rows r x))
posted_more front entry t r x =
    list_any-append (λ (e : TermPostings). is_term t e.term && posted_at e.rows r x) front (entry ∷ [])
    ∙ ap (λ (b : Bool). posted front t.field t.bytes r x || b) (sym (or_false (is_term t entry.term && posted_at entry.rows r x)))

-- no earlier entry is of the term
pub posted_earlier : (front : List TermPostings) (entry : TermPostings) (r x : ℕ)
    → ((e : TermPostings) (k : ℕ) → k < length front → get_or front k e ≡ e → term_cmp e.term entry.term ≡ Less)
    → posted front entry.term.field entry.term.bytes r x ≡ false
posted_earlier front entry r x below = go (posted front entry.term.field entry.term.bytes r x) refl
  where
    test : TermPostings → Bool
    test e = is_term entry.term e.term && posted_at e.rows r x

    go : (b : Bool) → posted front entry.term.field entry.term.bytes r x ≡ b → b ≡ false
    go true e =
        let a = Any-from_list_any (λ (e : TermPostings). is_term entry.term e.term && posted_at e.rows r x) front e in
        let f : TermPostings = a.1 in
        let is = and_parts (is_term entry.term f.term) (posted_at f.rows r x) a.4 in
        let same : f.term ≡ entry.term = is_term_same entry.term f.term is.0 in
        let less : is_eq (term_cmp f.term entry.term) ≡ false = ap is_eq (below f a.0 a.2 a.3) in
        let equal : is_eq (term_cmp f.term entry.term) ≡ true = ap (λ (u : Term). is_eq (term_cmp u entry.term)) same ∙ term_itself entry.term in
        sym equal ∙ less
    go false e = refl

-- ---- the terms of a document, one after another

minus : (n : ℕ) → n - n ≡ 0
minus n = omega arith

-- earlier entries are of lower terms
earlier_less : (all front back : List TermPostings) (entry : TermPostings) → all ≡ front ++ entry ∷ back
    → AllPairs (λ a b. term_cmp a.term b.term ≡ Less) all
    → (e : TermPostings) (k : ℕ) → k < length front → get_or front k e ≡ e → term_cmp e.term entry.term ≡ Less
earlier_less all front back entry is rise e k lt at =
    let here : get_or all (length front) e ≡ entry = ap (λ (l : List TermPostings). get_or l (length front) e) is ∙ get_or-append_right front (entry ∷ back) (length front) (length front) e refl (omega arith) ∙ ap (λ (n : ℕ). get_or (entry ∷ back) n e) (minus (length front)) in
    let there : get_or all k e ≡ e = ap (λ (l : List TermPostings). get_or l k e) is ∙ get_or_append_left front (entry ∷ back) e k lt ∙ at in
    let long : length front < length all = omega (arith, ap length is, length-append front (entry ∷ back)) in
    subst (λ (b : TermPostings). term_cmp e.term b.term ≡ Less) here (subst (λ (a : TermPostings). term_cmp a.term (get_or all (length front) e).term ≡ Less) there (rise k (length front) e lt long))

-- nothing of the next term is there under the mark
pub low_step : (all front back : List TermPostings) (entry : TermPostings) (old now : List (Term × List Posting)) (mark : ℕ) → all ≡ front ++ entry ∷ back
    → AllPairs (λ a b. term_cmp a.term b.term ≡ Less) all
    → IsKeptBelow mark old
    → ((t : Term) (r x : ℕ) → (r ≡ mark → ⊥) → kept now t r x ≡ kept old t r x)
    → ((t : Term) (x : ℕ) → kept now t mark x ≡ posted front t.field t.bytes 0 x)
    → (r x : ℕ) → kept now entry.term r x ≡ true → r < mark
low_step all front back entry old now mark is rise below others placed r x h = go (r == mark) refl
  where
    go : (b : Bool) → (r == mark) ≡ b → r < mark
    go true e =
        let at : kept now entry.term mark x ≡ true = subst (λ (n : ℕ). kept now entry.term n x ≡ true) (eqb-true r mark e) h in
        let none : posted front entry.term.field entry.term.bytes 0 x ≡ false = posted_earlier front entry 0 x (earlier_less all front back entry is rise) in
        let both : true ≡ false = sym at ∙ placed entry.term x ∙ none in
        cc
    go false e = below entry.term r x (sym (others entry.term r x (λ q. (let t : true ≡ false = sym (eq-eqb r mark q) ∙ e in cc))) ∙ h)

-- the next term's places come
pub placed_step : (all front back : List TermPostings) (entry : TermPostings) (now new : List (Term × List Posting)) (mark : ℕ) → all ≡ front ++ entry ∷ back
    → AllPairs (λ a b. term_cmp a.term b.term ≡ Less) all
    → ((t : Term) (x : ℕ) → kept now t mark x ≡ posted front t.field t.bytes 0 x)
    → ((t : Term) (x : ℕ) → (t ≡ entry.term → ⊥) → kept new t mark x ≡ kept now t mark x)
    → ((x : ℕ) → kept new entry.term mark x ≡ posted_at entry.rows 0 x)
    → (t : Term) (x : ℕ) → kept new t mark x ≡ posted (front ++ entry ∷ []) t.field t.bytes 0 x
placed_step all front back entry now new mark is rise placed other ok t x = go (is_term t entry.term) refl ∙ sym (posted_more front entry t 0 x)
  where
    here : (t : Term) → entry.term ≡ t → posted front t.field t.bytes 0 x ≡ false
    here t e = subst (λ (u : Term). posted front u.field u.bytes 0 x ≡ false) e (posted_earlier front entry 0 x (earlier_less all front back entry is rise))

    go : (b : Bool) → is_term t entry.term ≡ b → kept new t mark x ≡ (posted front t.field t.bytes 0 x || (is_term t entry.term && posted_at entry.rows 0 x))
    go true e =
        let same : entry.term ≡ t = is_term_same t entry.term e in
        subst (λ (u : Term). kept new u mark x ≡ posted_at entry.rows 0 x) same (ok x)
        ∙ ap (λ (b : Bool). b && posted_at entry.rows 0 x) (sym e)
        ∙ ap (λ (b : Bool). b || (is_term t entry.term && posted_at entry.rows 0 x)) (sym (here t same))
    go false e =
        let ne : t ≡ entry.term → ⊥ = λ q. (let f : true ≡ false = sym (is_term_itself t) ∙ ap (is_term t) q ∙ e in cc) in
        other t x ne ∙ placed t x ∙ or_false (posted front t.field t.bytes 0 x)
        ∙ ap (λ (b : Bool). posted front t.field t.bytes 0 x || (b && posted_at entry.rows 0 x)) (sym e)
