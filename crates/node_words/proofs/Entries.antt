-- Reading the entry of one kind.
use Rattle.std.proofs.Common.{◌≡◌, ℕ, ◌<◌, ◌≤◌, ℤ, List, [], ◌++◌, length, refl, sym, ap, ◌∙◌, arith, length-append}
use Rattle.std.specs.Int.{w64}
use Rattle.std.specs.Prelude.{FitsSigned}
use Rattle.std.proofs.lemmas.List.{append-nil, nil_from_length}
use Rattle.ix_base.proofs.EntryLaws.{length-be32}
use Rattle.ix_base.specs.Entry.{add, update, delete_term, delete_query, set_number, commit, turn, entry_bytes, term_bytes, IsOwnTerm}
use Rattle.ix_base.specs.QueryBytes.{query_bytes, IsQuery}
use Rattle.ix_base.specs.Spelling.{be32, signed64, text_bytes, IsName}
use Rattle.ix_base.specs.Tree.{Tree}
use Rattle.ix_base.specs.declared.document.Term.{Term}
use Rattle.node_words.proofs.Both.{both_begin, both_one_form, first_fails, second_fails}
use Rattle.node_words.proofs.Forms.{OneForm, one_name, one_signed}
use Rattle.node_words.proofs.QueryForms.{one_pair, one_query, query_some}
use Rattle.node_words.specs.Reads.{StandsAtStart, NoneAtStart, IsSpelling, IsNoSpelling, FailsAll, Pair, IsPair, pair_bytes, Setting, IsSetting, setting_bytes, IsOfKind}
use Rattle.node_words.specs.declared.fault.ReadError.{ReadError}
use Rattle.node_words.specs.declared.fault.ReadError.TheVariants.{Memory, Foreign}

-- ---- the own term

as_pair : (term : Term) → IsOwnTerm term → IsPair (term.field, term.bytes)
as_pair term is = (is.field, is.text)

pub one_own_term : OneForm IsOwnTerm term_bytes
one_own_term t u x y p q e =
    let s = one_pair (t.field, t.bytes) (u.field, u.bytes) x y (as_pair t p) (as_pair u q) e in
    (ap (λ (pair : Pair). record { field = pair.0; bytes = pair.1 }) s.0, s.1)

pub no_pair_begins : (bytes : List ℕ) → NoneAtStart IsPair pair_bytes bytes → NoneAtStart IsOwnTerm term_bytes bytes
no_pair_begins bytes h term rest is e = h (term.field, term.bytes) rest (as_pair term is) e

pub too_long_term : (pair : Pair) (bytes rest : List ℕ) → StandsAtStart IsPair pair_bytes pair bytes rest → 32766 < length pair.1 → NoneAtStart IsOwnTerm term_bytes bytes
too_long_term pair bytes rest p long own after is e =
    let s = one_pair pair (own.field, own.bytes) rest after p.0 (as_pair own is) (sym p.1 ∙ e) in
    absurd (omega (arith, ap (λ (found : Pair). length found.1) s.0, is.short))

-- ---- the fields of a set number

abbrev IsNamed : List ℕ × ℤ → Type 0
IsNamed n = IsName n.0 × FitsSigned w64 n.1

abbrev named_bytes : List ℕ × ℤ → List ℕ
named_bytes n = text_bytes n.0 ++ signed64 n.1

pub one_setting : OneForm IsSetting setting_bytes
one_setting = both_one_form IsOwnTerm term_bytes IsNamed named_bytes one_own_term (both_one_form IsName text_bytes (FitsSigned w64) signed64 one_name one_signed)

pub no_set_term : (bytes : List ℕ) → NoneAtStart IsOwnTerm term_bytes bytes → NoneAtStart IsSetting setting_bytes bytes
no_set_term bytes h = first_fails IsOwnTerm term_bytes IsNamed named_bytes (λ (s : Setting). s.0) (λ (s : Setting). s.1) Foreign bytes h

pub no_set_name : (term : Term) (bytes mid : List ℕ) → StandsAtStart IsOwnTerm term_bytes term bytes mid → NoneAtStart IsName text_bytes mid → NoneAtStart IsSetting setting_bytes bytes
no_set_name term bytes mid p h =
    second_fails IsOwnTerm term_bytes IsNamed named_bytes (λ (s : Setting). s.0) (λ (s : Setting). s.1) one_own_term Foreign term bytes mid p
    (first_fails IsName text_bytes (FitsSigned w64) signed64 (λ (n : List ℕ × ℤ). n.0) (λ (n : List ℕ × ℤ). n.1) Foreign mid h)

pub no_set_value : (term : Term) (name bytes mid rest : List ℕ) → StandsAtStart IsOwnTerm term_bytes term bytes mid → StandsAtStart IsName text_bytes name mid rest → NoneAtStart (FitsSigned w64) signed64 rest
    → NoneAtStart IsSetting setting_bytes bytes
no_set_value term name bytes mid rest p q h =
    second_fails IsOwnTerm term_bytes IsNamed named_bytes (λ (s : Setting). s.0) (λ (s : Setting). s.1) one_own_term Foreign term bytes mid p
    (second_fails IsName text_bytes (FitsSigned w64) signed64 (λ (n : List ℕ × ℤ). n.0) (λ (n : List ℕ × ℤ). n.1) one_name Foreign name mid rest q h)

pub setting_begins : (term : Term) (name : List ℕ) (value : ℤ) (bytes mid late rest : List ℕ) → StandsAtStart IsOwnTerm term_bytes term bytes mid → StandsAtStart IsName text_bytes name mid late → StandsAtStart (FitsSigned w64) signed64 value late rest
    → StandsAtStart IsSetting setting_bytes (term, (name, value)) bytes rest
setting_begins term name value bytes mid late rest p q r =
    both_begin IsOwnTerm term_bytes IsNamed named_bytes term (name, value) bytes mid rest p (both_begin IsName text_bytes (FitsSigned w64) signed64 name value mid late rest q r)

-- ---- all of the bytes

pub no_spelling : {V : Type 0} (IsOne : V → Type 0) (spelling : V → List ℕ) (start bytes : List ℕ) → start ≡ bytes → NoneAtStart IsOne spelling start → IsNoSpelling IsOne spelling bytes
no_spelling IsOne spelling start bytes s h v is e = h v [] is (s ∙ e ∙ sym (append-nil (spelling v)))

-- bytes with more after a value spell none
pub more_behind : {V : Type 0} (IsOne : V → Type 0) (spelling : V → List ℕ) → OneForm IsOne spelling → (v : V) (start bytes rest : List ℕ) → start ≡ bytes → StandsAtStart IsOne spelling v start rest → 0 < length rest
    → IsNoSpelling IsOne spelling bytes
more_behind IsOne spelling one v start bytes rest s p some w is e =
    let t = one v w rest [] p.0 is (sym p.1 ∙ s ∙ e ∙ sym (append-nil (spelling w))) in
    absurd (omega (arith, ap length t.1))

pub all_read : {V : Type 0} (spelling : V → List ℕ) (v : V) (start bytes rest : List ℕ) → start ≡ bytes → start ≡ spelling v ++ rest → length rest ≡ 0 → bytes ≡ spelling v
all_read spelling v start bytes rest s e len = sym s ∙ e ∙ ap (λ (t : List ℕ). spelling v ++ t) (nil_from_length rest len) ∙ append-nil (spelling v)

-- ---- of one kind

-- Bytes spell no entry of a kind where they don't spell the fields of its entries, or where these have
-- no fields and there are bytes.
no_entry : (kind : ℕ) (bytes : List ℕ) → (1 ≤ kind → kind ≤ 7 → length bytes ≡ 0 → (2 ≤ kind) × (kind ≤ 5))
    → (2 ≤ kind → kind ≤ 3 → IsNoSpelling IsOwnTerm term_bytes bytes) → (kind ≡ 4 → IsNoSpelling IsQuery query_bytes bytes) → (kind ≡ 5 → IsNoSpelling IsSetting setting_bytes bytes)
    → IsNoSpelling (IsOfKind kind) entry_bytes bytes
no_entry kind bytes plain term query setting add is e = absurd (omega (arith, is.1, plain (omega (arith, is.1)) (omega (arith, is.1)) (ap length e)))
no_entry kind bytes plain term query setting (update t) is e = term (omega (arith, is.1)) (omega (arith, is.1)) t is.0 e
no_entry kind bytes plain term query setting (delete_term t) is e = term (omega (arith, is.1)) (omega (arith, is.1)) t is.0 e
no_entry kind bytes plain term query setting (delete_query q) is e = query (sym is.1) q is.0.0 e
no_entry kind bytes plain term query setting (set_number t n v) is e = setting (sym is.1) (t, (n, v)) (is.0.0, (is.0.1, is.0.2)) e
no_entry kind bytes plain term query setting commit is e = absurd (omega (arith, is.1, plain (omega (arith, is.1)) (omega (arith, is.1)) (ap length e)))
no_entry kind bytes plain term query setting turn is e = absurd (omega (arith, is.1, plain (omega (arith, is.1)) (omega (arith, is.1)) (ap length e)))

term_some : (term : Term) → 0 < length (term_bytes term)
term_some term =
    omega (arith, length-append (text_bytes term.field) (text_bytes term.bytes), length-append (be32 (length term.field)) term.field, length-be32 (length term.field))

-- no bytes spell no entry with fields
pub empty_fails : (kind : ℕ) → (kind ≡ 1 → ⊥) → (kind ≡ 6 → ⊥) → (kind ≡ 7 → ⊥) → IsNoSpelling (IsOfKind kind) entry_bytes []
empty_fails kind one six seven add is e = one (sym is.1)
empty_fails kind one six seven (update t) is e = absurd (omega (arith, ap length e, term_some t))
empty_fails kind one six seven (delete_term t) is e = absurd (omega (arith, ap length e, term_some t))
empty_fails kind one six seven (delete_query q) is e = absurd (omega (arith, ap length e, query_some q))
empty_fails kind one six seven (set_number t n v) is e = absurd (omega (arith, ap length e, length-append (term_bytes t) (text_bytes n ++ signed64 v), term_some t))
empty_fails kind one six seven commit is e = six (sym is.1)
empty_fails kind one six seven turn is e = seven (sym is.1)

-- bytes of another kind spell no entry
pub other_fails : (kind : ℕ) (bytes : List ℕ) → 0 < length bytes → (2 ≤ kind → kind ≤ 5 → ⊥) → IsNoSpelling (IsOfKind kind) entry_bytes bytes
other_fails kind bytes some not =
    no_entry kind bytes (λ a b none. absurd (omega arith)) (λ a b. absurd (not a (omega arith))) (λ k. absurd (not (omega arith) (omega arith))) (λ k. absurd (not (omega arith) (omega arith)))

no_term_entry : (kind : ℕ) (bytes : List ℕ) → 2 ≤ kind → kind ≤ 3 → IsNoSpelling IsOwnTerm term_bytes bytes → IsNoSpelling (IsOfKind kind) entry_bytes bytes
no_term_entry kind bytes low high h = no_entry kind bytes (λ a b none. (low, omega arith)) (λ a b. h) (λ k. absurd (omega arith)) (λ k. absurd (omega arith))

pub update_fails : (e : ReadError) (bytes : List ℕ) (kind : ℕ) → kind ≡ 2 → FailsAll IsOwnTerm term_bytes bytes e → FailsAll (IsOfKind kind) entry_bytes bytes e
update_fails Memory bytes kind k h = (update h.0, (h.1, sym k), h.2)
update_fails Foreign bytes kind k h = no_term_entry kind bytes (omega arith) (omega arith) h

pub delete_fails : (e : ReadError) (bytes : List ℕ) (kind : ℕ) → kind ≡ 3 → FailsAll IsOwnTerm term_bytes bytes e → FailsAll (IsOfKind kind) entry_bytes bytes e
delete_fails Memory bytes kind k h = (delete_term h.0, (h.1, sym k), h.2)
delete_fails Foreign bytes kind k h = no_term_entry kind bytes (omega arith) (omega arith) h

pub query_fails : (e : ReadError) (bytes : List ℕ) (kind : ℕ) → kind ≡ 4 → length bytes ≤ 131072 → FailsAll IsQuery query_bytes bytes e → FailsAll (IsOfKind kind) entry_bytes bytes e
query_fails Memory bytes kind k le h = (delete_query h.0, ((h.1, omega (arith, ap length h.2)), sym k), h.2)
query_fails Foreign bytes kind k le h = no_entry kind bytes (λ a b none. (omega arith, omega arith)) (λ a b. absurd (omega arith)) (λ four. h) (λ five. absurd (omega arith))

pub no_set_number : (bytes : List ℕ) → IsNoSpelling IsSetting setting_bytes bytes → IsNoSpelling (IsOfKind 5) entry_bytes bytes
no_set_number bytes h = no_entry 5 bytes (λ a b none. (omega arith, omega arith)) (λ a b. absurd (omega arith)) (λ four. absurd (omega arith)) (λ five. h)

pub set_number_there : (s : Setting) (bytes : List ℕ) → IsSetting s → bytes ≡ setting_bytes s → IsSpelling (IsOfKind 5) entry_bytes bytes
set_number_there s bytes is e = (set_number s.0 s.1.0 s.1.1, ((is.0, is.1.0, is.1.1), refl), e)

-- ---- no entry's bytes begin another's of its kind

pub one_entry : (kind : ℕ) → OneForm (IsOfKind kind) entry_bytes
one_entry kind add add x y p q e = (refl, e)
one_entry kind (update t) (update u) x y p q e =
    let s = one_own_term t u x y p.0 q.0 e in
    (ap update s.0, s.1)
one_entry kind (delete_term t) (delete_term u) x y p q e =
    let s = one_own_term t u x y p.0 q.0 e in
    (ap delete_term s.0, s.1)
one_entry kind (delete_query a) (delete_query b) x y p q e =
    let s = one_query a b x y p.0.0 q.0.0 e in
    (ap delete_query s.0, s.1)
one_entry kind (set_number t n v) (set_number u m w) x y p q e =
    let s = one_setting (t, (n, v)) (u, (m, w)) x y (p.0.0, (p.0.1, p.0.2)) (q.0.0, (q.0.1, q.0.2)) e in
    (ap (λ (s : Setting). set_number s.0 s.1.0 s.1.1) s.0, s.1)
one_entry kind commit commit x y p q e = (refl, e)
one_entry kind turn turn x y p q e = (refl, e)
one_entry kind _ _ x y p q e = absurd (omega (arith, p.1, q.1))

-- ---- a query that is all of the bytes

pub query_read : (q : Tree) (start bytes rest : List ℕ) → start ≡ bytes → IsSpelling IsQuery query_bytes bytes → StandsAtStart IsQuery query_bytes q start rest → IsQuery q × (bytes ≡ query_bytes q)
query_read q start bytes rest s is p =
    let t = one_query q is.0 rest [] p.0 is.1 (sym p.1 ∙ s ∙ is.2 ∙ sym (append-nil (query_bytes is.0))) in
    (p.0, is.2 ∙ ap query_bytes (sym t.0))

pub query_there : (start bytes : List ℕ) → start ≡ bytes → IsSpelling IsQuery query_bytes bytes → NoneAtStart IsQuery query_bytes start → ⊥
query_there start bytes s is none = none is.0 [] is.1 (s ∙ is.2 ∙ sym (append-nil (query_bytes is.0)))
