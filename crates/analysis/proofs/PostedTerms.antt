-- A document's terms are those of its inversion.
use Rattle.std.proofs.Common.{◌≡◌, ℕ, List, [], ◌∷◌, Bool, true, false, ◌&&◌, ◌||◌, ◌==◌, Some, None, cond, length, nat_lt, refl, sym, ap, ◌∙◌}
use Rattle.std.specs.Prelude.{find, option_map}
use Rattle.std.specs.List.{list_any}
use Rattle.std.specs.Str.{bytes_eq}
use Rattle.std.proofs.lemmas.Bool.{and_parts, and_from, eq-eqb}
use Rattle.std.proofs.lemmas.List.Folds.{Any-from_list_any, list_any-from_Any}
use Rattle.std.proofs.lemmas.Slice.Eq.{bytes_eq-Decides}
use Rattle.ix_base.specs.Documents.{Document}
use Rattle.ix_base.specs.Inversion.{IsInversion, posted, posted_at}
use Rattle.ix_base.specs.Matches.{stands_at, is_term}
use Rattle.ix_base.specs.Terms.{Place, terms, long_term, most_term_bytes}
use Rattle.ix_base.specs.declared.postings.Postings.{Postings}
use Rattle.ix_base.specs.declared.postings.TermPostings.{TermPostings}

abbrev is_long : Place → Bool
is_long place = nat_lt most_term_bytes (length place.bytes)

abbrev has_long : TermPostings → Bool
has_long entry = nat_lt 32766 (length entry.term.bytes)

-- a place passes the test for its term
itself : (place : Place) → (is_term place.field place.bytes place && (place.position == place.position)) ≡ true
itself place =
    and_from (is_term place.field place.bytes place) (place.position == place.position)
    (and_from (bytes_eq place.field place.field) (bytes_eq place.bytes place.bytes) ((bytes_eq-Decides place.field place.field).1 refl) ((bytes_eq-Decides place.bytes place.bytes).1 refl))
    (eq-eqb place.position place.position refl)

-- a long term of the document is a long term of its postings
long_posted : (doc : Document) (postings : Postings) → IsInversion (doc ∷ []) postings → list_any is_long (terms doc) ≡ true → list_any has_long postings.terms ≡ true
long_posted doc postings inversion h =
    let a = Any-from_list_any is_long (terms doc) h in
    let place : Place = a.1 in
    let here : stands_at (terms doc) place.field place.bytes place.position ≡ true =
    list_any-from_Any (λ (p : Place). is_term place.field place.bytes p && (p.position == place.position)) (terms doc) (a.0, place, a.2, a.3, itself place) in
    let there : posted postings.terms place.field place.bytes 0 place.position ≡ true = inversion.exact place.field place.bytes 0 place.position ∙ here in
    let b = Any-from_list_any (λ (e : TermPostings). (bytes_eq e.term.field place.field && bytes_eq e.term.bytes place.bytes) && posted_at e.rows 0 place.position) postings.terms there in
    let entry : TermPostings = b.1 in
    let term = and_parts (bytes_eq entry.term.field place.field && bytes_eq entry.term.bytes place.bytes) (posted_at entry.rows 0 place.position) b.4 in
    let bytes : entry.term.bytes ≡ place.bytes = (bytes_eq-Decides entry.term.bytes place.bytes).0 ((and_parts (bytes_eq entry.term.field place.field) (bytes_eq entry.term.bytes place.bytes) term.0).1) in
    list_any-from_Any has_long postings.terms (b.0, entry, b.2, b.3, ap (λ (w : List ℕ). nat_lt 32766 (length w)) bytes ∙ a.4)

none_found : (places : List Place) → list_any is_long places ≡ false → long_term places ≡ None
none_found [] h = refl
none_found (place ∷ places) h = go (is_long place) refl h (none_found places)
  where
    go : (b : Bool) → is_long place ≡ b → (b || list_any is_long places) ≡ false → (list_any is_long places ≡ false → long_term places ≡ None) → long_term (place ∷ places) ≡ None
    go true e f more = cc
    go false e f more = ap (λ (b : Bool). option_map (λ (p : Place). length p.bytes) (cond b (Some place) (find is_long places))) e ∙ more f

pub none_long : (doc : Document) (postings : Postings) → IsInversion (doc ∷ []) postings → list_any has_long postings.terms ≡ false → long_term (terms doc) ≡ None
none_long doc postings inversion none = none_found (terms doc) (go (list_any is_long (terms doc)) refl)
  where
    go : (b : Bool) → list_any is_long (terms doc) ≡ b → list_any is_long (terms doc) ≡ false
    go true e = let f : true ≡ false = sym (long_posted doc postings inversion e) ∙ none in cc
    go false e = e
