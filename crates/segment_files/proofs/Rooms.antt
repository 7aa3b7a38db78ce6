-- What is left of a room behind parts that stand one behind the other.
use Rattle.std.proofs.Common.{◌≡◌, ℕ, ℤ, zero, suc, ◌+◌, ◌*◌, ◌<◌, ◌≤◌, List, [], ◌∷◌, ◌++◌, length, map, take, get_or, Option, Some, None, refl, sym, ap, subst, ◌∙◌, arith, length-append, add-one}
use Rattle.std.proofs.lemmas.List.{take_all, length-map}
use Rattle.std.proofs.lemmas.List.Concat.{flat_map-cons}
use Rattle.std.specs.List.{flat_map}
use Rattle.ix_base.proofs.EntryLaws.{length-be32, length-text_bytes}
use Rattle.ix_base.specs.Births.{number_of, place_of}
use Rattle.ix_base.specs.Grouped.{grouped}
use Rattle.ix_base.specs.Spelling.{be32, be64, signed64, text_bytes}
use Rattle.ix_base.specs.Documents.{Document}
use Rattle.ix_base.specs.declared.document.Row.{Row}
use Rattle.ix_base.specs.declared.postings.TermPostings.{TermPostings}
use Rattle.ix_base.specs.declared.spots.Spot.{Spot}
use Rattle.segment_files.specs.Placing.{posting_in, IsFirstRow}
use Rattle.segment_files.specs.Sizes.{Leaves}
use Rattle.segment_files.specs.Spelling.{document, field, fields, number_bytes, numbers_bytes, posting, row, term_postings}

pub as_size : (room size other : ℕ) (r : Option ℕ) → size ≡ other → Leaves room size r → Leaves room other r
as_size room size other r is leaves = subst (λ n. Leaves room n r) is leaves

-- a part behind another one that the room had a place for
pub and_then : (room a b left : ℕ) (r : Option ℕ) → left + a ≡ room → Leaves left b r → Leaves room (a + b) r
and_then room a b left None is leaves = omega arith
and_then room a b left (Some x) is leaves = omega arith

length-be64 : (n : ℕ) → length (be64 n) ≡ 8
unfolding be64
length-be64 n = refl

length-signed64 : (z : ℤ) → length (signed64 z) ≡ 8
unfolding signed64
length-signed64 z = refl

pub text_size : (text : List ℕ) → 4 + length text ≡ length (text_bytes text)
text_size text = omega (arith, length-text_bytes text)

pub field_size : (pair : List ℕ × List ℕ) → length (text_bytes pair.0) + length (text_bytes pair.1) ≡ length (field pair)
field_size pair = sym (length-append (text_bytes pair.0) (text_bytes pair.1))

pub fields_size : (pairs : List (List ℕ × List ℕ)) → 4 + length (flat_map field pairs) ≡ length (fields pairs)
fields_size pairs = omega (arith, length-append (be32 (length pairs)) (flat_map field pairs), length-be32 (length pairs))

pub number_size : (pair : List ℕ × ℤ) → length (text_bytes pair.0) + 8 ≡ length (number_bytes pair)
number_size pair = omega (arith, length-append (text_bytes pair.0) (signed64 pair.1), length-signed64 pair.1)

pub numbers_size : (pairs : List (List ℕ × ℤ)) → 8 + length (flat_map number_bytes pairs) ≡ length (numbers_bytes pairs)
numbers_size pairs = omega (arith, length-append (be64 (length pairs)) (flat_map number_bytes pairs), length-be64 (length pairs))

pub document_size : (doc : Document) → length (text_bytes doc.key) + length (fields doc.text) + length (fields doc.exact) + length (numbers_bytes doc.num) ≡ length (document doc)
document_size doc =
    let exact : length (fields doc.exact ++ numbers_bytes doc.num) ≡ length (fields doc.exact) + length (numbers_bytes doc.num) = length-append (fields doc.exact) (numbers_bytes doc.num) in
    let text : length (fields doc.text ++ (fields doc.exact ++ numbers_bytes doc.num)) ≡ length (fields doc.text) + length (fields doc.exact ++ numbers_bytes doc.num) = length-append (fields doc.text) (fields doc.exact ++ numbers_bytes doc.num) in
    omega (arith, exact, text, length-append (text_bytes doc.key) (fields doc.text ++ (fields doc.exact ++ numbers_bytes doc.num)))

pub row_size : (r : Row) → 12 + length (document r.doc) ≡ length (row r)
row_size r =
    let rest : List ℕ = be32 (place_of r.birth) ++ document r.doc in
    omega (arith, length-append (be64 (number_of r.birth)) rest, length-append (be32 (place_of r.birth)) (document r.doc), length-be64 (number_of r.birth), length-be32 (place_of r.birth))

-- ---- lists

cons_size : {X : Type 0} (f : X → List ℕ) (x : X) (xs : List X) → length (flat_map f (x ∷ xs)) ≡ length (f x) + length (flat_map f xs)
cons_size f x xs = ap length (flat_map-cons f x xs) ∙ length-append (f x) (flat_map f xs)

suc_size : {X : Type 0} (f : X → List ℕ) (xs : List X) (i : ℕ) (x : X) → i < length xs → x ≡ get_or xs i x → length (flat_map f (take (suc i) xs)) ≡ length (flat_map f (take i xs)) + length (f x)
suc_size f [] i x lt is = absurd (omega arith)
suc_size f (y ∷ ys) zero x lt is =
    cons_size f y [] ∙ subst (λ z. length (f y) + 0 ≡ 0 + length (f z)) (sym is) (omega arith)
suc_size f (y ∷ ys) (suc i) x lt is =
    let rest : length (flat_map f (take (suc i) ys)) ≡ length (flat_map f (take i ys)) + length (f x) = suc_size f ys i x (omega arith) is in
    omega (arith, cons_size f y (take (suc i) ys), cons_size f y (take i ys), rest)

-- the items up to the next one
pub next_size : {X : Type 0} (f : X → List ℕ) (xs : List X) (i : ℕ) (x : X) → i < length xs → x ≡ get_or xs i x → length (flat_map f (take (i + 1) xs)) ≡ length (flat_map f (take i xs)) + length (f x)
next_size f xs i x lt is = rw add-one (suc_size f xs i x lt is)

front_size : {X : Type 0} (f : X → List ℕ) (xs : List X) (n : ℕ) → length (flat_map f (take n xs)) ≤ length (flat_map f xs)
front_size f [] zero = omega arith
front_size f [] (suc n) = omega arith
front_size f (y ∷ ys) zero = omega arith
front_size f (y ∷ ys) (suc n) = omega (arith, cons_size f y (take n ys), cons_size f y ys, front_size f ys n)

-- the room behind so many of the items
abbrev pub IsLeft : {X : Type 0} → (X → List ℕ) → ℕ → List X → ℕ → ℕ → Type 0
IsLeft f room xs i left = left + length (flat_map f (take i xs)) ≡ room

pub one_less : {X : Type 0} (f : X → List ℕ) (room : ℕ) (xs : List X) (i : ℕ) (x : X) (left now : ℕ)
    → i < length xs → x ≡ get_or xs i x → IsLeft f room xs i left → now + length (f x) ≡ left → IsLeft f room xs (i + 1) now
one_less f room xs i x left now lt is was takes = omega (arith, next_size f xs i x lt is)

-- an item that the room has no place for
pub too_many : {X : Type 0} (f : X → List ℕ) (room : ℕ) (xs : List X) (i : ℕ) (x : X) (left : ℕ)
    → i < length xs → x ≡ get_or xs i x → IsLeft f room xs i left → left < length (f x) → room < length (flat_map f xs)
too_many f room xs i x left lt is was over = omega (arith, next_size f xs i x lt is, front_size f xs (i + 1))

pub all_left : {X : Type 0} (f : X → List ℕ) (room : ℕ) (xs : List X) (i left : ℕ)
    → length xs ≤ i → IsLeft f room xs i left → left + length (flat_map f xs) ≡ room
all_left f room xs i left le was = subst (λ ys. left + length (flat_map f ys) ≡ room) (take_all i xs le) was

-- ---- places

fours_size : (ps : List ℕ) → length (flat_map be32 ps) ≡ 4 * length ps
fours_size [] = refl
fours_size (p ∷ ps) = omega (arith, cons_size be32 p ps, length-be32 p, fours_size ps)

posting_size : (r : ℕ) (run : List Spot) → length (posting (posting_in r run)) ≡ 8 + 4 * length run
posting_size r run =
    let positions : List ℕ = map (λ (s : Spot). s.position) run in
    omega (
      arith,
      length-append (be32 r) (be32 (length positions) ++ flat_map be32 positions),
      length-append (be32 (length positions)) (flat_map be32 positions),
      length-be32 r,
      length-be32 (length positions),
      fours_size positions,
      length-map run (λ (s : Spot). s.position),
    )

-- the first row of places, and those behind it
pub places_size : (spots run behind : List Spot) (r : ℕ) → IsFirstRow spots r run behind
    → length (flat_map posting (grouped spots)) ≡ 8 + 4 * length run + length (flat_map posting (grouped behind))
places_size spots run behind r first =
    ap (λ ps. length (flat_map posting ps)) first.postings ∙ cons_size posting (posting_in r run) (grouped behind)
    ∙ ap (λ n. n + length (flat_map posting (grouped behind))) (posting_size r run)

pub entry_size : (e : TermPostings) → length (text_bytes e.term.field) + length (text_bytes e.term.bytes) + 4 + length (flat_map posting e.rows) ≡ length (term_postings e)
entry_size e =
    let rows : length (be32 (length e.rows) ++ flat_map posting e.rows) ≡ 4 + length (flat_map posting e.rows) = omega (arith, length-append (be32 (length e.rows)) (flat_map posting e.rows), length-be32 (length e.rows)) in
    let bytes : length (text_bytes e.term.bytes ++ (be32 (length e.rows) ++ flat_map posting e.rows)) ≡ length (text_bytes e.term.bytes) + length (be32 (length e.rows) ++ flat_map posting e.rows) = length-append (text_bytes e.term.bytes) (be32 (length e.rows) ++ flat_map posting e.rows) in
    omega (arith, rows, bytes, length-append (text_bytes e.term.field) (text_bytes e.term.bytes ++ (be32 (length e.rows) ++ flat_map posting e.rows)))

-- the first part has no place
pub no_room : (room a size : ℕ) (r : Option ℕ) → r ≡ None → room < a → a ≤ size → Leaves room size r
no_room room a size r is lt le = let short : room < size = omega arith in subst (λ x. Leaves room size x) (sym is) short

-- an item that the room behind a head and the items before has no place for
pub over : {X : Type 0} (f : X → List ℕ) (room start head size : ℕ) (xs : List X) (i : ℕ) (x : X) (left : ℕ) (r : Option ℕ)
    → r ≡ None → i < length xs → x ≡ get_or xs i x → IsLeft f start xs i left → start + head ≡ room → left < length (f x)
    → head + length (flat_map f xs) ≡ size → Leaves room size r
over f room start head size xs i x left r none lt is was begun short all =
    let more : start < length (flat_map f xs) = too_many f start xs i x left lt is was short in
    let much : room < size = omega arith in
    subst (λ o. Leaves room size o) (sym none) much

-- all items had a place
pub held : {X : Type 0} (f : X → List ℕ) (room start head size : ℕ) (xs : List X) (i left : ℕ)
    → length xs ≤ i → IsLeft f start xs i left → start + head ≡ room → head + length (flat_map f xs) ≡ size → left + size ≡ room
held f room start head size xs i left le was begun all = omega (arith, all_left f start xs i left le was)

-- the next row of places has no place
pub places_over : (room left all rest size behind : ℕ) (r : Option ℕ) → r ≡ None → left + all ≡ room + rest → rest ≡ size + behind → left < size → Leaves room all r
places_over room left all rest size behind r none was first short =
    let much : room < all = omega arith in
    subst (λ o. Leaves room all o) (sym none) much
