-- A file of rows that is read is the one that was written, and what was written is read again: in either form.
use Rattle.std.proofs.Common.{◌≡◌, inl, inr, ℕ, ◌+◌, ◌^◌, ◌<◌, ◌≤◌, Bool, true, false, not, cond, eqb, leb, ltb, List, [], ◌∷◌, ◌++◌, length, Result, Ok, Err, refl, sym, ap, subst, ◌∙◌, append_assoc, arith}
use Rattle.std.specs.Prelude.{◌&&◌, IfOk}
use Rattle.std.specs.Cmp.Derive.{both_true}
use Rattle.std.specs.Int.{w32, w64}
use Rattle.std.specs.List.{flat_map, AllByRecursion}
use Rattle.std.proofs.lemmas.Bool.{and_parts, not-true, eqb-true, eq-eqb, leb-true, le-leb, ltb-true, lt-ltb}
use Rattle.std.specs.Str.{bytes_eq}
use Rattle.std.proofs.lemmas.List.{append-nil, take_at}
use Rattle.ix_base.specs.declared.file_name.FileName.{FileName}
use Rattle.ix_base.specs.declared.document.Row.{Row}
use Rattle.ix_base.specs.declared.damaged.FileFault.{FileFault}
use Rattle.ix_base.specs.Births.{birth_of, first_birth, last_birth, number_of, place_of}
use Rattle.ix_base.specs.Codec.{◌>>=◌, items_at}
use Rattle.ix_base.proofs.CodecLaws.{bind_ok, ok_is, passes, Takes, Takes-then}
use Rattle.ix_base.specs.FileReading.{number_where, mark_at, ended, placed, GivesFile}
use Rattle.ix_base.proofs.FileLaws.{u32_where_takes, u32_where_again, u64_where_takes, u64_where_again, mark_takes, mark_again, ended_ok, placed_ok}
use Rattle.ix_base.proofs.ItemLaws.{AllGood, TakesItem, GivesItem, items_take, items_again, good_each}
use Rattle.ix_base.specs.Spelling.{be32, be64, AreBytes}
use Rattle.segment_files.specs.Spelling.{old_rows_mark, rows_mark, document, SpellsRows}
use Rattle.segment_files.specs.Fits.{DocumentFits, BirthsRise, IsSegment}
use Rattle.segment_files.specs.Fields.{document_at}
use Rattle.segment_files.specs.Reading.{marked_or, format_at, place_at, birth_at, row_at, rows_in}
use Rattle.segment_files.specs.declared.marks.RowFormat.{RowFormat}
use Rattle.segment_files.specs.declared.marks.RowFormat.TheVariants.{First, Second}
use Rattle.segment_files.proofs.DocumentLaws.{document_takes, document_again}

-- ---- the form

abbrev mark_of : RowFormat → List ℕ
mark_of First = old_rows_mark
mark_of Second = rows_mark

first_eight : length old_rows_mark ≡ 8
unfolding old_rows_mark
first_eight = refl

second_eight : length rows_mark ≡ 8
unfolding rows_mark
second_eight = refl

marks_differ : bytes_eq old_rows_mark rows_mark ≡ false
unfolding old_rows_mark rows_mark
marks_differ = refl

marked_takes : (bytes : List ℕ) (r : Result (List ℕ) ℕ) (x : RowFormat × List ℕ) → AreBytes bytes → mark_at rows_mark bytes ≡ r → marked_or r bytes ≡ Ok x → Takes bytes (mark_of x.0) x.1
marked_takes bytes (Ok rest) x fits marked is =
    subst (λ (y : RowFormat × List ℕ). Takes bytes (mark_of y.0) y.1) (ok_is (Second, rest) x is) (mark_takes rows_mark bytes rest second_eight fits marked)
marked_takes bytes (Err left) x fits marked is =
    let a = bind_ok (mark_at old_rows_mark bytes) (λ rest. Ok (First, rest)) x is in
    subst (λ (y : RowFormat × List ℕ). Takes bytes (mark_of y.0) y.1) (ok_is (First, a.0) x a.2) (mark_takes old_rows_mark bytes a.0 first_eight fits a.1)

format_takes : (bytes : List ℕ) (x : RowFormat × List ℕ) → AreBytes bytes → format_at bytes ≡ Ok x → Takes bytes (mark_of x.0) x.1
unfolding format_at
format_takes bytes x fits e = marked_takes bytes (mark_at rows_mark bytes) x fits refl e

not_second : (rest : List ℕ) → mark_at rows_mark (old_rows_mark ++ rest) ≡ Err (length (old_rows_mark ++ rest))
unfolding mark_at
not_second rest = rw (take_at old_rows_mark rest 8 first_eight, marks_differ) refl

format_again : (format : RowFormat) (rest : List ℕ) → format_at (mark_of format ++ rest) ≡ Ok (format, rest)
unfolding format_at
format_again First rest = rw (not_second rest, mark_again old_rows_mark rest first_eight) refl
format_again Second rest = rw (mark_again rows_mark rest second_eight) refl

-- ---- births

-- a place as each form spells it, and which places it has
abbrev place_bytes : RowFormat → ℕ → List ℕ
place_bytes First place = []
place_bytes Second place = be32 place

abbrev HasPlace : RowFormat → ℕ → Type 0
HasPlace First place = place ≡ 0
HasPlace Second place = place < 64

place_takes : (format : RowFormat) (bytes : List ℕ) (x : ℕ × List ℕ) → AreBytes bytes → place_at format bytes ≡ Ok x → Takes bytes (place_bytes format x.0) x.1 × HasPlace format x.0
unfolding place_at
place_takes First bytes x fits e =
    subst (λ (y : ℕ × List ℕ). Takes bytes [] y.1 × (y.0 ≡ 0)) (ok_is (0, bytes) x e) (record { parts = refl; rest_fits = fits }, refl)
place_takes Second bytes x fits e =
    let t = u32_where_takes (λ p. ltb p 64) bytes x fits e in
    (t.0, ltb-true _ _ t.2)

place_again : (format : RowFormat) (place : ℕ) (rest : List ℕ) → HasPlace format place → place_at format (place_bytes format place ++ rest) ≡ Ok (place, rest)
unfolding place_at
place_again First place rest has = ap (λ (p : ℕ). Ok (p, rest)) (sym has)
place_again Second place rest has = u32_where_again (λ p. ltb p 64) place rest (omega arith) (lt-ltb _ _ has)

few_places : (format : RowFormat) (place : ℕ) → HasPlace format place → place < 64
few_places First place has = omega arith
few_places Second place has = has

record BirthGood (format : RowFormat) (s : ℕ) (known : ℕ → Bool) (low birth : ℕ) : Type 0 where
  low_is : low ≤ birth
  not_later : birth ≤ last_birth s
  unknown : known (number_of birth) ≡ false
  place : HasPlace format (place_of birth)

abbrev birth_bytes : RowFormat → ℕ → List ℕ
birth_bytes format birth = be64 (number_of birth) ++ place_bytes format (place_of birth)

abbrev number_test : ℕ → (ℕ → Bool) → ℕ → ℕ → Bool
number_test s known low number = leb (number_of low) number && leb number s && not (known number)

birth_takes : (format : RowFormat) (s : ℕ) (known : ℕ → Bool) (low : ℕ) (bytes : List ℕ) (x : ℕ × List ℕ) → AreBytes bytes → birth_at format s known low bytes ≡ Ok x
    → Takes bytes (birth_bytes format x.0) x.1 × BirthGood format s known low x.0
unfolding birth_at
birth_takes format s known low bytes x fits e =
    let a = bind_ok (number_where w64 (number_test s known low) bytes) (λ number. place_at format number.1 >>= λ place. cond (leb low (birth_of number.0 place.0)) (Ok (birth_of number.0 place.0, place.1)) (Err (length bytes))) x e in
    let b = bind_ok (place_at format a.0.1) (λ place. cond (leb low (birth_of a.0.0 place.0)) (Ok (birth_of a.0.0 place.0, place.1)) (Err (length bytes))) x a.2 in
    let t0 = u64_where_takes (number_test s known low) bytes a.0 fits a.1 in
    let t1 = place_takes format a.0.1 b.0 t0.0.rest_fits b.1 in
    let made : ℕ × List ℕ = (birth_of a.0.0 b.0.0, b.0.1) in
    let g = passes (leb low made.0) (length bytes) made x b.2 in
    let both = Takes-then bytes (be64 a.0.0) a.0.1 (place_bytes format b.0.0) b.0.1 t0.0 t1.0 in
    let few : b.0.0 < 64 = few_places format b.0.0 t1.1 in
    let number : a.0.0 ≡ number_of made.0 = omega (arith, few) in
    let place : b.0.0 ≡ place_of made.0 = omega (arith, few) in
    let h = and_parts (leb (number_of low) a.0.0 && leb a.0.0 s) (not (known a.0.0)) t0.2 in
    let k = and_parts (leb (number_of low) a.0.0) (leb a.0.0 s) h.0 in
    let below : a.0.0 ≤ s = leb-true _ _ k.1 in
    let unknown : known (number_of made.0) ≡ false = subst (λ (n : ℕ). known n ≡ false) number (not-true (known a.0.0) h.1) in
    subst (λ (y : ℕ × List ℕ). Takes bytes (birth_bytes format y.0) y.1 × BirthGood format s known low y.0) g.1 (
      subst (λ (n : ℕ). Takes bytes (be64 n ++ place_bytes format (place_of made.0)) b.0.1) number (subst (λ (p : ℕ). Takes bytes (be64 a.0.0 ++ place_bytes format p) b.0.1) place both),
      record { low_is = leb-true _ _ g.0; not_later = omega (arith, few, below); unknown = unknown; place = subst (HasPlace format) place t1.1 },
    )

birth_again : (format : RowFormat) (s : ℕ) (known : ℕ → Bool) → s < 2 ^ 64 → (low birth : ℕ) (rest : List ℕ) → BirthGood format s known low birth → birth_at format s known low (birth_bytes format birth ++ rest) ≡ Ok (birth, rest)
unfolding birth_at
birth_again format s known lt low birth rest good =
    let regrouped : birth_bytes format birth ++ rest ≡ be64 (number_of birth) ++ (place_bytes format (place_of birth) ++ rest) = append_assoc (be64 (number_of birth)) (place_bytes format (place_of birth)) rest in
    let not_later : birth ≤ last_birth s = good.not_later in
    let low_is : low ≤ birth = good.low_is in
    let short : number_of birth < 2 ^ 64 = omega arith in
    let first : number_of low ≤ number_of birth = omega arith in
    let last : number_of birth ≤ s = omega arith in
    let one : number_test s known low (number_of birth) ≡ true = both_true (both_true (le-leb _ _ first) (le-leb _ _ last)) (ap not good.unknown) in
    let joined : birth_of (number_of birth) (place_of birth) ≡ birth = omega arith in
    let two : leb low birth ≡ true = le-leb _ _ low_is in
    ap (birth_at format s known low) regrouped
    ∙ rw (u64_where_again (number_test s known low) (number_of birth) (place_bytes format (place_of birth) ++ rest) short one, place_again format (place_of birth) rest good.place, joined, two) refl

-- ---- rows

abbrev spelled : RowFormat → Row → List ℕ
spelled format r = be64 (number_of r.birth) ++ (place_bytes format (place_of r.birth) ++ document r.doc)

record RowGood (format : RowFormat) (s : ℕ) (known : ℕ → Bool) (low : ℕ) (r : Row) : Type 0 where
  birth : BirthGood format s known low r.birth
  fits : DocumentFits r.doc

row_takes : (format : RowFormat) (s : ℕ) (known : ℕ → Bool) → TakesItem (row_at format s known) (spelled format) (RowGood format s known)
unfolding row_at
row_takes format s known low bytes x fits e =
    let a = bind_ok (birth_at format s known low bytes) (λ birth. document_at birth.1 >>= λ doc. Ok (record { birth = birth.0; doc = doc.0 }, doc.1)) x e in
    let b = bind_ok (document_at a.0.1) (λ doc. Ok (record { birth = a.0.0; doc = doc.0 }, doc.1)) x a.2 in
    let t0 = birth_takes format s known low bytes a.0 fits a.1 in
    let t1 = document_takes a.0.1 b.0 t0.0.rest_fits b.1 in
    let both = Takes-then bytes (birth_bytes format a.0.0) a.0.1 (document b.0.0) b.0.1 t0.0 t1.0 in
    let regrouped : birth_bytes format a.0.0 ++ document b.0.0 ≡ spelled format (record { birth = a.0.0; doc = b.0.0 }) = append_assoc (be64 (number_of a.0.0)) (place_bytes format (place_of a.0.0)) (document b.0.0) in
    let made : Row × List ℕ = (record { birth = a.0.0; doc = b.0.0 }, b.0.1) in
    subst (λ (y : Row × List ℕ). Takes bytes (spelled format y.0) y.1 × RowGood format s known low y.0) (ok_is made x b.2)
    (subst (λ (l : List ℕ). Takes bytes l b.0.1) regrouped both, record { birth = t0.1; fits = t1.1 })

row_again : (format : RowFormat) (s : ℕ) (known : ℕ → Bool) → s < 2 ^ 64 → GivesItem (row_at format s known) (spelled format) (RowGood format s known)
unfolding row_at
row_again format s known lt low r rest good =
    let doc : List ℕ = document r.doc in
    let regrouped : spelled format r ++ rest ≡ birth_bytes format r.birth ++ (doc ++ rest) =
    ap (λ (l : List ℕ). l ++ rest) (sym (append_assoc (be64 (number_of r.birth)) (place_bytes format (place_of r.birth)) doc)) ∙ append_assoc (birth_bytes format r.birth) doc rest in
    ap (row_at format s known low) regrouped ∙ rw (birth_again format s known lt low r.birth (doc ++ rest) good.birth, document_again r.doc rest good.fits) refl

abbrev after_birth : Row → ℕ
after_birth r = r.birth + 1

births_of : (format : RowFormat) (s : ℕ) (known : ℕ → Bool) (low : ℕ) (rows : List Row) → AllGood (RowGood format s known) after_birth low rows → BirthsRise low (last_birth s) rows
births_of format s known low [] good = tt
births_of format s known low (r ∷ rs) good = (good.0.birth.low_is, good.0.birth.not_later, births_of format s known (r.birth + 1) rs good.1)

-- the places that rows of a form have
abbrev HavePlaces : RowFormat → List Row → Type 0
HavePlaces format rows = AllByRecursion (λ (r : Row). HasPlace format (place_of r.birth)) rows

rows_good : (format : RowFormat) (s : ℕ) (known : ℕ → Bool) (low : ℕ) (rows : List Row) → BirthsRise low (last_birth s) rows → AllByRecursion (λ (r : Row). DocumentFits r.doc) rows → AllByRecursion (λ (r : Row). known (number_of r.birth) ≡ false) rows
    → HavePlaces format rows → AllGood (RowGood format s known) after_birth low rows
rows_good format s known low [] births fits unknown places = tt
rows_good format s known low (r ∷ rs) births fits unknown places =
    (record { birth = record { low_is = births.0; not_later = births.1; unknown = unknown.0; place = places.0 }; fits = fits.0 }, rows_good format s known (r.birth + 1) rs births.2 fits.1 unknown.1 places.1)

-- ---- the whole file

abbrev count_test : ℕ → ℕ → Bool
count_test n x = eqb x n && leb 1 x

abbrev file_of : RowFormat → ℕ → List Row → List ℕ
file_of format id rows = mark_of format ++ (be64 id ++ (be32 (length rows) ++ flat_map (spelled format) rows))

spells : (format : RowFormat) (id : ℕ) (rows : List Row) (bytes : List ℕ) → HavePlaces format rows → bytes ≡ file_of format id rows → SpellsRows id rows bytes
spells First id rows bytes places is = inr (places, is)
spells Second id rows bytes places is = inl is

rows_take : (id n s : ℕ) (known : ℕ → Bool) (bytes : List ℕ) (rows : List Row) → AreBytes bytes → rows_in id n s known bytes ≡ Ok rows → IsSegment s n known rows × SpellsRows id rows bytes
unfolding rows_in
rows_take id n s known bytes rows fits e =
    let m = bind_ok (format_at bytes) (λ format. number_where w64 (λ x. eqb x id) format.1 >>= λ own. number_where w32 (count_test n) own.1 >>= λ count. items_at (row_at format.0 s known) after_birth (first_birth 1) n count.1 >>= λ found. ended found.0 found.1) rows e in
    let format : RowFormat = m.0.0 in
    let item = row_at format s known in
    let good = RowGood format s known in
    let b = bind_ok (number_where w64 (λ x. eqb x id) m.0.1) (λ own. number_where w32 (count_test n) own.1 >>= λ count. items_at item after_birth (first_birth 1) n count.1 >>= λ found. ended found.0 found.1) rows m.2 in
    let c = bind_ok (number_where w32 (count_test n) b.0.1) (λ count. items_at item after_birth (first_birth 1) n count.1 >>= λ found. ended found.0 found.1) rows b.2 in
    let d = bind_ok (items_at item after_birth (first_birth 1) n c.0.1) (λ found. ended found.0 found.1) rows c.2 in
    let z = ended_ok d.0.0 d.0.1 rows d.2 in
    let t0 = format_takes bytes m.0 fits m.1 in
    let t1 = u64_where_takes (λ x. eqb x id) m.0.1 b.0 t0.rest_fits b.1 in
    let t2 = u32_where_takes (count_test n) b.0.1 c.0 t1.0.rest_fits c.1 in
    let t3 = items_take item after_birth (spelled format) good (row_takes format s known) (first_birth 1) n c.0.1 d.0 t2.0.rest_fits d.1 in
    let h = and_parts (eqb c.0.0 n) (leb 1 c.0.0) t2.2 in
    let id-is : b.0.0 ≡ id = eqb-true _ _ t1.2 in
    let n-is : c.0.0 ≡ n = eqb-true _ _ h.0 in
    let some : 1 ≤ c.0.0 = leb-true _ _ h.1 in
    let items : List ℕ = flat_map (spelled format) d.0.0 in
    let e23 = Takes-then b.0.1 (be32 c.0.0) c.0.1 items d.0.1 t2.0 t3.0 in
    let e13 = Takes-then m.0.1 (be64 b.0.0) b.0.1 (be32 c.0.0 ++ items) d.0.1 t1.0 e23 in
    let e03 = Takes-then bytes (mark_of format) m.0.1 (be64 b.0.0 ++ (be32 c.0.0 ++ items)) d.0.1 t0 e13 in
    let written : List ℕ = mark_of format ++ (be64 b.0.0 ++ (be32 c.0.0 ++ items)) in
    let whole : bytes ≡ written = e03.parts ∙ ap (λ (r : List ℕ). written ++ r) z.0 ∙ append-nil written in
    let one : bytes ≡ mark_of format ++ (be64 id ++ (be32 c.0.0 ++ items)) = whole ∙ ap (λ (i : ℕ). mark_of format ++ (be64 i ++ (be32 c.0.0 ++ items))) id-is in
    let two : bytes ≡ file_of format id d.0.0 = one ∙ ap (λ (i : ℕ). mark_of format ++ (be64 id ++ (be32 i ++ items))) (n-is ∙ sym t3.1) in
    let places : HavePlaces format d.0.0 = good_each good (λ (r : Row). HasPlace format (place_of r.birth)) after_birth (λ low r g. g.birth.place) (first_birth 1) d.0.0 t3.2 in
    subst (λ (rs : List Row). IsSegment s n known rs × SpellsRows id rs bytes) z.1 (
      record {
        fits = record { some = omega (arith, t3.1, n-is); count = omega (arith, t3.1, n-is, t2.1); births = births_of format s known (first_birth 1) d.0.0 t3.2; documents = good_each good (λ (r : Row). DocumentFits r.doc) after_birth (λ low r g. g.fits) (first_birth 1) d.0.0 t3.2 };
        count = t3.1;
        unknown = good_each good (λ (r : Row). known (number_of r.birth) ≡ false) after_birth (λ low r g. g.birth.unknown) (first_birth 1) d.0.0 t3.2;
      },
      spells format id d.0.0 bytes places two,
    )

form_again : (format : RowFormat) (id n s : ℕ) (known : ℕ → Bool) (rows : List Row) → id < 2 ^ 64 → s < 2 ^ 64 → IsSegment s n known rows → HavePlaces format rows → rows_in id n s known (file_of format id rows) ≡ Ok rows
unfolding rows_in
form_again format id n s known rows id_fits s_fits segment places =
    let item = row_at format s known in
    let low : ℕ = first_birth 1 in
    let good = rows_good format s known low rows segment.fits.births segment.fits.documents segment.unknown places in
    let written : List ℕ = flat_map (spelled format) rows in
    let counted : List ℕ = be32 (length rows) ++ written in
    let items : items_at item after_birth low n written ≡ Ok (rows, []) =
    ap (λ (k : ℕ). items_at item after_birth low k written) (sym segment.count)
    ∙ ap (items_at item after_birth low (length rows)) (sym (append-nil written))
    ∙ items_again item after_birth (spelled format) (RowGood format s known) (row_again format s known s_fits) low rows [] good in
    let test : count_test n (length rows) ≡ true = both_true (eq-eqb _ _ segment.count) (le-leb _ _ segment.fits.some) in
    rw (format_again format (be64 id ++ counted), u64_where_again (λ x. eqb x id) id counted id_fits (eq-eqb id id refl), u32_where_again (count_test n) (length rows) written segment.fits.count test, items) refl

all_places : (rows : List Row) → HavePlaces Second rows
all_places [] = tt
all_places (r ∷ rs) = (omega arith, all_places rs)

pub rows_again : (id n s : ℕ) (known : ℕ → Bool) (bytes : List ℕ) (rows : List Row) → id < 2 ^ 64 → s < 2 ^ 64 → IsSegment s n known rows → SpellsRows id rows bytes → rows_in id n s known bytes ≡ Ok rows
rows_again id n s known bytes rows id_fits s_fits segment (inl is) =
    ap (rows_in id n s known) is ∙ form_again Second id n s known rows id_fits s_fits segment (all_places rows)
rows_again id n s known bytes rows id_fits s_fits segment (inr old) =
    ap (rows_in id n s known) old.1 ∙ form_again First id n s known rows id_fits s_fits segment old.0

pub rows_found : (id n s : ℕ) (known : ℕ → Bool) (bytes : List ℕ) (name : FileName) (r : Result (List Row) FileFault) → AreBytes bytes
    → GivesFile (λ x. x) r (placed name bytes (rows_in id n s known bytes)) → IfOk r (λ rows. IsSegment s n known rows × SpellsRows id rows bytes)
rows_found id n s known bytes name (Ok rows) fits given = rows_take id n s known bytes rows fits (placed_ok name bytes (rows_in id n s known bytes) rows given)
rows_found id n s known bytes name (Err f) fits given = tt

pub rows_only : (id n s : ℕ) (known : ℕ → Bool) (bytes : List ℕ) (name : FileName) (r : Result (List Row) FileFault) → id < 2 ^ 64 → s < 2 ^ 64
    → GivesFile (λ x. x) r (placed name bytes (rows_in id n s known bytes)) → (rows : List Row) → IsSegment s n known rows → SpellsRows id rows bytes → GivesFile (λ x. x) r (Ok rows)
rows_only id n s known bytes name r id_fits s_fits given rows segment is =
    let read : rows_in id n s known bytes ≡ Ok rows = rows_again id n s known bytes rows id_fits s_fits segment is in
    subst (λ (x : Result (List Row) ℕ). GivesFile (λ y. y) r (placed name bytes x)) read given
