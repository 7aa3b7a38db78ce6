-- A file of set numbers that is read is the one that was written, and what was written is read again.
use Rattle.std.proofs.Common.{◌≡◌, ℕ, ◌^◌, ◌<◌, Bool, true, ◌&&◌, cond, eqb, ltb, List, [], ◌++◌, length, Option, Some, None, Result, Ok, Err, refl, sym, ap, subst, ◌∙◌, append_assoc, arith, inl, inr}
use Rattle.std.specs.Prelude.{IfOk}
use Rattle.std.specs.Cmp.Derive.{both_true}
use Rattle.std.specs.Cmp.Lexicographic.{slice_cmp}
use Rattle.std.specs.Int.{w32, w64}
use Rattle.std.specs.List.{flat_map, AllPairs}
use Rattle.std.specs.Ordering.{nat_cmp, is_lt}
use Rattle.std.specs.declared.cmp.Ordering.{Ordering}
use Rattle.std.specs.declared.cmp.Ordering.TheVariants.{Less, Equal, Greater}
use Rattle.std.proofs.lemmas.Bool.{and_parts, eqb-true, eq-eqb, le-leb, ltb-true, lt-ltb}
use Rattle.std.proofs.lemmas.Cmp.{nat_list_cmp_total}
use Rattle.std.proofs.lemmas.List.{append-nil}
use Rattle.ix_base.specs.declared.file_name.FileName.{FileName}
use Rattle.ix_base.specs.declared.damaged.FileFault.{FileFault}
use Rattle.ix_base.specs.Codec.{◌>>=◌, number_at, signed_at, name_at, items_at}
use Rattle.ix_base.proofs.CodecLaws.{bind_ok, ok_is, passes, Takes, Takes-then, u64_takes, u64_again, signed_takes, signed_again, name_takes, name_again}
use Rattle.ix_base.specs.FileReading.{number_where, mark_at, ended, placed, GivesFile}
use Rattle.ix_base.proofs.FileLaws.{u32_where_takes, u32_where_again, u64_where_takes, u64_where_again, mark_takes, mark_again, ended_ok, placed_ok}
use Rattle.ix_base.proofs.ItemLaws.{AllGood, TakesItem, GivesItem, items_take, items_again, good_each, good_onto, good_both}
use Rattle.ix_base.specs.Limits.{text_lt}
use Rattle.ix_base.specs.Spelling.{be32, be64, signed64, text_bytes, AreBytes, IsName}
use Rattle.live_files.specs.LiveSpelling.{values_mark, SetValue, value_bytes, values_file}
use Rattle.live_files.specs.LiveFits.{IsBefore, ValueFits, ValuesFit}
use Rattle.live_files.specs.LiveReading.{row_comes, value_comes, value_name_at, value_at, values_in}
use Rattle.live_files.proofs.ValueOrder.{Before, before_of, of_before, not_after}
use Rattle.segment_files.proofs.Rising.{rises, chain}

-- ---- rows and names rise

is_less : (o : Ordering) → is_lt o ≡ true → o ≡ Less
is_less Less e = refl
is_less Equal e = absurd cc
is_less Greater e = absurd cc

text_lt_trans : (a b c : List ℕ) → text_lt a b ≡ true → text_lt b c ≡ true → text_lt a c ≡ true
text_lt_trans a b c p q =
    ap is_lt (nat_list_cmp_total.trans a b c (is_less (slice_cmp nat_cmp a b) p) (is_less (slice_cmp nat_cmp b c) q))

joined : (a b c : SetValue) → Before a.0 a.1 b.0 b.1 → Before b.0 b.1 c.0 c.1 → Before a.0 a.1 c.0 c.1
joined a b c (inl p) (inl q) = inl (omega arith)
joined a b c (inl p) (inr q) = inl (omega (arith, q.0))
joined a b c (inr p) (inl q) = inl (omega (arith, p.0))
joined a b c (inr p) (inr q) = inr (p.0 ∙ q.0, text_lt_trans a.1 b.1 c.1 p.1 q.1)

pub before_trans : (a b c : SetValue) → IsBefore a b → IsBefore b c → IsBefore a c
before_trans a b c p q = of_before a.0 a.1 c.0 c.1 (joined a b c (before_of a.0 a.1 b.0 b.1 p) (before_of b.0 b.1 c.0 c.1 q))

row_too : (last : Option SetValue) (row : ℕ) (name : List ℕ) → value_comes last row name ≡ true → row_comes last row ≡ true
row_too None row name e = refl
row_too (Some last) row name e = le-leb last.0 row (not_after last.0 last.1 row name (before_of last.0 last.1 row name e))

abbrev pub ValueComes : Option SetValue → SetValue → Type 0
ValueComes last x = value_comes last x.0 x.1 ≡ true

abbrev pub itself : SetValue → Option SetValue
itself x = Some x

-- ---- rows and names

abbrev row_test : ℕ → Option SetValue → ℕ → Bool
row_test n last x = row_comes last x && ltb x n

record NameGood (n : ℕ) (last : Option SetValue) (p : ℕ × List ℕ) : Type 0 where
  row : p.0 < n
  short : p.0 < 2 ^ 32
  name : IsName p.1
  comes : value_comes last p.0 p.1 ≡ true

abbrev place_bytes : ℕ × List ℕ → List ℕ
place_bytes p = be32 p.0 ++ text_bytes p.1

place_takes : (n : ℕ) → TakesItem (value_name_at n) place_bytes (NameGood n)
unfolding value_name_at
place_takes n last bytes x fits e =
    let a = bind_ok (number_where w32 (row_test n last) bytes) (λ row. name_at row.1 >>= λ name. cond (value_comes last row.0 name.0) (Ok ((row.0, name.0), name.1)) (Err (length bytes))) x e in
    let b = bind_ok (name_at a.0.1) (λ name. cond (value_comes last a.0.0 name.0) (Ok ((a.0.0, name.0), name.1)) (Err (length bytes))) x a.2 in
    let made : (ℕ × List ℕ) × List ℕ = ((a.0.0, b.0.0), b.0.1) in
    let g = passes (value_comes last a.0.0 b.0.0) (length bytes) made x b.2 in
    let t0 = u32_where_takes (row_test n last) bytes a.0 fits a.1 in
    let t1 = name_takes a.0.1 b.0 t0.0.rest_fits b.1 in
    let both = Takes-then bytes (be32 a.0.0) a.0.1 (text_bytes b.0.0) b.0.1 t0.0 t1.0 in
    let h = and_parts (row_comes last a.0.0) (ltb a.0.0 n) t0.2 in
    subst (λ (y : (ℕ × List ℕ) × List ℕ). Takes bytes (place_bytes y.0) y.1 × NameGood n last y.0) g.1
    (both, record { row = ltb-true a.0.0 n h.1; short = t0.1; name = t1.1; comes = g.0 })

place_again : (n : ℕ) → GivesItem (value_name_at n) place_bytes (NameGood n)
unfolding value_name_at
place_again n last p rest good =
    let regrouped : place_bytes p ++ rest ≡ be32 p.0 ++ (text_bytes p.1 ++ rest) = append_assoc (be32 p.0) (text_bytes p.1) rest in
    let test : row_test n last p.0 ≡ true = both_true (row_too last p.0 p.1 good.comes) (lt-ltb p.0 n good.row) in
    ap (value_name_at n last) regrouped ∙ rw (u32_where_again (row_test n last) p.0 (text_bytes p.1 ++ rest) good.short test, name_again p.1 rest good.name, good.comes) refl

-- ---- numbers

record ValueGood (n : ℕ) (last : Option SetValue) (x : SetValue) : Type 0 where
  comes : ValueComes last x
  fits : ValueFits n x

value_takes : (n : ℕ) → TakesItem (value_at n) value_bytes (ValueGood n)
unfolding value_at
value_takes n last bytes x fits e =
    let a = bind_ok (value_name_at n last bytes) (λ named. signed_at named.1 >>= λ number. Ok ((named.0.0, named.0.1, number.0), number.1)) x e in
    let b = bind_ok (signed_at a.0.1) (λ number. Ok ((a.0.0.0, a.0.0.1, number.0), number.1)) x a.2 in
    let made : SetValue × List ℕ = ((a.0.0.0, a.0.0.1, b.0.0), b.0.1) in
    let t0 = place_takes n last bytes a.0 fits a.1 in
    let t1 = signed_takes a.0.1 b.0 t0.0.rest_fits b.1 in
    let both = Takes-then bytes (place_bytes a.0.0) a.0.1 (signed64 b.0.0) b.0.1 t0.0 t1.0 in
    let spelled : Takes bytes (value_bytes made.0) b.0.1 = subst (λ (l : List ℕ). Takes bytes l b.0.1) (append_assoc (be32 a.0.0.0) (text_bytes a.0.0.1) (signed64 b.0.0)) both in
    subst (λ (y : SetValue × List ℕ). Takes bytes (value_bytes y.0) y.1 × ValueGood n last y.0) (ok_is made x b.2)
    (spelled, record { comes = t0.1.comes; fits = record { row = t0.1.row; name = t0.1.name; number = t1.1 } })

value_again : (n : ℕ) → n < 2 ^ 32 → GivesItem (value_at n) value_bytes (ValueGood n)
unfolding value_at
value_again n lt last x rest good =
    let place : ℕ × List ℕ = (x.0, x.1) in
    let number = signed64 x.2 ++ rest in
    let regrouped : value_bytes x ++ rest ≡ place_bytes place ++ number =
    append_assoc (be32 x.0) (text_bytes x.1 ++ signed64 x.2) rest
    ∙ ap (λ (l : List ℕ). be32 x.0 ++ l) (append_assoc (text_bytes x.1) (signed64 x.2) rest)
    ∙ sym (append_assoc (be32 x.0) (text_bytes x.1) number) in
    let short : x.0 < 2 ^ 32 = omega (arith, good.fits.row) in
    ap (value_at n last) regrouped ∙ rw (
      place_again n last place number (record { row = good.fits.row; short = short; name = good.fits.name; comes = good.comes }),
      signed_again x.2 rest good.fits.number,
    ) refl

-- ---- whole files

values_rise : (n : ℕ) (values : List SetValue) → AllGood (ValueGood n) itself None values → AllPairs IsBefore values
values_rise n values all =
    rises IsBefore ValueComes itself before_trans (λ a b h. h) None values (good_onto (ValueGood n) ValueComes itself (λ s x g. g.comes) None values all)

values_good : (n : ℕ) (values : List SetValue) → ValuesFit n values → AllGood (ValueGood n) itself None values
values_good n values fit =
    good_both (ValueGood n) ValueComes (ValueFits n) itself (λ s x f c. record { comes = c; fits = f }) None values fit.each
    (chain IsBefore ValueComes itself (λ a b h. h) None values (λ x. refl) fit.rise)

pub values_take : (id v n : ℕ) (bytes : List ℕ) (values : List SetValue) → AreBytes bytes → values_in id v n bytes ≡ Ok values → ValuesFit n values × (bytes ≡ values_file id v n values)
unfolding values_in values_mark
values_take id v n bytes values fits e =
    let a = bind_ok (mark_at values_mark bytes) (λ rest. number_where w64 (λ x. eqb x id) rest >>= λ own. number_where w64 (λ x. eqb x v) own.1 >>= λ commit. number_where w32 (λ x. eqb x n) commit.1 >>= λ rows. number_at w64 rows.1 >>= λ count. items_at (value_at n) itself None count.0 count.1 >>= λ found. ended found.0 found.1) values e in
    let b = bind_ok (number_where w64 (λ x. eqb x id) a.0) (λ own. number_where w64 (λ x. eqb x v) own.1 >>= λ commit. number_where w32 (λ x. eqb x n) commit.1 >>= λ rows. number_at w64 rows.1 >>= λ count. items_at (value_at n) itself None count.0 count.1 >>= λ found. ended found.0 found.1) values a.2 in
    let c = bind_ok (number_where w64 (λ x. eqb x v) b.0.1) (λ commit. number_where w32 (λ x. eqb x n) commit.1 >>= λ rows. number_at w64 rows.1 >>= λ count. items_at (value_at n) itself None count.0 count.1 >>= λ found. ended found.0 found.1) values b.2 in
    let d = bind_ok (number_where w32 (λ x. eqb x n) c.0.1) (λ rows. number_at w64 rows.1 >>= λ count. items_at (value_at n) itself None count.0 count.1 >>= λ found. ended found.0 found.1) values c.2 in
    let f = bind_ok (number_at w64 d.0.1) (λ count. items_at (value_at n) itself None count.0 count.1 >>= λ found. ended found.0 found.1) values d.2 in
    let g = bind_ok (items_at (value_at n) itself None f.0.0 f.0.1) (λ found. ended found.0 found.1) values f.2 in
    let z = ended_ok g.0.0 g.0.1 values g.2 in
    let t0 = mark_takes values_mark bytes a.0 refl fits a.1 in
    let t1 = u64_where_takes (λ x. eqb x id) a.0 b.0 t0.rest_fits b.1 in
    let t2 = u64_where_takes (λ x. eqb x v) b.0.1 c.0 t1.0.rest_fits c.1 in
    let t3 = u32_where_takes (λ x. eqb x n) c.0.1 d.0 t2.0.rest_fits d.1 in
    let t4 = u64_takes d.0.1 f.0 t3.0.rest_fits f.1 in
    let t5 = items_take (value_at n) itself value_bytes (ValueGood n) (value_takes n) None f.0.0 f.0.1 g.0 t4.0.rest_fits g.1 in
    let id-is : b.0.0 ≡ id = eqb-true _ _ t1.2 in
    let v-is : c.0.0 ≡ v = eqb-true _ _ t2.2 in
    let n-is : d.0.0 ≡ n = eqb-true _ _ t3.2 in
    let all = flat_map value_bytes g.0.0 in
    let e45 = Takes-then d.0.1 (be64 f.0.0) f.0.1 all g.0.1 t4.0 t5.0 in
    let e35 = Takes-then c.0.1 (be32 d.0.0) d.0.1 (be64 f.0.0 ++ all) g.0.1 t3.0 e45 in
    let e25 = Takes-then b.0.1 (be64 c.0.0) c.0.1 (be32 d.0.0 ++ (be64 f.0.0 ++ all)) g.0.1 t2.0 e35 in
    let e15 = Takes-then a.0 (be64 b.0.0) b.0.1 (be64 c.0.0 ++ (be32 d.0.0 ++ (be64 f.0.0 ++ all))) g.0.1 t1.0 e25 in
    let e05 = Takes-then bytes values_mark a.0 (be64 b.0.0 ++ (be64 c.0.0 ++ (be32 d.0.0 ++ (be64 f.0.0 ++ all)))) g.0.1 t0 e15 in
    let spelled : List ℕ = values_mark ++ (be64 b.0.0 ++ (be64 c.0.0 ++ (be32 d.0.0 ++ (be64 f.0.0 ++ all)))) in
    let whole : bytes ≡ spelled = e05.parts ∙ ap (λ (r : List ℕ). spelled ++ r) z.0 ∙ append-nil spelled in
    let named : bytes ≡ values_mark ++ (be64 id ++ (be64 c.0.0 ++ (be32 d.0.0 ++ (be64 f.0.0 ++ all)))) = whole ∙ ap (λ (i : ℕ). values_mark ++ (be64 i ++ (be64 c.0.0 ++ (be32 d.0.0 ++ (be64 f.0.0 ++ all))))) id-is in
    let written : bytes ≡ values_mark ++ (be64 id ++ (be64 v ++ (be32 d.0.0 ++ (be64 f.0.0 ++ all)))) = named ∙ ap (λ (i : ℕ). values_mark ++ (be64 id ++ (be64 i ++ (be32 d.0.0 ++ (be64 f.0.0 ++ all))))) v-is in
    let counted : bytes ≡ values_mark ++ (be64 id ++ (be64 v ++ (be32 n ++ (be64 f.0.0 ++ all)))) = written ∙ ap (λ (i : ℕ). values_mark ++ (be64 id ++ (be64 v ++ (be32 i ++ (be64 f.0.0 ++ all))))) n-is in
    let done : bytes ≡ values_file id v n g.0.0 = counted ∙ ap (λ (i : ℕ). values_mark ++ (be64 id ++ (be64 v ++ (be32 n ++ (be64 i ++ all))))) (sym t5.1) in
    let fit : ValuesFit n g.0.0 = record {
      count = omega (arith, t5.1, t4.1);
      rise = values_rise n g.0.0 t5.2;
      each = good_each (ValueGood n) (ValueFits n) itself (λ s x k. k.fits) None g.0.0 t5.2;
    } in
    subst (λ (xs : List SetValue). ValuesFit n xs × (bytes ≡ values_file id v n xs)) z.1 (fit, done)

pub values_again : (id v n : ℕ) (values : List SetValue) → id < 2 ^ 64 → v < 2 ^ 64 → n < 2 ^ 32 → ValuesFit n values → values_in id v n (values_file id v n values) ≡ Ok values
unfolding values_in values_mark
values_again id v n values id_fits v_fits n_fits fit =
    let all = flat_map value_bytes values in
    let counted = be64 (length values) ++ all in
    let found : items_at (value_at n) itself None (length values) all ≡ Ok (values, []) =
    ap (items_at (value_at n) itself None (length values)) (sym (append-nil all))
    ∙ items_again (value_at n) itself value_bytes (ValueGood n) (value_again n n_fits) None values [] (values_good n values fit) in
    rw (
      mark_again values_mark (be64 id ++ (be64 v ++ (be32 n ++ counted))) refl,
      u64_where_again (λ x. eqb x id) id (be64 v ++ (be32 n ++ counted)) id_fits (eq-eqb id id refl),
      u64_where_again (λ x. eqb x v) v (be32 n ++ counted) v_fits (eq-eqb v v refl),
      u32_where_again (λ x. eqb x n) n counted n_fits (eq-eqb n n refl),
      u64_again (length values) all fit.count,
      found,
    ) refl

pub values_found : {X : Type 0} (view : X → List SetValue) (id v n : ℕ) (bytes : List ℕ) (name : FileName) (r : Result X FileFault) → AreBytes bytes
    → GivesFile view r (placed name bytes (values_in id v n bytes)) → IfOk r (λ x. ValuesFit n (view x) × (bytes ≡ values_file id v n (view x)))
values_found view id v n bytes name (Ok x) fits given = values_take id v n bytes (view x) fits (placed_ok name bytes (values_in id v n bytes) (view x) given)
values_found view id v n bytes name (Err f) fits given = tt

pub values_only : {X : Type 0} (view : X → List SetValue) (id v n : ℕ) (bytes : List ℕ) (name : FileName) (r : Result X FileFault) → id < 2 ^ 64 → v < 2 ^ 64 → n < 2 ^ 32
    → GivesFile view r (placed name bytes (values_in id v n bytes)) → (values : List SetValue) → ValuesFit n values → bytes ≡ values_file id v n values → GivesFile view r (Ok values)
values_only view id v n bytes name r id_fits v_fits n_fits given values fit is =
    let read : values_in id v n bytes ≡ Ok values = ap (values_in id v n) is ∙ values_again id v n values id_fits v_fits n_fits fit in
    subst (λ (x : Result (List SetValue) ℕ). GivesFile view r (placed name bytes x)) read given

-- ---- one file has one list of numbers

pub one_values : (id v n : ℕ) (values others : List SetValue) → id < 2 ^ 64 → v < 2 ^ 64 → n < 2 ^ 32 → ValuesFit n values → ValuesFit n others → values_file id v n values ≡ values_file id v n others → values ≡ others
one_values id v n values others id_fits v_fits n_fits fit also same =
    ok_is values others (sym (values_again id v n values id_fits v_fits n_fits fit) ∙ ap (values_in id v n) same ∙ values_again id v n others id_fits v_fits n_fits also)
