-- The bytes of set numbers, as a loop over rows and one over the numbers of a row make them.
use Rattle.std.proofs.Common.{◌≡◌, ℕ, zero, suc, ◌+◌, ◌^◌, ◌<◌, ◌≤◌, true, List, [], ◌∷◌, ◌++◌, length, map, take, get_or, Option, Some, None, refl, sym, ap, ◌∙◌, append_assoc, arith, inl, inr}
use Rattle.std.specs.Prelude.{ℤ, ⊤}
use Rattle.std.specs.List.{flat_map, AllByRecursion}
use Rattle.std.proofs.lemmas.Bool.{and_parts}
use Rattle.std.proofs.lemmas.List.{length-append, flat_map_more}
use Rattle.std.proofs.lemmas.List.Concat.{flat_map-cons}
use Rattle.ix_base.proofs.ItemLaws.{AllGood}
use Rattle.ix_base.specs.Limits.{text_lt, rise_after, names_rise}
use Rattle.ix_base.specs.Spelling.{be32, signed64, text_bytes}
use Rattle.ix_base.specs.Steps.{Named}
use Rattle.live_docs.specs.Marks.{RowsNamesRise}
use Rattle.live_docs.specs.declared.live_docs.Mark.{Mark}
use Rattle.live_files.specs.LiveSpelling.{SetValue, value_bytes, row_values, values_from, values_of}
use Rattle.live_files.specs.LiveFits.{IsBefore, ValueFits, ValuesFit}
use Rattle.live_files.specs.LiveReading.{value_comes}
use Rattle.segment_files.proofs.Rising.{rises}
use Rattle.live_files.proofs.ValueOrder.{of_before}
use Rattle.live_files.proofs.ValuesRead.{ValueComes, itself, before_trans}

abbrev pub names : List Named → List (List ℕ)
names numbers = map (λ number. number.0) numbers

-- ---- the numbers of one row

one_pair : (row : ℕ) (pairs : List Named) (i : ℕ) (x : Named) → i < length pairs → x ≡ get_or pairs i x → row_values row (take (suc i) pairs) ≡ row_values row (take i pairs) ++ (row, x.0, x.1) ∷ []
one_pair row [] i x lt is = absurd (omega arith)
one_pair row (p ∷ ps) zero x lt is = ap (λ (y : Named). (row, y.0, y.1) ∷ []) (sym is)
one_pair row (p ∷ ps) (suc i) x lt is = ap (λ (l : List SetValue). (row, p.0, p.1) ∷ l) (one_pair row ps i x (omega arith) is)

pair_more : (row : ℕ) (pairs : List Named) (i : ℕ) (x : Named) → i < length pairs → x ≡ get_or pairs i x → row_values row (take (i + 1) pairs) ≡ row_values row (take i pairs) ++ (row, x.0, x.1) ∷ []
pair_more row pairs i x lt is = let k : i + 1 ≡ suc i = omega arith in ap (λ (j : ℕ). row_values row (take j pairs)) k ∙ one_pair row pairs i x lt is

pub pair_bytes : (row : ℕ) (pairs : List Named) (i : ℕ) (x : Named) (old before now : List ℕ) → i < length pairs → x ≡ get_or pairs i x
    → before ≡ old ++ flat_map value_bytes (row_values row (take i pairs)) → now ≡ before ++ value_bytes (row, x.0, x.1) → now ≡ old ++ flat_map value_bytes (row_values row (take (i + 1) pairs))
pair_bytes row pairs i x old before now lt is was writes =
    writes
    ∙ ap (λ (l : List ℕ). l ++ value_bytes (row, x.0, x.1)) was
    ∙ flat_map_more value_bytes old (row_values row (take i pairs)) (row, x.0, x.1)
    ∙ ap (λ (l : List SetValue). old ++ flat_map value_bytes l) (sym (pair_more row pairs i x lt is))

pub all_append : (P : SetValue → Type 0) (xs ys : List SetValue) → AllByRecursion P xs → AllByRecursion P ys → AllByRecursion P (xs ++ ys)
all_append P [] ys first second = second
all_append P (x ∷ xs) ys first second = (first.0, all_append P xs ys first.1 second)

pub all_same : (P : SetValue → Type 0) (xs ys : List SetValue) → ys ≡ xs → AllByRecursion P xs → AllByRecursion P ys
all_same P xs ys is all = rw is all

pub pair_fits : (n row : ℕ) (pairs : List Named) (i : ℕ) (x : Named) → i < length pairs → x ≡ get_or pairs i x → AllByRecursion (ValueFits n) (row_values row (take i pairs)) → ValueFits n (row, x.0, x.1)
    → AllByRecursion (ValueFits n) (row_values row (take (i + 1) pairs))
pair_fits n row pairs i x lt is all one =
    all_same (ValueFits n) (row_values row (take i pairs) ++ (row, x.0, x.1) ∷ []) (row_values row (take (i + 1) pairs)) (pair_more row pairs i x lt is)
    (all_append (ValueFits n) (row_values row (take i pairs)) ((row, x.0, x.1) ∷ []) all (one, tt))

-- ---- how many numbers there are

be32_length : (n : ℕ) → length (be32 n) ≡ 4
unfolding be32
be32_length n = refl

few_values : (values : List SetValue) → length values ≤ length (flat_map value_bytes values)
few_values [] = omega arith
few_values (x ∷ xs) =
    let e : length (flat_map value_bytes (x ∷ xs)) ≡ length (value_bytes x ++ flat_map value_bytes xs) = ap length (flat_map-cons value_bytes x xs) in
    omega (arith, e, length-append (value_bytes x) (flat_map value_bytes xs), length-append (be32 x.0) (text_bytes x.1 ++ signed64 x.2), be32_length x.0, few_values xs)

pub few : (values : List SetValue) (out front : List ℕ) → out ≡ front ++ flat_map value_bytes values → length out < 2 ^ 64 → length values < 2 ^ 64
few values out front is short = omega (arith, ap length is, length-append front (flat_map value_bytes values), few_values values)

-- ---- the whole file

pub in_order : (out0 out1 out2 out3 out4 out5 out6 a b c d e f : List ℕ) → out0 ≡ [] → out1 ≡ out0 ++ a → out2 ≡ out1 ++ b → out3 ≡ out2 ++ c → out4 ≡ out3 ++ d → out5 ≡ out4 ++ e → out6 ≡ out5 ++ f
    → out6 ≡ a ++ (b ++ (c ++ (d ++ (e ++ f))))
in_order out0 out1 out2 out3 out4 out5 out6 a b c d e f i0 i1 i2 i3 i4 i5 i6 =
    let o1 : out1 ≡ a = i1 ∙ ap (λ (l : List ℕ). l ++ a) i0 in
    let o2 : out2 ≡ a ++ b = i2 ∙ ap (λ (l : List ℕ). l ++ b) o1 in
    let o3 : out3 ≡ (a ++ b) ++ c = i3 ∙ ap (λ (l : List ℕ). l ++ c) o2 in
    let o4 : out4 ≡ ((a ++ b) ++ c) ++ d = i4 ∙ ap (λ (l : List ℕ). l ++ d) o3 in
    let o5 : out5 ≡ (((a ++ b) ++ c) ++ d) ++ e = i5 ∙ ap (λ (l : List ℕ). l ++ e) o4 in
    let o6 : out6 ≡ ((((a ++ b) ++ c) ++ d) ++ e) ++ f = i6 ∙ ap (λ (l : List ℕ). l ++ f) o5 in
    o6 ∙ simp append_assoc

-- ---- they rise

-- the last number before these, where there is one, is in an earlier row
abbrev Below : ℕ → Option SetValue → Type 0
Below row None = ⊤
Below row (Some last) = last.0 < row

abbrev ComeAfter : ℕ → List SetValue → Type 0
ComeAfter row values = (last : Option SetValue) → Below row last → AllGood ValueComes itself last values

comes_first : (row : ℕ) (name : List ℕ) (last : Option SetValue) → Below row last → value_comes last row name ≡ true
comes_first row name None below = refl
comes_first row name (Some last) below = of_before last.0 last.1 row name (inl below)

below_more : (row : ℕ) (last : Option SetValue) → Below row last → Below (row + 1) last
below_more row None below = tt
below_more row (Some last) below = omega arith

in_row : (row : ℕ) (low : List ℕ) (value : ℤ) (numbers : List Named) (rest : List SetValue) → rise_after low (names numbers) ≡ true → ComeAfter (row + 1) rest → AllGood ValueComes itself (Some (row, low, value)) (row_values row numbers ++ rest)
in_row row low value [] rest rise after = after (Some (row, low, value)) (omega arith)
in_row row low value (p ∷ ps) rest rise after =
    let h = and_parts (text_lt low p.0) (rise_after p.0 (names ps)) rise in
    (of_before row low row p.0 (inr (refl, h.0)), in_row row p.0 p.1 ps rest h.1 after)

row_first : (row : ℕ) (numbers : List Named) (rest : List SetValue) → names_rise (names numbers) ≡ true → ComeAfter (row + 1) rest → ComeAfter row (row_values row numbers ++ rest)
row_first row [] rest rise after last below = after last (below_more row last below)
row_first row (p ∷ ps) rest rise after last below = (comes_first row p.0 last below, in_row row p.0 p.1 ps rest rise after)

come_after : (row : ℕ) (marks : List Mark) → RowsNamesRise marks → ComeAfter row (values_from row marks)
come_after row [] rise last below = tt
come_after row (m ∷ marks) rise last below = row_first row m.values (values_from (row + 1) marks) rise.0 (come_after (row + 1) marks rise.1) last below

pub values_fit : (n : ℕ) (marks : List Mark) → length (values_of marks) < 2 ^ 64 → AllByRecursion (ValueFits n) (values_of marks) → RowsNamesRise marks → ValuesFit n (values_of marks)
values_fit n marks short each rise = record {
  count = short;
  rise = rises IsBefore ValueComes itself before_trans (λ a b h. h) None (values_of marks) (come_after 0 marks rise None tt);
  each = each;
}
