-- Rows and terms that each come after the one before them rise, and those that rise come so.
use Rattle.std.proofs.Common.{◌≡◌, ℕ, ◌+◌, ◌<◌, ◌≤◌, true, false, not, ◌||◌, List, Option, Some, refl, sym, ap, ◌∙◌, arith}
use Rattle.std.specs.Cmp.Lexicographic.{slice_cmp}
use Rattle.std.specs.List.{AllPairs, AllByRecursion}
use Rattle.std.specs.Ordering.{nat_cmp, ordering_then, ordering_reverse, is_lt}
use Rattle.std.specs.declared.cmp.Ordering.{Ordering}
use Rattle.std.specs.declared.cmp.Ordering.TheVariants.{Less, Equal, Greater}
use Rattle.std.proofs.lemmas.Cmp.{nat_list_cmp_total}
use Rattle.ix_base.specs.Inversion.{term_cmp}
use Rattle.ix_base.proofs.ItemLaws.{AllGood}
use Rattle.ix_base.specs.declared.document.Term.{Term}
use Rattle.ix_base.specs.declared.postings.Posting.{Posting}
use Rattle.segment_files.specs.Reading.{field_comes, term_comes}
use Rattle.segment_files.proofs.Rising.{rises, chain}

-- ---- rows

abbrev pub AllRowsBelow : ℕ → List Posting → Type 0
AllRowsBelow n rows = AllByRecursion (λ (p : Posting). p.row < n) rows

abbrev pub RowFrom : ℕ → Posting → Type 0
RowFrom low p = low ≤ p.row

abbrev pub after_row : Posting → ℕ
after_row p = p.row + 1

abbrev pub RowsRise : List Posting → Type 0
RowsRise rows = AllPairs (λ a b. a.row < b.row) rows

pub rows_rise : (low : ℕ) (rows : List Posting) → AllGood RowFrom after_row low rows → RowsRise rows
rows_rise low rows all = rises (λ (a : Posting) (b : Posting). a.row < b.row) RowFrom after_row (λ a b c p q. omega arith) (λ a b le. omega arith) low rows all

pub rows_chain : (rows : List Posting) → RowsRise rows → AllGood RowFrom after_row 0 rows
rows_chain rows rise = chain (λ (a : Posting) (b : Posting). a.row < b.row) RowFrom after_row (λ a b lt. omega arith) 0 rows (λ p. omega arith) rise

-- ---- terms

-- the term may come after the last one
pub record Comes (last : Option Term) (term : Term) : Type 0 where
  pub field : field_comes last term.field ≡ true
  pub bytes : term_comes last term.field term.bytes ≡ true

less : (by_field by_field_back by_bytes : Ordering) → by_field_back ≡ ordering_reverse by_field → not (is_lt by_field_back) ≡ true → (is_lt by_field || is_lt by_bytes) ≡ true → ordering_then by_field by_bytes ≡ Less
less Less back bytes turned comes later = refl
less Equal back Less turned comes later = refl
less Equal back Equal turned comes later = absurd cc
less Equal back Greater turned comes later = absurd cc
less Greater back bytes turned comes later = absurd (let e : false ≡ true = sym (ap (λ (o : Ordering). not (is_lt o)) turned) ∙ comes in cc)

not_before : (by_field by_field_back by_bytes : Ordering) → by_field_back ≡ ordering_reverse by_field → ordering_then by_field by_bytes ≡ Less → not (is_lt by_field_back) ≡ true
not_before Less back bytes turned h = ap (λ (o : Ordering). not (is_lt o)) turned
not_before Equal back bytes turned h = ap (λ (o : Ordering). not (is_lt o)) turned
not_before Greater back bytes turned h = absurd cc

later : (by_field by_bytes : Ordering) → ordering_then by_field by_bytes ≡ Less → (is_lt by_field || is_lt by_bytes) ≡ true
later Less bytes h = refl
later Equal Less h = refl
later Equal Equal h = absurd cc
later Equal Greater h = absurd cc
later Greater bytes h = absurd cc

turned : (xs ys : List ℕ) → slice_cmp nat_cmp ys xs ≡ ordering_reverse (slice_cmp nat_cmp xs ys)
turned xs ys = nat_list_cmp_total.antisymm ys xs

pub less_of_comes : (a b : Term) → Comes (Some a) b → term_cmp a b ≡ Less
less_of_comes a b h = less (slice_cmp nat_cmp a.field b.field) (slice_cmp nat_cmp b.field a.field) (slice_cmp nat_cmp a.bytes b.bytes) (turned a.field b.field) h.field h.bytes

pub comes_of_less : (a b : Term) → term_cmp a b ≡ Less → Comes (Some a) b
comes_of_less a b h = record {
  field = not_before (slice_cmp nat_cmp a.field b.field) (slice_cmp nat_cmp b.field a.field) (slice_cmp nat_cmp a.bytes b.bytes) (turned a.field b.field) h;
  bytes = later (slice_cmp nat_cmp a.field b.field) (slice_cmp nat_cmp a.bytes b.bytes) h;
}
