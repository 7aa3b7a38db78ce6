-- A file of postings that is read is the one that was written, and what was written is read again.
use Rattle.std.proofs.Common.{◌≡◌, ℕ, ◌+◌, ◌^◌, ◌<◌, ◌≤◌, Bool, ◌&&◌, cond, eqb, leb, ltb, List, [], ◌++◌, length, Option, Some, None, Result, Ok, Err, refl, sym, ap, subst, ◌∙◌, append_assoc, arith}
use Rattle.std.specs.Prelude.{IfOk}
use Rattle.std.specs.Cmp.Derive.{both_true}
use Rattle.std.specs.Int.{w32, w64}
use Rattle.std.specs.List.{flat_map, AllByRecursion, AllPairs}
use Rattle.std.proofs.lemmas.Bool.{and_parts, eqb-true, eq-eqb, leb-true, le-leb, ltb-true, lt-ltb}
use Rattle.std.proofs.lemmas.List.{append-nil}
use Rattle.std.proofs.lemmas.List.Elements.{All-from_recursion, recursion_from_All}
use Rattle.std.specs.declared.cmp.Ordering.TheVariants.{Less}
use Rattle.ix_base.proofs.TermOrder.{term_total}
use Rattle.ix_base.specs.declared.document.Term.{Term}
use Rattle.ix_base.specs.declared.file_name.FileName.{FileName}
use Rattle.ix_base.specs.declared.damaged.FileFault.{FileFault}
use Rattle.ix_base.specs.declared.postings.Posting.{Posting}
use Rattle.ix_base.specs.declared.postings.TermPostings.{TermPostings}
use Rattle.ix_base.specs.declared.postings.Postings.{Postings}
use Rattle.ix_base.specs.Codec.{◌>>=◌, number_at, text_at, items_at}
use Rattle.ix_base.proofs.CodecLaws.{bind_ok, ok_is, passes, Takes, Takes-then, u64_takes, u64_again, text_takes, text_again}
use Rattle.ix_base.specs.FileReading.{number_where, name_where, mark_at, ended, placed, GivesFile}
use Rattle.ix_base.proofs.FileLaws.{u32_where_takes, u32_where_again, u64_where_takes, u64_where_again, name_where_takes, name_where_again, mark_takes, mark_again, ended_ok, placed_ok}
use Rattle.ix_base.specs.Inversion.{term_cmp, IsPosting, IsTermPostings}
use Rattle.ix_base.proofs.ItemLaws.{AllGood, TakesItem, GivesItem, items_take, items_again, good_each, good_onto, good_both, all_both}
use Rattle.ix_base.specs.Spelling.{be32, be64, text_bytes, AreBytes, IsText, IsName}
use Rattle.segment_files.specs.Spelling.{posts_mark, posting, term_postings, posts_file}
use Rattle.segment_files.specs.Fits.{PostingFits, TermFits, PostingsFit}
use Rattle.segment_files.specs.Reading.{position_at, posting_at, field_comes, term_comes, term_name_at, term_at, posts_in}
use Rattle.segment_files.proofs.Rising.{rises, chain}
use Rattle.segment_files.proofs.Chains.{AllRowsBelow, RowFrom, RowsRise, after_row, rows_rise, rows_chain, Comes, less_of_comes, comes_of_less}

-- ---- positions

record PositionGood (low x : ℕ) : Type 0 where
  low_is : low ≤ x
  short : x < 2 ^ 32

abbrev next : ℕ → ℕ
next x = x + 1

position_takes : TakesItem position_at be32 PositionGood
position_takes low bytes x fits e = let t = u32_where_takes (λ y. leb low y) bytes x fits e in (t.0, record { low_is = leb-true low x.0 t.2; short = t.1 })

position_again : GivesItem position_at be32 PositionGood
position_again low x rest good = u32_where_again (λ y. leb low y) x rest good.short (le-leb low x good.low_is)

abbrev From : ℕ → ℕ → Type 0
From low x = low ≤ x

positions_rise : (xs : List ℕ) → AllGood PositionGood next 0 xs → AllPairs (λ a b. a < b) xs
positions_rise xs all = rises (λ a b. a < b) From next (λ a b c p q. omega arith) (λ a b le. omega arith) 0 xs (good_onto PositionGood From next (λ s x g. g.low_is) 0 xs all)

positions_good : (xs : List ℕ) → AllPairs (λ a b. a < b) xs → AllByRecursion (λ x. x < 2 ^ 32) xs → AllGood PositionGood next 0 xs
positions_good xs rise short =
    good_both PositionGood From (λ x. x < 2 ^ 32) next (λ s x small le. record { low_is = le; short = small }) 0 xs short
    (chain (λ a b. a < b) From next (λ a b lt. omega arith) 0 xs (λ x. omega arith) rise)

-- ---- rows

record PostingGood (n low : ℕ) (p : Posting) : Type 0 where
  low_is : low ≤ p.row
  below : p.row < n
  is : IsPosting p
  fits : PostingFits p

abbrev row_test : ℕ → ℕ → ℕ → Bool
row_test n low x = leb low x && ltb x n

posting_takes : (n : ℕ) → TakesItem (posting_at n) posting (PostingGood n)
unfolding posting_at
posting_takes n low bytes x fits e =
    let a = bind_ok (number_where w32 (row_test n low) bytes) (λ row. number_where w32 (λ k. leb 1 k) row.1 >>= λ count. items_at position_at next 0 count.0 count.1 >>= λ positions. Ok (record { row = row.0; positions = positions.0 }, positions.1)) x e in
    let b = bind_ok (number_where w32 (λ k. leb 1 k) a.0.1) (λ count. items_at position_at next 0 count.0 count.1 >>= λ positions. Ok (record { row = a.0.0; positions = positions.0 }, positions.1)) x a.2 in
    let d = bind_ok (items_at position_at next 0 b.0.0 b.0.1) (λ positions. Ok (record { row = a.0.0; positions = positions.0 }, positions.1)) x b.2 in
    let t0 = u32_where_takes (row_test n low) bytes a.0 fits a.1 in
    let t1 = u32_where_takes (λ k. leb 1 k) a.0.1 b.0 t0.0.rest_fits b.1 in
    let t2 = items_take position_at next be32 PositionGood position_takes 0 b.0.0 b.0.1 d.0 t1.0.rest_fits d.1 in
    let e12 = Takes-then a.0.1 (be32 b.0.0) b.0.1 (flat_map be32 d.0.0) d.0.1 t1.0 t2.0 in
    let e02 = Takes-then bytes (be32 a.0.0) a.0.1 (be32 b.0.0 ++ flat_map be32 d.0.0) d.0.1 t0.0 e12 in
    let h = and_parts (leb low a.0.0) (ltb a.0.0 n) t0.2 in
    let some : 1 ≤ b.0.0 = leb-true 1 b.0.0 t1.2 in
    let p : Posting = record { row = a.0.0; positions = d.0.0 } in
    let made : Posting × List ℕ = (p, d.0.1) in
    let spelled : Takes bytes (posting p) d.0.1 = subst (λ (k : ℕ). Takes bytes (be32 a.0.0 ++ (be32 k ++ flat_map be32 d.0.0)) d.0.1) (sym t2.1) e02 in
    let good : PostingGood n low p = record {
      low_is = leb-true low a.0.0 h.0;
      below = ltb-true a.0.0 n h.1;
      is = record { some = omega (arith, t2.1, some); rise = positions_rise d.0.0 t2.2 };
      fits = record { count = omega (arith, t2.1, t1.1); positions = good_each PositionGood (λ y. y < 2 ^ 32) next (λ s y g. g.short) 0 d.0.0 t2.2 };
    } in
    subst (λ (y : Posting × List ℕ). Takes bytes (posting y.0) y.1 × PostingGood n low y.0) (ok_is made x d.2) (spelled, good)

posting_again : (n : ℕ) → n < 2 ^ 32 → GivesItem (posting_at n) posting (PostingGood n)
unfolding posting_at
posting_again n lt low p rest good =
    let positions = flat_map be32 p.positions ++ rest in
    let regrouped : posting p ++ rest ≡ be32 p.row ++ (be32 (length p.positions) ++ positions) =
    append_assoc (be32 p.row) (be32 (length p.positions) ++ flat_map be32 p.positions) rest ∙ ap (λ (t : List ℕ). be32 p.row ++ t) (append_assoc (be32 (length p.positions)) (flat_map be32 p.positions) rest) in
    let short : p.row < 2 ^ 32 = omega (arith, good.below) in
    let some : 1 ≤ length p.positions = omega (arith, good.is.some) in
    ap (posting_at n low) regrouped ∙ rw (
      u32_where_again (row_test n low) p.row (be32 (length p.positions) ++ positions) short (both_true (le-leb low p.row good.low_is) (lt-ltb p.row n good.below)),
      u32_where_again (λ k. leb 1 k) (length p.positions) positions good.fits.count (le-leb 1 (length p.positions) some),
      items_again position_at next be32 PositionGood position_again 0 p.positions rest (positions_good p.positions good.is.rise good.fits.positions),
    ) refl

record RowFits (n : ℕ) (p : Posting) : Type 0 where
  below : p.row < n
  is : IsPosting p
  fits : PostingFits p

rows_good : (n : ℕ) (rows : List Posting) → RowsRise rows → AllByRecursion (RowFits n) rows → AllGood (PostingGood n) after_row 0 rows
rows_good n rows rise fit = good_both (PostingGood n) RowFrom (RowFits n) after_row (λ s p f le. record { low_is = le; below = f.below; is = f.is; fits = f.fits }) 0 rows fit (rows_chain rows rise)

-- ---- names of terms

abbrev term_bytes : Term → List ℕ
term_bytes term = text_bytes term.field ++ text_bytes term.bytes

record NameGood (last : Option Term) (term : Term) : Type 0 where
  field : IsName term.field
  bytes : IsText term.bytes
  comes : Comes last term

name_takes : TakesItem term_name_at term_bytes NameGood
unfolding term_name_at
name_takes last bytes x fits e =
    let a = bind_ok (name_where (field_comes last) bytes) (λ field. text_at field.1 >>= λ text. cond (term_comes last field.0 text.0) (Ok (record { field = field.0; bytes = text.0 }, text.1)) (Err (length bytes))) x e in
    let b = bind_ok (text_at a.0.1) (λ text. cond (term_comes last a.0.0 text.0) (Ok (record { field = a.0.0; bytes = text.0 }, text.1)) (Err (length bytes))) x a.2 in
    let made : Term × List ℕ = (record { field = a.0.0; bytes = b.0.0 }, b.0.1) in
    let g = passes (term_comes last a.0.0 b.0.0) (length bytes) made x b.2 in
    let t0 = name_where_takes (field_comes last) bytes a.0 fits a.1 in
    let t1 = text_takes a.0.1 b.0 t0.0.rest_fits b.1 in
    let both = Takes-then bytes (text_bytes a.0.0) a.0.1 (text_bytes b.0.0) b.0.1 t0.0 t1.0 in
    subst (λ (y : Term × List ℕ). Takes bytes (term_bytes y.0) y.1 × NameGood last y.0) g.1
    (both, record { field = t0.1; bytes = t1.1; comes = record { field = t0.2; bytes = g.0 } })

name_again : GivesItem term_name_at term_bytes NameGood
unfolding term_name_at
name_again last term rest good =
    let regrouped : term_bytes term ++ rest ≡ text_bytes term.field ++ (text_bytes term.bytes ++ rest) = append_assoc (text_bytes term.field) (text_bytes term.bytes) rest in
    ap (term_name_at last) regrouped ∙ rw (name_where_again (field_comes last) term.field (text_bytes term.bytes ++ rest) good.field good.comes.field, text_again term.bytes rest good.bytes, good.comes.bytes) refl

-- ---- terms with their rows

record TermGood (n : ℕ) (last : Option Term) (entry : TermPostings) : Type 0 where
  comes : Comes last entry.term
  is : IsTermPostings entry
  below : AllRowsBelow n entry.rows
  fits : TermFits entry

term_takes : (n : ℕ) → TakesItem (term_at n) term_postings (TermGood n)
unfolding term_at
term_takes n last bytes x fits e =
    let a = bind_ok (term_name_at last bytes) (λ term. number_where w32 (λ k. leb 1 k) term.1 >>= λ count. items_at (posting_at n) after_row 0 count.0 count.1 >>= λ rows. Ok (record { term = term.0; rows = rows.0 }, rows.1)) x e in
    let b = bind_ok (number_where w32 (λ k. leb 1 k) a.0.1) (λ count. items_at (posting_at n) after_row 0 count.0 count.1 >>= λ rows. Ok (record { term = a.0.0; rows = rows.0 }, rows.1)) x a.2 in
    let d = bind_ok (items_at (posting_at n) after_row 0 b.0.0 b.0.1) (λ rows. Ok (record { term = a.0.0; rows = rows.0 }, rows.1)) x b.2 in
    let t0 = name_takes last bytes a.0 fits a.1 in
    let t1 = u32_where_takes (λ k. leb 1 k) a.0.1 b.0 t0.0.rest_fits b.1 in
    let t2 = items_take (posting_at n) after_row posting (PostingGood n) (posting_takes n) 0 b.0.0 b.0.1 d.0 t1.0.rest_fits d.1 in
    let some : 1 ≤ b.0.0 = leb-true 1 b.0.0 t1.2 in
    let e12 = Takes-then a.0.1 (be32 b.0.0) b.0.1 (flat_map posting d.0.0) d.0.1 t1.0 t2.0 in
    let e02 = Takes-then bytes (term_bytes a.0.0) a.0.1 (be32 b.0.0 ++ flat_map posting d.0.0) d.0.1 t0.0 e12 in
    let entry : TermPostings = record { term = a.0.0; rows = d.0.0 } in
    let made : TermPostings × List ℕ = (entry, d.0.1) in
    let counted : Takes bytes (term_bytes a.0.0 ++ (be32 (length d.0.0) ++ flat_map posting d.0.0)) d.0.1 = subst (λ (k : ℕ). Takes bytes (term_bytes a.0.0 ++ (be32 k ++ flat_map posting d.0.0)) d.0.1) (sym t2.1) e02 in
    let spelled : Takes bytes (term_postings entry) d.0.1 = subst (λ (l : List ℕ). Takes bytes l d.0.1) (append_assoc (text_bytes a.0.0.field) (text_bytes a.0.0.bytes) (be32 (length d.0.0) ++ flat_map posting d.0.0)) counted in
    let good : TermGood n last entry = record {
      comes = t0.1.comes;
      is = record {
        some = omega (arith, t2.1, some);
        rise = rows_rise 0 d.0.0 (good_onto (PostingGood n) RowFrom after_row (λ s p g. g.low_is) 0 d.0.0 t2.2);
        each = All-from_recursion IsPosting d.0.0 (good_each (PostingGood n) IsPosting after_row (λ s p g. g.is) 0 d.0.0 t2.2);
      };
      below = good_each (PostingGood n) (λ (p : Posting). p.row < n) after_row (λ s p g. g.below) 0 d.0.0 t2.2;
      fits = record { field = t0.1.field; bytes = t0.1.bytes; count = omega (arith, t2.1, t1.1); rows = good_each (PostingGood n) PostingFits after_row (λ s p g. g.fits) 0 d.0.0 t2.2 };
    } in
    subst (λ (y : TermPostings × List ℕ). Takes bytes (term_postings y.0) y.1 × TermGood n last y.0) (ok_is made x d.2) (spelled, good)

term_again : (n : ℕ) → n < 2 ^ 32 → GivesItem (term_at n) term_postings (TermGood n)
unfolding term_at
term_again n lt last entry rest good =
    let rows = flat_map posting entry.rows ++ rest in
    let counted = be32 (length entry.rows) ++ rows in
    let regrouped : term_postings entry ++ rest ≡ term_bytes entry.term ++ counted =
    append_assoc (text_bytes entry.term.field) (text_bytes entry.term.bytes ++ (be32 (length entry.rows) ++ flat_map posting entry.rows)) rest
    ∙ ap (λ (t : List ℕ). text_bytes entry.term.field ++ t) (append_assoc (text_bytes entry.term.bytes) (be32 (length entry.rows) ++ flat_map posting entry.rows) rest)
    ∙ ap (λ (t : List ℕ). text_bytes entry.term.field ++ (text_bytes entry.term.bytes ++ t)) (append_assoc (be32 (length entry.rows)) (flat_map posting entry.rows) rest)
    ∙ sym (append_assoc (text_bytes entry.term.field) (text_bytes entry.term.bytes) counted) in
    let some : 1 ≤ length entry.rows = omega (arith, good.is.some) in
    let each : AllByRecursion (RowFits n) entry.rows =
    all_both (λ (p : Posting). p.row < n) (λ (p : Posting). IsPosting p × PostingFits p) (RowFits n) (λ p b q. record { below = b; is = q.0; fits = q.1 }) entry.rows good.below
    (all_both IsPosting PostingFits (λ (p : Posting). IsPosting p × PostingFits p) (λ p i f. (i, f)) entry.rows (recursion_from_All IsPosting entry.rows good.is.each) good.fits.rows) in
    ap (term_at n last) regrouped ∙ rw (
      name_again last entry.term counted (record { field = good.fits.field; bytes = good.fits.bytes; comes = good.comes }),
      u32_where_again (λ k. leb 1 k) (length entry.rows) rows good.fits.count (le-leb 1 (length entry.rows) some),
      items_again (posting_at n) after_row posting (PostingGood n) (posting_again n lt) 0 entry.rows rest (rows_good n entry.rows good.is.rise each),
    ) refl

-- ---- whole files

abbrev its_term : TermPostings → Option Term
its_term entry = Some entry.term

abbrev EntryComes : Option Term → TermPostings → Type 0
EntryComes last entry = Comes last entry.term

abbrev IsLess : TermPostings → TermPostings → Type 0
IsLess a b = term_cmp a.term b.term ≡ Less

terms_rise : (n : ℕ) (entries : List TermPostings) → AllGood (TermGood n) its_term None entries → AllPairs IsLess entries
terms_rise n entries all =
    rises IsLess EntryComes its_term (λ a b c p q. term_total.trans a.term b.term c.term p q) (λ a b h. less_of_comes a.term b.term h) None entries
    (good_onto (TermGood n) EntryComes its_term (λ s e g. g.comes) None entries all)

record EntryFits (n : ℕ) (entry : TermPostings) : Type 0 where
  is : IsTermPostings entry
  below : AllRowsBelow n entry.rows
  fits : TermFits entry

terms_good : (n : ℕ) (postings : Postings) → PostingsFit n postings → AllGood (TermGood n) its_term None postings.terms
terms_good n postings fit =
    let first : AllByRecursion (λ (e : TermPostings). IsTermPostings e × TermFits e) postings.terms =
    all_both IsTermPostings TermFits (λ (e : TermPostings). IsTermPostings e × TermFits e) (λ e i f. (i, f)) postings.terms (recursion_from_All IsTermPostings postings.terms fit.ordered.each) fit.terms in
    let each : AllByRecursion (EntryFits n) postings.terms =
    all_both (λ (e : TermPostings). AllRowsBelow n e.rows) (λ (e : TermPostings). IsTermPostings e × TermFits e) (EntryFits n) (λ e b q. record { is = q.0; below = b; fits = q.1 }) postings.terms fit.below first in
    good_both (TermGood n) EntryComes (EntryFits n) its_term (λ s e f c. record { comes = c; is = f.is; below = f.below; fits = f.fits }) None postings.terms each
    (chain IsLess EntryComes its_term (λ a b h. comes_of_less a.term b.term h) None postings.terms (λ e. record { field = refl; bytes = refl }) fit.ordered.rise)

pub posts_take : (id n : ℕ) (bytes : List ℕ) (postings : Postings) → AreBytes bytes → posts_in id n bytes ≡ Ok postings → PostingsFit n postings × (bytes ≡ posts_file id n postings)
unfolding posts_in posts_mark
posts_take id n bytes postings fits e =
    let a = bind_ok (mark_at posts_mark bytes) (λ rest. number_where w64 (λ x. eqb x id) rest >>= λ own. number_where w32 (λ x. eqb x n) own.1 >>= λ rows. number_at w64 rows.1 >>= λ count. items_at (term_at n) its_term None count.0 count.1 >>= λ found. ended (record { terms = found.0 }) found.1) postings e in
    let b = bind_ok (number_where w64 (λ x. eqb x id) a.0) (λ own. number_where w32 (λ x. eqb x n) own.1 >>= λ rows. number_at w64 rows.1 >>= λ count. items_at (term_at n) its_term None count.0 count.1 >>= λ found. ended (record { terms = found.0 }) found.1) postings a.2 in
    let c = bind_ok (number_where w32 (λ x. eqb x n) b.0.1) (λ rows. number_at w64 rows.1 >>= λ count. items_at (term_at n) its_term None count.0 count.1 >>= λ found. ended (record { terms = found.0 }) found.1) postings b.2 in
    let d = bind_ok (number_at w64 c.0.1) (λ count. items_at (term_at n) its_term None count.0 count.1 >>= λ found. ended (record { terms = found.0 }) found.1) postings c.2 in
    let f = bind_ok (items_at (term_at n) its_term None d.0.0 d.0.1) (λ found. ended (record { terms = found.0 }) found.1) postings d.2 in
    let read : Postings = record { terms = f.0.0 } in
    let z = ended_ok read f.0.1 postings f.2 in
    let t0 = mark_takes posts_mark bytes a.0 refl fits a.1 in
    let t1 = u64_where_takes (λ x. eqb x id) a.0 b.0 t0.rest_fits b.1 in
    let t2 = u32_where_takes (λ x. eqb x n) b.0.1 c.0 t1.0.rest_fits c.1 in
    let t3 = u64_takes c.0.1 d.0 t2.0.rest_fits d.1 in
    let t4 = items_take (term_at n) its_term term_postings (TermGood n) (term_takes n) None d.0.0 d.0.1 f.0 t3.0.rest_fits f.1 in
    let id-is : b.0.0 ≡ id = eqb-true _ _ t1.2 in
    let n-is : c.0.0 ≡ n = eqb-true _ _ t2.2 in
    let e34 = Takes-then c.0.1 (be64 d.0.0) d.0.1 (flat_map term_postings f.0.0) f.0.1 t3.0 t4.0 in
    let e24 = Takes-then b.0.1 (be32 c.0.0) c.0.1 (be64 d.0.0 ++ flat_map term_postings f.0.0) f.0.1 t2.0 e34 in
    let e14 = Takes-then a.0 (be64 b.0.0) b.0.1 (be32 c.0.0 ++ (be64 d.0.0 ++ flat_map term_postings f.0.0)) f.0.1 t1.0 e24 in
    let e04 = Takes-then bytes posts_mark a.0 (be64 b.0.0 ++ (be32 c.0.0 ++ (be64 d.0.0 ++ flat_map term_postings f.0.0))) f.0.1 t0 e14 in
    let spelled : List ℕ = posts_mark ++ (be64 b.0.0 ++ (be32 c.0.0 ++ (be64 d.0.0 ++ flat_map term_postings f.0.0))) in
    let whole : bytes ≡ spelled = e04.parts ∙ ap (λ (r : List ℕ). spelled ++ r) z.0 ∙ append-nil spelled in
    let named : bytes ≡ posts_mark ++ (be64 id ++ (be32 c.0.0 ++ (be64 d.0.0 ++ flat_map term_postings f.0.0))) = whole ∙ ap (λ (i : ℕ). posts_mark ++ (be64 i ++ (be32 c.0.0 ++ (be64 d.0.0 ++ flat_map term_postings f.0.0)))) id-is in
    let counted : bytes ≡ posts_mark ++ (be64 id ++ (be32 n ++ (be64 d.0.0 ++ flat_map term_postings f.0.0))) = named ∙ ap (λ (i : ℕ). posts_mark ++ (be64 id ++ (be32 i ++ (be64 d.0.0 ++ flat_map term_postings f.0.0)))) n-is in
    let all : bytes ≡ posts_file id n read = counted ∙ ap (λ (i : ℕ). posts_mark ++ (be64 id ++ (be32 n ++ (be64 i ++ flat_map term_postings f.0.0)))) (sym t4.1) in
    let fit : PostingsFit n read = record {
      ordered = record { rise = terms_rise n f.0.0 t4.2; each = All-from_recursion IsTermPostings f.0.0 (good_each (TermGood n) IsTermPostings its_term (λ s t g. g.is) None f.0.0 t4.2) };
      below = good_each (TermGood n) (λ (t : TermPostings). AllRowsBelow n t.rows) its_term (λ s t g. g.below) None f.0.0 t4.2;
      count = omega (arith, t4.1, t3.1);
      terms = good_each (TermGood n) TermFits its_term (λ s t g. g.fits) None f.0.0 t4.2;
    } in
    subst (λ (ps : Postings). PostingsFit n ps × (bytes ≡ posts_file id n ps)) z.1 (fit, all)

pub posts_again : (id n : ℕ) (postings : Postings) → id < 2 ^ 64 → n < 2 ^ 32 → PostingsFit n postings → posts_in id n (posts_file id n postings) ≡ Ok postings
unfolding posts_in posts_mark
posts_again id n postings id_fits n_fits fit =
    let entries = flat_map term_postings postings.terms in
    let counted = be64 (length postings.terms) ++ entries in
    let items : items_at (term_at n) its_term None (length postings.terms) entries ≡ Ok (postings.terms, []) =
    ap (items_at (term_at n) its_term None (length postings.terms)) (sym (append-nil entries))
    ∙ items_again (term_at n) its_term term_postings (TermGood n) (term_again n n_fits) None postings.terms [] (terms_good n postings fit) in
    rw (
      mark_again posts_mark (be64 id ++ (be32 n ++ counted)) refl,
      u64_where_again (λ x. eqb x id) id (be32 n ++ counted) id_fits (eq-eqb id id refl),
      u32_where_again (λ x. eqb x n) n counted n_fits (eq-eqb n n refl),
      u64_again (length postings.terms) entries fit.count,
      items,
    ) refl

pub posts_found : (id n : ℕ) (bytes : List ℕ) (name : FileName) (r : Result Postings FileFault) → AreBytes bytes
    → GivesFile (λ x. x) r (placed name bytes (posts_in id n bytes)) → IfOk r (λ postings. PostingsFit n postings × (bytes ≡ posts_file id n postings))
posts_found id n bytes name (Ok postings) fits given = posts_take id n bytes postings fits (placed_ok name bytes (posts_in id n bytes) postings given)
posts_found id n bytes name (Err f) fits given = tt

pub posts_only : (id n : ℕ) (bytes : List ℕ) (name : FileName) (r : Result Postings FileFault) → id < 2 ^ 64 → n < 2 ^ 32
    → GivesFile (λ x. x) r (placed name bytes (posts_in id n bytes)) → (postings : Postings) → PostingsFit n postings → bytes ≡ posts_file id n postings → GivesFile (λ x. x) r (Ok postings)
posts_only id n bytes name r id_fits n_fits given postings fit is =
    let read : posts_in id n bytes ≡ Ok postings = ap (posts_in id n) is ∙ posts_again id n postings id_fits n_fits fit in
    subst (λ (x : Result Postings ℕ). GivesFile (λ y. y) r (placed name bytes x)) read given
