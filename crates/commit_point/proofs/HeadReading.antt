-- A commit file that is read is the one that was written, and what was written is read again.
use Rattle.std.proofs.Common.{◌≡◌, ℕ, ◌+◌, ◌^◌, ◌<◌, ◌≤◌, Bool, false, true, eqb, leb, ltb, List, [], ◌∷◌, ◌++◌, length, Result, Ok, Err, refl, sym, ap, subst, ◌∙◌, append_assoc, arith}
use Rattle.std.specs.Prelude.{◌&&◌, IfOk}
use Rattle.std.specs.Cmp.Derive.{both_true}
use Rattle.std.specs.Int.{w32, w64}
use Rattle.std.specs.List.{flat_map, AllByRecursion}
use Rattle.std.specs.Str.{bytes_eq}
use Rattle.std.proofs.lemmas.Bool.{and_parts, eqb-true, eq-eqb, leb-true, le-leb, ltb-true, lt-ltb}
use Rattle.std.proofs.lemmas.List.{append-nil, take_at}
use Rattle.ix_base.specs.declared.file_name.FileName.{FileName}
use Rattle.commit_point.specs.declared.heads.HeadSegment.{HeadSegment}
use Rattle.commit_point.specs.declared.heads.Head.{Head}
use Rattle.ix_base.specs.declared.damaged.FileFault.{FileFault}
use Rattle.commit_point.specs.declared.heads.CommitFormat.{CommitFormat}
use Rattle.commit_point.specs.declared.heads.CommitFormat.TheVariants.{First, Second}
use Rattle.segment_files.specs.Fits.{PairsFit}
use Rattle.segment_files.specs.Pairs.{pairs_at}
use Rattle.segment_files.specs.Spelling.{fields}
use Rattle.segment_files.proofs.PairLaws.{pairs_again, pairs_take}
use Rattle.commit_point.specs.Spelling.{entry, commit_file, first_mark, mark_of, second_mark, tail_of}
use Rattle.commit_point.specs.Fits.{IdsRise, EntryFits, HeadFits}
use Rattle.ix_base.specs.Codec.{◌>>=◌, number_at, items_at}
use Rattle.ix_base.proofs.CodecLaws.{bind_ok, ok_is, Takes, Takes-then, u64_takes, u64_again}
use Rattle.ix_base.specs.Spelling.{be32, be64, AreBytes}
use Rattle.ix_base.specs.FileReading.{number_where, mark_at, ended, placed, GivesFile}
use Rattle.ix_base.proofs.FileLaws.{u32_where_takes, u32_where_again, u64_where_takes, u64_where_again, mark_takes, mark_again, ended_ok, placed_ok}
use Rattle.commit_point.specs.Reading.{entry_at, format_at, head_in, marked_or, tail_at}
use Rattle.ix_base.proofs.ItemLaws.{AllGood, TakesItem, GivesItem, items_take, items_again, good_each}

record EntryGood (s next low : ℕ) (e : HeadSegment) : Type 0 where
  low_is : low ≤ e.id
  below : e.id < next
  short : e.id < 2 ^ 64
  fits : EntryFits s e

abbrev id_test : ℕ → ℕ → ℕ → Bool
id_test next low x = leb low x && ltb x next

abbrev written_test : ℕ → ℕ → Bool
written_test s x = leb 1 x && leb x s

entry_takes : (s next : ℕ) → TakesItem (entry_at s next) entry (EntryGood s next)
unfolding entry_at
entry_takes s next low bytes x fits e =
    let a = bind_ok (number_where w64 (id_test next low) bytes) (λ id. number_where w32 (λ x. leb 1 x) id.1 >>= λ rows. number_where w64 (written_test s) rows.1 >>= λ written. Ok (record { id = id.0; rows = rows.0; written = written.0 }, written.1)) x e in
    let b = bind_ok (number_where w32 (λ x. leb 1 x) a.0.1) (λ rows. number_where w64 (written_test s) rows.1 >>= λ written. Ok (record { id = a.0.0; rows = rows.0; written = written.0 }, written.1)) x a.2 in
    let c = bind_ok (number_where w64 (written_test s) b.0.1) (λ written. Ok (record { id = a.0.0; rows = b.0.0; written = written.0 }, written.1)) x b.2 in
    let t0 = u64_where_takes (id_test next low) bytes a.0 fits a.1 in
    let t1 = u32_where_takes (λ x. leb 1 x) a.0.1 b.0 t0.0.rest_fits b.1 in
    let t2 = u64_where_takes (written_test s) b.0.1 c.0 t1.0.rest_fits c.1 in
    let e12 = Takes-then a.0.1 (be32 b.0.0) b.0.1 (be64 c.0.0) c.0.1 t1.0 t2.0 in
    let e02 = Takes-then bytes (be64 a.0.0) a.0.1 (be32 b.0.0 ++ be64 c.0.0) c.0.1 t0.0 e12 in
    let h = and_parts (leb low a.0.0) (ltb a.0.0 next) t0.2 in
    let k = and_parts (leb 1 c.0.0) (leb c.0.0 s) t2.2 in
    let made : HeadSegment × List ℕ = (record { id = a.0.0; rows = b.0.0; written = c.0.0 }, c.0.1) in
    subst (λ (y : HeadSegment × List ℕ). Takes bytes (entry y.0) y.1 × EntryGood s next low y.0) (ok_is made x c.2)
    (e02, record { low_is = leb-true _ _ h.0; below = ltb-true _ _ h.1; short = t0.1; fits = record { rows = leb-true _ _ t1.2; count = t1.1; some = leb-true _ _ k.0; not_later = leb-true _ _ k.1 } })

entry_again : (s next : ℕ) → s < 2 ^ 64 → GivesItem (entry_at s next) entry (EntryGood s next)
unfolding entry_at
entry_again s next lt low e rest good =
    let regrouped : entry e ++ rest ≡ be64 e.id ++ (be32 e.rows ++ (be64 e.written ++ rest)) = append_assoc (be64 e.id) (be32 e.rows ++ be64 e.written) rest ∙ ap (λ (x : List ℕ). be64 e.id ++ x) (append_assoc (be32 e.rows) (be64 e.written) rest) in
    let short : e.written < 2 ^ 64 = omega (arith, good.fits.not_later) in
    ap (entry_at s next low) regrouped ∙ rw (
      u64_where_again (id_test next low) e.id (be32 e.rows ++ (be64 e.written ++ rest)) good.short (both_true (le-leb _ _ good.low_is) (lt-ltb _ _ good.below)),
      u32_where_again (λ x. leb 1 x) e.rows (be64 e.written ++ rest) good.fits.count (le-leb _ _ good.fits.rows),
      u64_where_again (written_test s) e.written rest short (both_true (le-leb _ _ good.fits.some) (le-leb _ _ good.fits.not_later)),
    ) refl

abbrev after_id : HeadSegment → ℕ
after_id e = e.id + 1

ids_of : (s next low : ℕ) (es : List HeadSegment) → AllGood (EntryGood s next) after_id low es → IdsRise low next es
ids_of s next low [] good = tt
ids_of s next low (e ∷ es) good = (good.0.low_is, good.0.below, ids_of s next (e.id + 1) es good.1)

entries_good : (s next low : ℕ) (es : List HeadSegment) → next ≤ 2 ^ 62 → IdsRise low next es → AllByRecursion (EntryFits s) es → AllGood (EntryGood s next) after_id low es
entries_good s next low [] room ids fits = tt
entries_good s next low (e ∷ es) room ids fits =
    (record { low_is = ids.0; below = ids.1; short = omega (arith, ids.1); fits = fits.0 }, entries_good s next (e.id + 1) es room ids.2 fits.1)

abbrev number_test : ℕ → ℕ → Bool
number_test s x = eqb x s && leb 1 x

abbrev next_test : ℕ → Bool
next_test x = leb 1 x && leb x (2 ^ 62)

-- ---- the form

first_eight : length first_mark ≡ 8
unfolding first_mark
first_eight = refl

second_eight : length second_mark ≡ 8
unfolding second_mark
second_eight = refl

marks_differ : bytes_eq first_mark second_mark ≡ false
unfolding first_mark second_mark
marks_differ = refl

marked_takes : (bytes : List ℕ) (r : Result (List ℕ) ℕ) (x : CommitFormat × List ℕ) → AreBytes bytes → mark_at second_mark bytes ≡ r → marked_or r bytes ≡ Ok x → Takes bytes (mark_of x.0) x.1
marked_takes bytes (Ok rest) x fits marked is =
    subst (λ (y : CommitFormat × List ℕ). Takes bytes (mark_of y.0) y.1) (ok_is (Second, rest) x is) (mark_takes second_mark bytes rest second_eight fits marked)
marked_takes bytes (Err left) x fits marked is =
    let a = bind_ok (mark_at first_mark bytes) (λ rest. Ok (First, rest)) x is in
    subst (λ (y : CommitFormat × List ℕ). Takes bytes (mark_of y.0) y.1) (ok_is (First, a.0) x a.2) (mark_takes first_mark bytes a.0 first_eight fits a.1)

format_takes : (bytes : List ℕ) (x : CommitFormat × List ℕ) → AreBytes bytes → format_at bytes ≡ Ok x → Takes bytes (mark_of x.0) x.1
unfolding format_at
format_takes bytes x fits e = marked_takes bytes (mark_at second_mark bytes) x fits refl e

not_second : (rest : List ℕ) → mark_at second_mark (first_mark ++ rest) ≡ Err (length (first_mark ++ rest))
unfolding mark_at
not_second rest = rw (take_at first_mark rest 8 first_eight, marks_differ) refl

format_again : (format : CommitFormat) (rest : List ℕ) → format_at (mark_of format ++ rest) ≡ Ok (format, rest)
unfolding format_at
format_again First rest = rw (not_second rest, mark_again first_mark rest first_eight) refl
format_again Second rest = rw (mark_again second_mark rest second_eight) refl

-- ---- the pairs

none_fit : PairsFit []
none_fit = record { count = omega arith; each = tt; rise = refl }

-- what a form says of pairs that are read
record TailGood (format : CommitFormat) (pairs : List (List ℕ × List ℕ)) : Type 0 where
  fits : PairsFit pairs
  first : format ≡ First → pairs ≡ []

tail_takes : (format : CommitFormat) (bytes : List ℕ) (x : List (List ℕ × List ℕ) × List ℕ) → AreBytes bytes → tail_at format bytes ≡ Ok x → Takes bytes (tail_of format x.0) x.1 × TailGood format x.0
unfolding tail_at
tail_takes First bytes x fits e =
    subst (λ (y : List (List ℕ × List ℕ) × List ℕ). Takes bytes [] y.1 × TailGood First y.0) (ok_is ([], bytes) x e)
    (record { parts = refl; rest_fits = fits }, record { fits = none_fit; first = λ is. refl })
tail_takes Second bytes x fits e =
    let t = pairs_take bytes x fits e in
    (t.0, record { fits = t.1; first = λ is. absurd cc })

tail_again : (format : CommitFormat) (pairs : List (List ℕ × List ℕ)) → PairsFit pairs → (format ≡ First → pairs ≡ []) → tail_at format (tail_of format pairs) ≡ Ok (pairs, [])
unfolding tail_at
tail_again First pairs fits first = ap (λ (ps : List (List ℕ × List ℕ)). Ok (ps, [])) (sym (first refl))
tail_again Second pairs fits first = ap pairs_at (sym (append-nil (fields pairs))) ∙ pairs_again pairs [] fits

-- ---- the whole file

abbrev made : ℕ → ℕ → ℕ → List HeadSegment → CommitFormat → List (List ℕ × List ℕ) → Head
made number docs next segments format pairs =
    record { number = number; docs = docs; next_id = next; segments = segments; format = format; pairs = pairs }

-- What is read behind each field, up to the end of the file.
abbrev segments_end : ℕ → ℕ → ℕ → ℕ → CommitFormat → ℕ → List ℕ → Result Head ℕ
segments_end s number docs next format count bytes =
    items_at (entry_at s next) after_id 1 count bytes >>= λ segments. tail_at format segments.1 >>= λ pairs. ended (made number docs next segments.0 format pairs.0) pairs.1

abbrev count_end : ℕ → ℕ → ℕ → ℕ → CommitFormat → List ℕ → Result Head ℕ
count_end s number docs next format bytes = number_at w64 bytes >>= λ count. segments_end s number docs next format count.0 count.1

abbrev next_end : ℕ → ℕ → ℕ → CommitFormat → List ℕ → Result Head ℕ
next_end s number docs format bytes = number_where w64 next_test bytes >>= λ next. count_end s number docs next.0 format next.1

abbrev docs_end : ℕ → ℕ → CommitFormat → List ℕ → Result Head ℕ
docs_end s number format bytes = number_at w64 bytes >>= λ docs. next_end s number docs.0 format docs.1

abbrev number_end : ℕ → CommitFormat → List ℕ → Result Head ℕ
number_end s format bytes = number_where w64 (number_test s) bytes >>= λ number. docs_end s number.0 format number.1

-- the segments and the pairs that are read behind the numbers
record SegmentsRead (s number docs next : ℕ) (format : CommitFormat) (count : ℕ) (bytes : List ℕ) (head : Head) : Type 0 where
  segments : List HeadSegment
  pairs : List (List ℕ × List ℕ)
  head_is : made number docs next segments format pairs ≡ head
  good : AllGood (EntryGood s next) after_id 1 segments
  count_is : length segments ≡ count
  tail : TailGood format pairs
  spelled : bytes ≡ flat_map entry segments ++ tail_of format pairs

segments_take : (s number docs next : ℕ) (format : CommitFormat) (count : ℕ) (bytes : List ℕ) (head : Head) → AreBytes bytes
    → segments_end s number docs next format count bytes ≡ Ok head → SegmentsRead s number docs next format count bytes head
segments_take s number docs next format count bytes head fits e =
    let g = bind_ok (items_at (entry_at s next) after_id 1 count bytes) (λ segments. tail_at format segments.1 >>= λ pairs. ended (made number docs next segments.0 format pairs.0) pairs.1) head e in
    let h = bind_ok (tail_at format g.0.1) (λ pairs. ended (made number docs next g.0.0 format pairs.0) pairs.1) head g.2 in
    let z = ended_ok (made number docs next g.0.0 format h.0.0) h.0.1 head h.2 in
    let t5 = items_take (entry_at s next) after_id entry (EntryGood s next) (entry_takes s next) 1 count bytes g.0 fits g.1 in
    let t6 = tail_takes format g.0.1 h.0 t5.0.rest_fits h.1 in
    let tail = tail_of format h.0.0 in
    let last : g.0.1 ≡ tail = t6.0.parts ∙ ap (λ (r : List ℕ). tail ++ r) z.0 ∙ append-nil tail in
    record {
      segments = g.0.0;
      pairs = h.0.0;
      head_is = z.1;
      good = t5.2;
      count_is = t5.1;
      tail = t6.1;
      spelled = t5.0.parts ∙ ap (λ (r : List ℕ). flat_map entry g.0.0 ++ r) last;
    }

-- the numbers that are read behind the mark
record NumbersRead (s : ℕ) (format : CommitFormat) (bytes : List ℕ) (head : Head) : Type 0 where
  number : ℕ
  docs : ℕ
  next : ℕ
  count : ℕ
  rest : List ℕ
  number_short : number < 2 ^ 64
  number_fits : number_test s number ≡ true
  docs_short : docs < 2 ^ 64
  next_fits : next_test next ≡ true
  count_short : count < 2 ^ 64
  spelled : bytes ≡ be64 number ++ (be64 docs ++ (be64 next ++ (be64 count ++ rest)))
  rest_fits : AreBytes rest
  read : segments_end s number docs next format count rest ≡ Ok head

numbers_take : (s : ℕ) (format : CommitFormat) (bytes : List ℕ) (head : Head) → AreBytes bytes → number_end s format bytes ≡ Ok head → NumbersRead s format bytes head
numbers_take s format bytes head fits e =
    let b = bind_ok (number_where w64 (number_test s) bytes) (λ number. docs_end s number.0 format number.1) head e in
    let c = bind_ok (number_at w64 b.0.1) (λ docs. next_end s b.0.0 docs.0 format docs.1) head b.2 in
    let d = bind_ok (number_where w64 next_test c.0.1) (λ next. count_end s b.0.0 c.0.0 next.0 format next.1) head c.2 in
    let f = bind_ok (number_at w64 d.0.1) (λ count. segments_end s b.0.0 c.0.0 d.0.0 format count.0 count.1) head d.2 in
    let t1 = u64_where_takes (number_test s) bytes b.0 fits b.1 in
    let t2 = u64_takes b.0.1 c.0 t1.0.rest_fits c.1 in
    let t3 = u64_where_takes next_test c.0.1 d.0 t2.0.rest_fits d.1 in
    let t4 = u64_takes d.0.1 f.0 t3.0.rest_fits f.1 in
    let e34 : c.0.1 ≡ be64 d.0.0 ++ (be64 f.0.0 ++ f.0.1) = t3.0.parts ∙ ap (λ (r : List ℕ). be64 d.0.0 ++ r) t4.0.parts in
    let e24 : b.0.1 ≡ be64 c.0.0 ++ (be64 d.0.0 ++ (be64 f.0.0 ++ f.0.1)) = t2.0.parts ∙ ap (λ (r : List ℕ). be64 c.0.0 ++ r) e34 in
    record {
      number = b.0.0;
      docs = c.0.0;
      next = d.0.0;
      count = f.0.0;
      rest = f.0.1;
      number_short = t1.1;
      number_fits = t1.2;
      docs_short = t2.1;
      next_fits = t3.2;
      count_short = t4.1;
      spelled = t1.0.parts ∙ ap (λ (r : List ℕ). be64 b.0.0 ++ r) e24;
      rest_fits = t4.0.rest_fits;
      read = f.2;
    }

-- what the fields that were read come to
head_of_fields : (s number docs next count : ℕ) (segments : List HeadSegment) (format : CommitFormat) (pairs : List (List ℕ × List ℕ))
    → number < 2 ^ 64 → number_test s number ≡ true → docs < 2 ^ 64 → next_test next ≡ true → count < 2 ^ 64 → length segments ≡ count
    → AllGood (EntryGood s next) after_id 1 segments → TailGood format pairs → (number ≡ s) × HeadFits (made number docs next segments format pairs)
head_of_fields s number docs next count segments format pairs short own docs_short next_own count_short count_is good tail =
    let h = and_parts (eqb number s) (leb 1 number) own in
    let k = and_parts (leb 1 next) (leb next (2 ^ 62)) next_own in
    let s-is : number ≡ s = eqb-true number s h.0 in (
      s-is,
      record {
        some = leb-true 1 number h.1;
        number = short;
        docs = docs_short;
        next_some = leb-true 1 next k.0;
        next = leb-true next (2 ^ 62) k.1;
        count = omega (arith, count_is, count_short);
        ids = ids_of s next 1 segments good;
        entries = subst (λ (i : ℕ). AllByRecursion (EntryFits i) segments) (sym s-is) (good_each (EntryGood s next) (EntryFits s) after_id (λ low x y. y.fits) 1 segments good);
        pairs = tail.fits;
        first = tail.first;
      },
    )

-- the bytes of these fields, one behind the other
fields_joined : (bytes own rest mark number docs next listed : List ℕ) (count n : ℕ) → bytes ≡ mark ++ own → own ≡ number ++ (docs ++ (next ++ (be64 count ++ rest)))
    → rest ≡ listed → n ≡ count → bytes ≡ mark ++ (number ++ (docs ++ (next ++ (be64 n ++ listed))))
fields_joined bytes own rest mark number docs next listed count n first second third count_is =
    first ∙ ap (λ (r : List ℕ). mark ++ r) second
    ∙ ap (λ (r : List ℕ). mark ++ (number ++ (docs ++ (next ++ (be64 count ++ r))))) third
    ∙ ap (λ (i : ℕ). mark ++ (number ++ (docs ++ (next ++ (be64 i ++ listed))))) (sym count_is)

pub head_take : (s : ℕ) (bytes : List ℕ) (head : Head) → AreBytes bytes → head_in s bytes ≡ Ok head → (head.number ≡ s) × HeadFits head × (bytes ≡ commit_file head)
unfolding head_in
head_take s bytes head fits e =
    let a = bind_ok (format_at bytes) (λ format. number_end s format.0 format.1) head e in
    let t = format_takes bytes a.0 fits a.1 in
    let n = numbers_take s a.0.0 a.0.1 head t.rest_fits a.2 in
    let x = segments_take s n.number n.docs n.next a.0.0 n.count n.rest head n.rest_fits n.read in
    let own = head_of_fields s n.number n.docs n.next n.count x.segments a.0.0 x.pairs n.number_short n.number_fits n.docs_short n.next_fits n.count_short x.count_is x.good x.tail in
    let joined = fields_joined bytes a.0.1 n.rest (mark_of a.0.0) (be64 n.number) (be64 n.docs) (be64 n.next) (flat_map entry x.segments ++ tail_of a.0.0 x.pairs) n.count (length x.segments) t.parts n.spelled x.spelled x.count_is in
    subst (λ (y : Head). (y.number ≡ s) × HeadFits y × (bytes ≡ commit_file y)) {x = made n.number n.docs n.next x.segments a.0.0 x.pairs} {y = head} x.head_is (own.0, own.1, joined)

pub head_again : (head : Head) → HeadFits head → head_in head.number (commit_file head) ≡ Ok head
unfolding head_in
head_again head fits =
    let listed = flat_map entry head.segments in
    let tail = tail_of head.format head.pairs in
    let counted = be64 (length head.segments) ++ (listed ++ tail) in
    let s = head.number in
    let items : items_at (entry_at s head.next_id) after_id 1 (length head.segments) (listed ++ tail) ≡ Ok (head.segments, tail) =
    items_again (entry_at s head.next_id) after_id entry (EntryGood s head.next_id) (entry_again s head.next_id fits.number) 1 head.segments tail (entries_good s head.next_id 1 head.segments fits.next fits.ids fits.entries) in
    let short : head.next_id < 2 ^ 64 = omega (arith, fits.next) in
    rw (
      format_again head.format (be64 s ++ (be64 head.docs ++ (be64 head.next_id ++ counted))),
      u64_where_again (number_test s) s (be64 head.docs ++ (be64 head.next_id ++ counted)) fits.number (both_true (eq-eqb s s refl) (le-leb _ _ fits.some)),
      u64_again head.docs (be64 head.next_id ++ counted) fits.docs,
      u64_where_again next_test head.next_id counted short (both_true (le-leb _ _ fits.next_some) (le-leb _ _ fits.next)),
      u64_again (length head.segments) (listed ++ tail) fits.count,
      items,
      tail_again head.format head.pairs fits.pairs fits.first,
    ) refl

pub head_found : (s : ℕ) (bytes : List ℕ) (name : FileName) (r : Result Head FileFault) → AreBytes bytes
    → GivesFile (λ x. x) r (placed name bytes (head_in s bytes)) → IfOk r (λ head. (head.number ≡ s) × HeadFits head × (bytes ≡ commit_file head))
head_found s bytes name (Ok head) fits given = head_take s bytes head fits (placed_ok name bytes (head_in s bytes) head given)
head_found s bytes name (Err f) fits given = tt

pub head_only : (s : ℕ) (bytes : List ℕ) (name : FileName) (r : Result Head FileFault)
    → GivesFile (λ x. x) r (placed name bytes (head_in s bytes)) → (head : Head) → head.number ≡ s → HeadFits head → bytes ≡ commit_file head → GivesFile (λ x. x) r (Ok head)
head_only s bytes name r given head s-is fits is =
    let read : head_in s bytes ≡ Ok head = ap (head_in s) is ∙ ap (λ (i : ℕ). head_in i (commit_file head)) (sym s-is) ∙ head_again head fits in
    subst (λ (x : Result Head ℕ). GivesFile (λ y. y) r (placed name bytes x)) read given
