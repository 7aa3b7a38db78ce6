-- A file of live bits that is read is the one that was written, and what was written is read again.
use Rattle.std.proofs.Common.{◌≡◌, ℕ, ◌+◌, ◌^◌, ◌<◌, ◌≤◌, Bool, true, false, not, cond, eqb, ltb, List, [], ◌++◌, length, take, drop, Result, Ok, Err, refl, sym, ap, subst, ◌∙◌, arith}
use Rattle.std.specs.Prelude.{IfOk}
use Rattle.std.specs.Int.{w32, w64}
use Rattle.std.specs.List.{flat_map}
use Rattle.std.proofs.lemmas.Bool.{not-false, eqb-true, eq-eqb, ltb-false, le-ltb}
use Rattle.std.proofs.lemmas.List.{append-nil, take_at, drop_at, take-append-drop, length-take, length-append}
use Rattle.ix_base.specs.declared.file_name.FileName.{FileName}
use Rattle.ix_base.specs.declared.damaged.FileFault.{FileFault}
use Rattle.ix_base.specs.Codec.{◌>>=◌}
use Rattle.ix_base.proofs.CodecLaws.{AreBytes-drop, AreBytes-take, bind_ok, ok_is, passed, Takes, Takes-then}
use Rattle.ix_base.specs.FileReading.{number_where, mark_at, ended, placed, GivesFile}
use Rattle.ix_base.proofs.FileLaws.{u32_where_takes, u32_where_again, u64_where_takes, u64_where_again, mark_takes, mark_again, ended_ok, placed_ok}
use Rattle.ix_base.specs.Spelling.{be32, be64, AreBytes}
use Rattle.live_files.specs.LiveSpelling.{live_mark, byte_count, bytes_of_bits, live_bytes, live_file}
use Rattle.live_files.specs.LiveFits.{has_bit, LiveFits}
use Rattle.live_files.specs.LiveReading.{byte_bits, bytes_at, bits_at, live_in}
use Rattle.live_files.proofs.Bits.{Pads, pads_bytes, take_pads, pads_take, pads_rest, pads_has, all_length, all_packed, packed_pads, bytes_count, enough}

-- ---- so many bytes

record BytesTaken (n : ℕ) (bytes found rest : List ℕ) : Type 0 where
  takes : Takes bytes found rest
  count : length found ≡ n
  are : AreBytes found

bytes_take : (n : ℕ) (bytes : List ℕ) (x : List ℕ × List ℕ) → AreBytes bytes → bytes_at n bytes ≡ Ok x → BytesTaken n bytes x.0 x.1
unfolding bytes_at
bytes_take n bytes x fits e =
    let g = passed (ltb (length bytes) n) (Ok (take n bytes, drop n bytes)) 0 x e in
    let long : n ≤ length bytes = ltb-false _ _ g.0 in
    subst (λ (y : List ℕ × List ℕ). BytesTaken n bytes y.0 y.1) (ok_is (take n bytes, drop n bytes) x g.1) (record {
      takes = record { parts = sym (take-append-drop n bytes); rest_fits = AreBytes-drop n bytes fits };
      count = omega (arith, length-take n bytes);
      are = AreBytes-take n bytes fits;
    })

bytes_again : (n : ℕ) (found rest : List ℕ) → length found ≡ n → bytes_at n (found ++ rest) ≡ Ok (found, rest)
unfolding bytes_at
bytes_again n found rest count =
    let long : ltb (length (found ++ rest)) n ≡ false = le-ltb _ _ (omega (arith, length-append found rest)) in
    rw (long, take_at found rest n count, drop_at found rest n count) refl

-- ---- the bits of all rows

abbrev all_of : List ℕ → List Bool
all_of found = flat_map byte_bits found

packed_again : (n : ℕ) (found : List ℕ) → AreBytes found → length found ≡ byte_count n → has_bit (drop n (all_of found)) ≡ false
    → (length (take n (all_of found)) ≡ n) × (live_bytes (take n (all_of found)) ≡ found)
packed_again n found are count none =
    let long : length (take n (all_of found)) ≡ n = omega (arith, length-take n (all_of found), all_length found, enough n, count) in (
      long,
      ap (λ (k : ℕ). bytes_of_bits (byte_count k) (take n (all_of found))) long
          ∙ ap (λ (k : ℕ). bytes_of_bits k (take n (all_of found))) (sym count)
          ∙ pads_bytes (length found) (take n (all_of found)) (all_of found) (take_pads n (all_of found) none)
          ∙ all_packed found are,
    )

bits_take : (n : ℕ) (bytes : List ℕ) (x : List Bool × List ℕ) → AreBytes bytes → bits_at n bytes ≡ Ok x → Takes bytes (live_bytes x.0) x.1 × LiveFits n x.0
unfolding bits_at
bits_take n bytes x fits e =
    let a = bind_ok (bytes_at (byte_count n) bytes) (λ found. cond (not (has_bit (all_of found.0))) (Err (length bytes)) (cond (has_bit (drop n (all_of found.0))) (Err (length found.1 + 1)) (Ok (take n (all_of found.0), found.1)))) x e in
    let made : List Bool × List ℕ = (take n (all_of a.0.0), a.0.1) in
    let some = passed (not (has_bit (all_of a.0.0))) (cond (has_bit (drop n (all_of a.0.0))) (Err (length a.0.1 + 1)) (Ok made)) (length bytes) x a.2 in
    let none = passed (has_bit (drop n (all_of a.0.0))) (Ok made) (length a.0.1 + 1) x some.1 in
    let t = bytes_take (byte_count n) bytes a.0 fits a.1 in
    let p = packed_again n a.0.0 t.are t.count none.0 in
    let has : has_bit made.0 ≡ true = pads_has made.0 (all_of a.0.0) (take_pads n (all_of a.0.0) none.0) ∙ not-false (has_bit (all_of a.0.0)) some.0 in
    subst (λ (y : List Bool × List ℕ). Takes bytes (live_bytes y.0) y.1 × LiveFits n y.0) (ok_is made x none.1)
    (subst (λ (l : List ℕ). Takes bytes l a.0.1) (sym p.1) t.takes, record { count = p.0; some = has })

bits_again : (n : ℕ) (bits : List Bool) (rest : List ℕ) → LiveFits n bits → bits_at n (live_bytes bits ++ rest) ≡ Ok (bits, rest)
unfolding bits_at
bits_again n bits rest fits =
    let all = all_of (live_bytes bits) in
    let pads : Pads bits all = packed_pads (byte_count (length bits)) bits (enough (length bits)) in
    let some : has_bit all ≡ true = sym (pads_has bits all pads) ∙ fits.some in
    let none : has_bit (drop n all) ≡ false = ap (λ (k : ℕ). has_bit (drop k all)) (sym fits.count) ∙ pads_rest bits all pads in
    let front : take n all ≡ bits = ap (λ (k : ℕ). take k all) (sym fits.count) ∙ pads_take bits all pads in
    rw (bytes_again (byte_count n) (live_bytes bits) rest (bytes_count (byte_count (length bits)) bits ∙ ap byte_count fits.count), some, none, front) refl

-- ---- whole files

pub live_take : (id v n : ℕ) (bytes : List ℕ) (bits : List Bool) → AreBytes bytes → live_in id v n bytes ≡ Ok bits → LiveFits n bits × (bytes ≡ live_file id v bits)
unfolding live_in live_mark
live_take id v n bytes bits fits e =
    let a = bind_ok (mark_at live_mark bytes) (λ rest. number_where w64 (λ x. eqb x id) rest >>= λ own. number_where w64 (λ x. eqb x v) own.1 >>= λ commit. number_where w32 (λ x. eqb x n) commit.1 >>= λ rows. bits_at n rows.1 >>= λ found. ended found.0 found.1) bits e in
    let b = bind_ok (number_where w64 (λ x. eqb x id) a.0) (λ own. number_where w64 (λ x. eqb x v) own.1 >>= λ commit. number_where w32 (λ x. eqb x n) commit.1 >>= λ rows. bits_at n rows.1 >>= λ found. ended found.0 found.1) bits a.2 in
    let c = bind_ok (number_where w64 (λ x. eqb x v) b.0.1) (λ commit. number_where w32 (λ x. eqb x n) commit.1 >>= λ rows. bits_at n rows.1 >>= λ found. ended found.0 found.1) bits b.2 in
    let d = bind_ok (number_where w32 (λ x. eqb x n) c.0.1) (λ rows. bits_at n rows.1 >>= λ found. ended found.0 found.1) bits c.2 in
    let f = bind_ok (bits_at n d.0.1) (λ found. ended found.0 found.1) bits d.2 in
    let z = ended_ok f.0.0 f.0.1 bits f.2 in
    let t0 = mark_takes live_mark bytes a.0 refl fits a.1 in
    let t1 = u64_where_takes (λ x. eqb x id) a.0 b.0 t0.rest_fits b.1 in
    let t2 = u64_where_takes (λ x. eqb x v) b.0.1 c.0 t1.0.rest_fits c.1 in
    let t3 = u32_where_takes (λ x. eqb x n) c.0.1 d.0 t2.0.rest_fits d.1 in
    let t4 = bits_take n d.0.1 f.0 t3.0.rest_fits f.1 in
    let id-is : b.0.0 ≡ id = eqb-true _ _ t1.2 in
    let v-is : c.0.0 ≡ v = eqb-true _ _ t2.2 in
    let n-is : d.0.0 ≡ n = eqb-true _ _ t3.2 in
    let packed = live_bytes f.0.0 in
    let e34 = Takes-then c.0.1 (be32 d.0.0) d.0.1 packed f.0.1 t3.0 t4.0 in
    let e24 = Takes-then b.0.1 (be64 c.0.0) c.0.1 (be32 d.0.0 ++ packed) f.0.1 t2.0 e34 in
    let e14 = Takes-then a.0 (be64 b.0.0) b.0.1 (be64 c.0.0 ++ (be32 d.0.0 ++ packed)) f.0.1 t1.0 e24 in
    let e04 = Takes-then bytes live_mark a.0 (be64 b.0.0 ++ (be64 c.0.0 ++ (be32 d.0.0 ++ packed))) f.0.1 t0 e14 in
    let spelled : List ℕ = live_mark ++ (be64 b.0.0 ++ (be64 c.0.0 ++ (be32 d.0.0 ++ packed))) in
    let whole : bytes ≡ spelled = e04.parts ∙ ap (λ (r : List ℕ). spelled ++ r) z.0 ∙ append-nil spelled in
    let named : bytes ≡ live_mark ++ (be64 id ++ (be64 c.0.0 ++ (be32 d.0.0 ++ packed))) = whole ∙ ap (λ (i : ℕ). live_mark ++ (be64 i ++ (be64 c.0.0 ++ (be32 d.0.0 ++ packed)))) id-is in
    let written : bytes ≡ live_mark ++ (be64 id ++ (be64 v ++ (be32 d.0.0 ++ packed))) = named ∙ ap (λ (i : ℕ). live_mark ++ (be64 id ++ (be64 i ++ (be32 d.0.0 ++ packed)))) v-is in
    let all : bytes ≡ live_file id v f.0.0 = written ∙ ap (λ (i : ℕ). live_mark ++ (be64 id ++ (be64 v ++ (be32 i ++ packed)))) (n-is ∙ sym t4.1.count) in
    subst (λ (bs : List Bool). LiveFits n bs × (bytes ≡ live_file id v bs)) z.1 (t4.1, all)

pub live_again : (id v n : ℕ) (bits : List Bool) → id < 2 ^ 64 → v < 2 ^ 64 → n < 2 ^ 32 → LiveFits n bits → live_in id v n (live_file id v bits) ≡ Ok bits
unfolding live_in live_mark
live_again id v n bits id_fits v_fits n_fits fits =
    let packed = live_bytes bits in
    let counted = be32 (length bits) ++ packed in
    let short : length bits < 2 ^ 32 = omega (arith, fits.count) in
    let found : bits_at n packed ≡ Ok (bits, []) = ap (bits_at n) (sym (append-nil packed)) ∙ bits_again n bits [] fits in
    rw (
      mark_again live_mark (be64 id ++ (be64 v ++ counted)) refl,
      u64_where_again (λ x. eqb x id) id (be64 v ++ counted) id_fits (eq-eqb id id refl),
      u64_where_again (λ x. eqb x v) v counted v_fits (eq-eqb v v refl),
      u32_where_again (λ x. eqb x n) (length bits) packed short (eq-eqb (length bits) n fits.count),
      found,
    ) refl

pub live_found : {X : Type 0} (view : X → List Bool) (id v n : ℕ) (bytes : List ℕ) (name : FileName) (r : Result X FileFault) → AreBytes bytes
    → GivesFile view r (placed name bytes (live_in id v n bytes)) → IfOk r (λ x. LiveFits n (view x) × (bytes ≡ live_file id v (view x)))
live_found view id v n bytes name (Ok x) fits given = live_take id v n bytes (view x) fits (placed_ok name bytes (live_in id v n bytes) (view x) given)
live_found view id v n bytes name (Err f) fits given = tt

pub live_only : {X : Type 0} (view : X → List Bool) (id v n : ℕ) (bytes : List ℕ) (name : FileName) (r : Result X FileFault) → id < 2 ^ 64 → v < 2 ^ 64 → n < 2 ^ 32
    → GivesFile view r (placed name bytes (live_in id v n bytes)) → (bits : List Bool) → LiveFits n bits → bytes ≡ live_file id v bits → GivesFile view r (Ok bits)
live_only view id v n bytes name r id_fits v_fits n_fits given bits fits is =
    let read : live_in id v n bytes ≡ Ok bits = ap (live_in id v n) is ∙ live_again id v n bits id_fits v_fits n_fits fits in
    subst (λ (x : Result (List Bool) ℕ). GivesFile view r (placed name bytes x)) read given

-- ---- one file has one list of bits

pub one_live : (id v n : ℕ) (bits others : List Bool) → id < 2 ^ 64 → v < 2 ^ 64 → n < 2 ^ 32 → LiveFits n bits → LiveFits n others → live_file id v bits ≡ live_file id v others → bits ≡ others
one_live id v n bits others id_fits v_fits n_fits fit also same =
    ok_is bits others (sym (live_again id v n bits id_fits v_fits n_fits fit) ∙ ap (live_in id v n) same ∙ live_again id v n others id_fits v_fits n_fits also)
