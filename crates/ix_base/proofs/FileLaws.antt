-- Fields of files: what is read was written, and what was written is read again.
use Rattle.std.proofs.Common.{◌≡◌, ℕ, ◌^◌, ◌<◌, Bool, true, cond, eqb, List, [], ◌++◌, length, take, drop, Result, Ok, Err, refl, sym, ap, subst, ◌∙◌}
use Rattle.std.specs.Int.{Width, w32, w64}
use Rattle.std.specs.Str.{bytes_eq}
use Rattle.std.proofs.lemmas.Bool.{eqb-true}
use Rattle.std.proofs.lemmas.List.{take_at, drop_at, take-append-drop, nil_from_length}
use Rattle.std.proofs.lemmas.Slice.Eq.{bytes_eq-Decides}
use Rattle.ix_base.specs.Codec.{number_at, name_at}
use Rattle.ix_base.proofs.CodecLaws.{AreBytes-drop, bind_ok, passes, Takes, u32_takes, u32_again, u64_takes, u64_again, name_takes, name_again}
use Rattle.ix_base.specs.Spelling.{be64, be32, text_bytes, AreBytes, IsName}
use Rattle.ix_base.specs.declared.file_name.FileName.{FileName}
use Rattle.ix_base.specs.declared.damaged.Damaged.{Damaged}
use Rattle.ix_base.specs.FileReading.{number_where, mark_at, name_where, ended, placed}

-- ---- numbers that pass a test

where_ok : (w : Width) (test : ℕ → Bool) (bytes : List ℕ) (x : ℕ × List ℕ) → number_where w test bytes ≡ Ok x → (number_at w bytes ≡ Ok x) × (test x.0 ≡ true)
where_ok w test bytes x e =
    let b = bind_ok (number_at w bytes) (λ n. cond (test n.0) (Ok n) (Err (length bytes))) x e in
    let g = passes (test b.0.0) (length bytes) b.0 x b.2 in
    (b.1 ∙ ap (λ (y : ℕ × List ℕ). Ok y) g.1, subst (λ (y : ℕ × List ℕ). test y.0 ≡ true) g.1 g.0)

where_again : (w : Width) (test : ℕ → Bool) (bytes : List ℕ) (n : ℕ) (rest : List ℕ) → number_at w bytes ≡ Ok (n, rest) → test n ≡ true → number_where w test bytes ≡ Ok (n, rest)
where_again w test bytes n rest e h = rw (e, h) refl

pub u64_where_takes : (test : ℕ → Bool) (bytes : List ℕ) (x : ℕ × List ℕ) → AreBytes bytes → number_where w64 test bytes ≡ Ok x → Takes bytes (be64 x.0) x.1 × (x.0 < 2 ^ 64) × (test x.0 ≡ true)
u64_where_takes test bytes x fits e = let p = where_ok w64 test bytes x e in let t = u64_takes bytes x fits p.0 in (t.0, t.1, p.1)

pub u64_where_again : (test : ℕ → Bool) (n : ℕ) (rest : List ℕ) → n < 2 ^ 64 → test n ≡ true → number_where w64 test (be64 n ++ rest) ≡ Ok (n, rest)
u64_where_again test n rest lt h = where_again w64 test (be64 n ++ rest) n rest (u64_again n rest lt) h

pub u32_where_takes : (test : ℕ → Bool) (bytes : List ℕ) (x : ℕ × List ℕ) → AreBytes bytes → number_where w32 test bytes ≡ Ok x → Takes bytes (be32 x.0) x.1 × (x.0 < 2 ^ 32) × (test x.0 ≡ true)
u32_where_takes test bytes x fits e = let p = where_ok w32 test bytes x e in let t = u32_takes bytes x fits p.0 in (t.0, t.1, p.1)

pub u32_where_again : (test : ℕ → Bool) (n : ℕ) (rest : List ℕ) → n < 2 ^ 32 → test n ≡ true → number_where w32 test (be32 n ++ rest) ≡ Ok (n, rest)
u32_where_again test n rest lt h = where_again w32 test (be32 n ++ rest) n rest (u32_again n rest lt) h

-- ---- marks

pub mark_takes : (mark bytes rest : List ℕ) → length mark ≡ 8 → AreBytes bytes → mark_at mark bytes ≡ Ok rest → Takes bytes mark rest
unfolding mark_at
mark_takes mark bytes rest len fits e =
    let g = passes (bytes_eq (take 8 bytes) mark) (length bytes) (drop 8 bytes) rest e in
    subst (Takes bytes mark) g.1 (record { parts = sym (take-append-drop 8 bytes) ∙ ap (λ (m : List ℕ). m ++ drop 8 bytes) ((bytes_eq-Decides (take 8 bytes) mark).0 g.0); rest_fits = AreBytes-drop 8 bytes fits })

pub mark_again : (mark rest : List ℕ) → length mark ≡ 8 → mark_at mark (mark ++ rest) ≡ Ok rest
unfolding mark_at
mark_again mark rest len = rw (take_at mark rest 8 len, drop_at mark rest 8 len, (bytes_eq-Decides mark mark).1 refl) refl

-- ---- names that pass a test

pub name_where_takes : (test : List ℕ → Bool) (bytes : List ℕ) (x : List ℕ × List ℕ) → AreBytes bytes → name_where test bytes ≡ Ok x → Takes bytes (text_bytes x.0) x.1 × IsName x.0 × (test x.0 ≡ true)
name_where_takes test bytes x fits e =
    let b = bind_ok (name_at bytes) (λ n. cond (test n.0) (Ok n) (Err (length bytes))) x e in
    let g = passes (test b.0.0) (length bytes) b.0 x b.2 in
    let t = name_takes bytes b.0 fits b.1 in
    subst (λ (y : List ℕ × List ℕ). Takes bytes (text_bytes y.0) y.1 × IsName y.0 × (test y.0 ≡ true)) g.1 (t.0, t.1, g.0)

pub name_where_again : (test : List ℕ → Bool) (name rest : List ℕ) → IsName name → test name ≡ true → name_where test (text_bytes name ++ rest) ≡ Ok (name, rest)
name_where_again test name rest is h = rw (name_again name rest is, h) refl

-- ---- ends and places

pub ended_ok : {A : Type 0} (x : A) (rest : List ℕ) (y : A) → ended x rest ≡ Ok y → (rest ≡ []) × (x ≡ y)
ended_ok x rest y e =
    let g = passes (eqb (length rest) 0) (length rest) x y e in
    (nil_from_length rest (eqb-true _ _ g.0), g.1)

pub placed_ok : {A : Type 0} (name : FileName) (bytes : List ℕ) (read : Result A ℕ) (x : A) → placed name bytes read ≡ Ok x → read ≡ Ok x
placed_ok name bytes (Ok y) x e = ap again e
  where
    again : {A : Type 0} → Result A Damaged → Result A ℕ
    again (Ok z) = Ok z
    again (Err d) = Err 0
placed_ok name bytes (Err left) x e = absurd cc
