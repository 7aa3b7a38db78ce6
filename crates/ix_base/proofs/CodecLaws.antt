-- What is read at the start of bytes is spelled there, and what was written is read again.
use Rattle.std.proofs.Common.{◌≡◌, ℕ, ◌+◌, ◌^◌, ◌<◌, ◌≤◌, Bool, true, false, cond, ltb, List, [], ◌∷◌, ◌++◌, length, take, drop, Result, Ok, Err, refl, sym, ap, subst, ◌∙◌, append_assoc, arith, inl, inr}
use Rattle.std.specs.Prelude.{ℤ, FitsSigned, IsUtf8}
use Rattle.std.specs.Int.{Width, w32, w64, byte_len, from_be_bytes, to_be_bytes, cast_signed, cast_unsigned}
use Rattle.std.specs.Str.{is_utf8}
use Rattle.std.proofs.lemmas.Bool.{cases_lt, ltb-false, ltb-true, le-ltb, and_parts, false_from_ne_true}
use Rattle.std.proofs.lemmas.List.{take_at, drop_at, take-append-drop, length-append, length-take, get_or-drop, get_or-take, get_or_past}
use Rattle.std.proofs.lemmas.Nat.{be_bytes_4, be_bytes_8, from_be_bytes-to_be_bytes_4, from_be_bytes-to_be_bytes_8}
use Rattle.std.proofs.lemmas.Int.{of_z-to_z, to_z-of_z, ints}
use Rattle.std.proofs.Math.Facts.{sfits_to_z, Fits-of_lt}
use Rattle.std.proofs.lemmas.Str.{IsUtf8-from_is_utf8, is_utf8-from_IsUtf8}
use Rattle.ix_base.specs.Limits.{is_name}
use Rattle.ix_base.specs.Spelling.{be64, be32, signed64, text_bytes, AreBytes, IsText, IsName}
use Rattle.ix_base.specs.Codec.{◌>>=◌, byte_at, number_at, signed_at, text_at, name_at}

pub AreBytes-drop : (n : ℕ) (bytes : List ℕ) → AreBytes bytes → AreBytes (drop n bytes)
AreBytes-drop n bytes h i = rw get_or-drop (h (n + i))

pub AreBytes-take : (n : ℕ) (bytes : List ℕ) → AreBytes bytes → AreBytes (take n bytes)
AreBytes-take n bytes h i =
    elim (cases_lt i n) [
      | inl lt ↦ rw (get_or-take n bytes i 0 lt) (h i)
      | inr le ↦ rw (get_or_past (take n bytes) i 0 (omega (arith, length-take n bytes))) (omega arith)
    ]

-- ---- steps of reading

-- the value of a step that did not fail
pub bind_ok : {A B : Type 0} (r : Result A ℕ) (f : A → Result B ℕ) (y : B) → (r >>= f) ≡ Ok y → (x : A) × (r ≡ Ok x) × (f x ≡ Ok y)
bind_ok (Ok x) f y e = (x, refl, e)
bind_ok (Err d) f y e = absurd cc

-- a test that did not fail
pub passed : {A : Type 0} (b : Bool) (r : Result A ℕ) (d : ℕ) (y : A) → cond b (Err d) r ≡ Ok y → (b ≡ false) × (r ≡ Ok y)
passed true r d y e = absurd cc
passed false r d y e = (refl, e)

pub passes : {A : Type 0} (b : Bool) (d : ℕ) (x y : A) → cond b (Ok x) (Err d) ≡ Ok y → (b ≡ true) × (x ≡ y)
passes true d x y e = (refl, cc)
passes false d x y e = absurd cc

abbrev done : {A : Type 0} → A → Result A ℕ
done x = Ok x

pub ok_is : {A : Type 0} (x y : A) → done x ≡ done y → x ≡ y
ok_is x y e = cc

-- what a reader took from the start of bytes
pub record Takes (bytes spelled rest : List ℕ) : Type 0 where
  pub parts : bytes ≡ spelled ++ rest
  pub rest_fits : AreBytes rest

pub Takes-then : (a x b y c : List ℕ) → Takes a x b → Takes b y c → Takes a (x ++ y) c
Takes-then a x b y c p q = record { parts = p.parts ∙ ap (λ (t : List ℕ). x ++ t) q.parts ∙ sym (append_assoc x y c); rest_fits = q.rest_fits }

-- ---- one byte

pub byte_takes : (bytes : List ℕ) (x : ℕ × List ℕ) → AreBytes bytes → byte_at bytes ≡ Ok x → Takes bytes (x.0 ∷ []) x.1 × (x.0 < 256)
byte_takes [] x fits e = absurd cc
byte_takes (b ∷ rest) x fits e =
    subst (λ (y : ℕ × List ℕ). Takes (b ∷ rest) (y.0 ∷ []) y.1 × (y.0 < 256)) (ok_is (b, rest) x e)
    (record { parts = refl; rest_fits = AreBytes-drop 1 (b ∷ rest) fits }, fits 0)

pub byte_again : (byte : ℕ) (rest : List ℕ) → byte_at ((byte ∷ []) ++ rest) ≡ Ok (byte, rest)
byte_again byte rest = refl

-- ---- numbers

record IsWide (w : Width) (limit : ℕ) : Type 0 where
  len : (n : ℕ) → length (to_be_bytes w n) ≡ byte_len w
  back : (bytes : List ℕ) → length bytes ≡ byte_len w → AreBytes bytes → to_be_bytes w (from_be_bytes w bytes) ≡ bytes
  again : (n : ℕ) → n < limit → from_be_bytes w (to_be_bytes w n) ≡ n
  below : (bytes : List ℕ) → AreBytes bytes → from_be_bytes w bytes < limit

wide32 : IsWide w32 (2 ^ 32)
wide32 = record {
  len = λ n. refl;
  back = λ bytes len fits. be_bytes_4 bytes _ len fits refl;
  again = λ n lt. from_be_bytes-to_be_bytes_4 n lt;
  below = λ bytes fits. omega (arith, fits 0, fits 1, fits 2, fits 3);
}

wide64 : IsWide w64 (2 ^ 64)
wide64 = record {
  len = λ n. refl;
  back = λ bytes len fits. be_bytes_8 bytes _ len fits refl;
  again = λ n lt. from_be_bytes-to_be_bytes_8 n lt;
  below = λ bytes fits. omega (arith, fits 0, fits 1, fits 2, fits 3, fits 4, fits 5, fits 6, fits 7);
}

number_takes : (w : Width) (limit : ℕ) (wide : IsWide w limit) (bytes : List ℕ) (x : ℕ × List ℕ) → AreBytes bytes → number_at w bytes ≡ Ok x → Takes bytes (to_be_bytes w x.0) x.1 × (x.0 < limit)
number_takes w limit wide bytes x fits e =
    let g = passed (ltb (length bytes) (byte_len w)) (Ok (from_be_bytes w (take (byte_len w) bytes), drop (byte_len w) bytes)) (length bytes) x e in
    let long : byte_len w ≤ length bytes = ltb-false _ _ g.0 in
    let is = ok_is (from_be_bytes w (take (byte_len w) bytes), drop (byte_len w) bytes) x g.1 in
    let front : to_be_bytes w (from_be_bytes w (take (byte_len w) bytes)) ≡ take (byte_len w) bytes = wide.back (take (byte_len w) bytes) (omega (arith, length-take (byte_len w) bytes)) (AreBytes-take (byte_len w) bytes fits) in
    subst (λ (y : ℕ × List ℕ). Takes bytes (to_be_bytes w y.0) y.1 × (y.0 < limit)) is
    (record { parts = rw front (sym (take-append-drop (byte_len w) bytes)); rest_fits = AreBytes-drop (byte_len w) bytes fits }, wide.below (take (byte_len w) bytes) (AreBytes-take (byte_len w) bytes fits))

number_again : (w : Width) (limit : ℕ) (wide : IsWide w limit) (n : ℕ) (rest : List ℕ) → n < limit → number_at w (to_be_bytes w n ++ rest) ≡ Ok (n, rest)
number_again w limit wide n rest lt =
    let len = wide.len n in
    let long : ltb (length (to_be_bytes w n ++ rest)) (byte_len w) ≡ false = le-ltb _ _ (omega (arith, length-append (to_be_bytes w n) rest)) in
    rw (long, take_at (to_be_bytes w n) rest (byte_len w) len, drop_at (to_be_bytes w n) rest (byte_len w) len, wide.again n lt) refl

pub u64_takes : (bytes : List ℕ) (x : ℕ × List ℕ) → AreBytes bytes → number_at w64 bytes ≡ Ok x → Takes bytes (be64 x.0) x.1 × (x.0 < 2 ^ 64)
unfolding be64
u64_takes bytes x fits e = number_takes w64 (2 ^ 64) wide64 bytes x fits e

pub u64_again : (n : ℕ) (rest : List ℕ) → n < 2 ^ 64 → number_at w64 (be64 n ++ rest) ≡ Ok (n, rest)
unfolding be64
u64_again n rest lt = number_again w64 (2 ^ 64) wide64 n rest lt

pub u32_takes : (bytes : List ℕ) (x : ℕ × List ℕ) → AreBytes bytes → number_at w32 bytes ≡ Ok x → Takes bytes (be32 x.0) x.1 × (x.0 < 2 ^ 32)
unfolding be32
u32_takes bytes x fits e = number_takes w32 (2 ^ 32) wide32 bytes x fits e

pub u32_again : (n : ℕ) (rest : List ℕ) → n < 2 ^ 32 → number_at w32 (be32 n ++ rest) ≡ Ok (n, rest)
unfolding be32
u32_again n rest lt = number_again w32 (2 ^ 32) wide32 n rest lt

-- ---- signed numbers

pub signed_takes : (bytes : List ℕ) (x : ℤ × List ℕ) → AreBytes bytes → signed_at bytes ≡ Ok x → Takes bytes (signed64 x.0) x.1 × FitsSigned w64 x.0
unfolding signed_at signed64 be64
signed_takes bytes x fits e =
    let b = bind_ok (number_at w64 bytes) (λ n. Ok (cast_signed w64 n.0, n.1)) x e in
    let t = u64_takes bytes b.0 fits b.1 in
    let same : cast_unsigned w64 (cast_signed w64 b.0.0) ≡ b.0.0 = of_z-to_z w64 b.0.0 t.1 in
    subst (λ (y : ℤ × List ℕ). Takes bytes (signed64 y.0) y.1 × FitsSigned w64 y.0) (ok_is (cast_signed w64 b.0.0, b.0.1) x b.2)
    (subst (λ (n : ℕ). Takes bytes (be64 n) b.0.1) (sym same) t.0, sfits_to_z (Fits-of_lt t.1))

unsigned_below : (z : ℤ) → FitsSigned w64 z → cast_unsigned w64 z < 2 ^ 64
unsigned_below z fits = omega (arith, ints)

pub signed_again : (z : ℤ) (rest : List ℕ) → FitsSigned w64 z → signed_at (signed64 z ++ rest) ≡ Ok (z, rest)
unfolding signed_at signed64 be64
signed_again z rest fits = rw (u64_again (cast_unsigned w64 z) rest (unsigned_below z fits)) (ap (λ (y : ℤ). Ok (y, rest)) (to_z-of_z w64 z fits))

-- ---- texts and names

pub text_takes : (bytes : List ℕ) (x : List ℕ × List ℕ) → AreBytes bytes → text_at bytes ≡ Ok x → Takes bytes (text_bytes x.0) x.1 × IsText x.0
unfolding text_at
text_takes bytes x fits e =
    let b = bind_ok (number_at w32 bytes) (λ n. cond (ltb (length n.1) n.0) (Err (length bytes)) (cond (is_utf8 (take n.0 n.1)) (Ok (take n.0 n.1, drop n.0 n.1)) (Err (length bytes)))) x e in
    let n = b.0 in
    let t = u32_takes bytes n fits b.1 in
    let g = passed (ltb (length n.1) n.0) (cond (is_utf8 (take n.0 n.1)) (Ok (take n.0 n.1, drop n.0 n.1)) (Err (length bytes))) (length bytes) x b.2 in
    let h = passes (is_utf8 (take n.0 n.1)) (length bytes) (take n.0 n.1, drop n.0 n.1) x g.1 in
    let long : n.0 ≤ length n.1 = ltb-false _ _ g.0 in
    let len : length (take n.0 n.1) ≡ n.0 = omega (arith, length-take n.0 n.1) in
    let second : Takes n.1 (take n.0 n.1) (drop n.0 n.1) = record { parts = sym (take-append-drop n.0 n.1); rest_fits = AreBytes-drop n.0 n.1 t.0.rest_fits } in
    let both = Takes-then bytes (be32 n.0) n.1 (take n.0 n.1) (drop n.0 n.1) t.0 second in
    subst (λ (y : List ℕ × List ℕ). Takes bytes (text_bytes y.0) y.1 × IsText y.0) h.1
    (subst (λ (k : ℕ). Takes bytes (be32 k ++ take n.0 n.1) (drop n.0 n.1)) (sym len) both, record { utf8 = IsUtf8-from_is_utf8 (take n.0 n.1) h.0; short = omega (arith, t.1) })

pub text_again : (bytes rest : List ℕ) → IsText bytes → text_at (text_bytes bytes ++ rest) ≡ Ok (bytes, rest)
unfolding text_at
text_again bytes rest fits =
    let regrouped : text_bytes bytes ++ rest ≡ be32 (length bytes) ++ (bytes ++ rest) = append_assoc (be32 (length bytes)) bytes rest in
    let long : ltb (length (bytes ++ rest)) (length bytes) ≡ false = le-ltb _ _ (omega (arith, length-append bytes rest)) in
    let utf8 : is_utf8 bytes ≡ true = is_utf8-from_IsUtf8 bytes fits.utf8 in
    ap text_at regrouped ∙ rw (u32_again (length bytes) (bytes ++ rest) fits.short, long, take_at bytes rest (length bytes) refl, drop_at bytes rest (length bytes) refl, utf8) refl

pub name_takes : (bytes : List ℕ) (x : List ℕ × List ℕ) → AreBytes bytes → name_at bytes ≡ Ok x → Takes bytes (text_bytes x.0) x.1 × IsName x.0
unfolding name_at
name_takes bytes x fits e =
    let a = bind_ok (text_at bytes) (λ n. cond (is_name n.0) (Ok n) (Err (length bytes))) x e in
    let h = passes (is_name a.0.0) (length bytes) a.0 x a.2 in
    let t = text_takes bytes a.0 fits a.1 in
    subst (λ (y : List ℕ × List ℕ). Takes bytes (text_bytes y.0) y.1 × IsName y.0) h.1 (t.0, record { utf8 = t.1.utf8; fits = h.0 })

-- a name is a text
pub IsText-from_IsName : (name : List ℕ) → IsName name → IsText name
IsText-from_IsName name is =
    let parts = and_parts (ltb 0 (length name)) (ltb (length name) 256) is.fits in
    let below : length name < 256 = ltb-true _ _ parts.1 in
    record { utf8 = is.utf8; short = omega arith }

pub name_again : (name rest : List ℕ) → IsName name → name_at (text_bytes name ++ rest) ≡ Ok (name, rest)
unfolding name_at
name_again name rest is = rw (text_again name rest (IsText-from_IsName name is), is.fits) refl

-- ---- what tells bytes that are UTF-8

pub not_utf8 : (bytes : List ℕ) → ¬ (IsUtf8 bytes) → is_utf8 bytes ≡ false
not_utf8 bytes isnt = false_from_ne_true (is_utf8 bytes) (λ e. isnt (IsUtf8-from_is_utf8 bytes e))

pub utf8_found : (bytes : List ℕ) → IsUtf8 bytes → is_utf8 bytes ≡ true
utf8_found bytes is = is_utf8-from_IsUtf8 bytes is

-- ---- forms of one length

-- two prefixes of one length are one
pub same_front : (a b x y : List ℕ) → length a ≡ length b → a ++ x ≡ b ++ y → (a ≡ b) × (x ≡ y)
same_front a b x y len e = (
  sym (take_at a x (length b) len) ∙ ap (take (length b)) e ∙ take_at b y (length b) refl,
  sym (drop_at a x (length b) len) ∙ ap (drop (length b)) e ∙ drop_at b y (length b) refl,
)
