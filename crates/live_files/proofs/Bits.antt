-- Bits in bytes: what was packed is unpacked, and what was unpacked is packed.
use Rattle.std.proofs.Common.{◌≡◌, ℕ, zero, suc, ◌+◌, ◌-◌, ◌*◌, ◌<◌, ◌≤◌, Bool, true, false, ◌||◌, eqb, List, [], ◌∷◌, ◌++◌, length, take, drop, refl, sym, ap, subst, ◌∙◌, append_assoc, arith}
use Rattle.std.specs.Prelude.{◌/◌, ◌%◌, ⊤, if◌then◌else◌}
use Rattle.std.specs.List.{flat_map}
use Rattle.std.proofs.Math.Seq.{drop-nil}
use Rattle.std.proofs.lemmas.Bool.{eq-eqb, or_parts, or_from}
use Rattle.std.proofs.lemmas.List.{append-nil, take_at, drop_at, length-append, length-drop}
use Rattle.std.proofs.lemmas.List.Concat.{flat_map-cons}
use Rattle.ix_base.proofs.CodecLaws.{AreBytes-drop}
use Rattle.ix_base.specs.Spelling.{AreBytes}
use Rattle.live_files.specs.LiveSpelling.{bit_value, byte_count, bytes_of_bits}
use Rattle.live_files.specs.LiveFits.{has_bit}
use Rattle.live_files.specs.LiveReading.{low_bits, byte_bits}

-- ---- lists of bits with 0 behind them

-- the second list is the first one, and then bits that are 0
abbrev pub Pads : List Bool → List Bool → Type 0
Pads [] [] = ⊤
Pads [] (y ∷ ys) = (y ≡ false) × Pads [] ys
Pads (x ∷ xs) [] = ⊥
Pads (x ∷ xs) (y ∷ ys) = (x ≡ y) × Pads xs ys

abbrev pub bit_number : Bool → ℕ
bit_number bit = if bit then 1 else 0

pads_drop : (n : ℕ) (xs ys : List Bool) → Pads xs ys → Pads (drop n xs) (drop n ys)
pads_drop zero xs ys p = p
pads_drop (suc n) [] [] p = tt
pads_drop (suc n) [] (y ∷ ys) p = subst (λ (l : List Bool). Pads l (drop n ys)) (drop-nil n) (pads_drop n [] ys p.1)
pads_drop (suc n) (x ∷ xs) [] p = absurd p
pads_drop (suc n) (x ∷ xs) (y ∷ ys) p = pads_drop n xs ys p.1

no_value : (n : ℕ) (ys : List Bool) → Pads [] ys → bit_value (take n ys) ≡ 0
no_value zero ys p = refl
no_value (suc n) [] p = refl
no_value (suc n) (y ∷ ys) p =
    let first : bit_number y ≡ 0 = ap bit_number p.0 in
    let others : bit_value (take n ys) ≡ 0 = no_value n ys p.1 in
    omega arith

pads_value : (n : ℕ) (xs ys : List Bool) → Pads xs ys → bit_value (take n xs) ≡ bit_value (take n ys)
pads_value zero xs ys p = refl
pads_value (suc n) [] ys p = sym (no_value (suc n) ys p)
pads_value (suc n) (x ∷ xs) [] p = absurd p
pads_value (suc n) (x ∷ xs) (y ∷ ys) p =
    let first : bit_number x ≡ bit_number y = ap bit_number p.0 in
    let others : bit_value (take n xs) ≡ bit_value (take n ys) = pads_value n xs ys p.1 in
    omega arith

-- bits that are 0 at the end change no byte
pub pads_bytes : (n : ℕ) (xs ys : List Bool) → Pads xs ys → bytes_of_bits n xs ≡ bytes_of_bits n ys
pads_bytes zero xs ys p = refl
pads_bytes (suc n) xs ys p =
    ap (λ (v : ℕ). v ∷ bytes_of_bits n (drop 8 xs)) (pads_value 8 xs ys p)
    ∙ ap (λ (l : List ℕ). bit_value (take 8 ys) ∷ l) (pads_bytes n (drop 8 xs) (drop 8 ys) (pads_drop 8 xs ys p))

none_pads : (xs : List Bool) → has_bit xs ≡ false → Pads [] xs
none_pads [] e = tt
none_pads (x ∷ xs) e = let h = or_parts x (has_bit xs) e in (h.0, none_pads xs h.1)

pads_none : (ys : List Bool) → Pads [] ys → has_bit ys ≡ false
pads_none [] p = refl
pads_none (y ∷ ys) p = or_from y (has_bit ys) p.0 (pads_none ys p.1)

pub take_pads : (n : ℕ) (xs : List Bool) → has_bit (drop n xs) ≡ false → Pads (take n xs) xs
take_pads zero xs e = none_pads xs e
take_pads (suc n) [] e = tt
take_pads (suc n) (x ∷ xs) e = (refl, take_pads n xs e)

pub pads_take : (xs ys : List Bool) → Pads xs ys → take (length xs) ys ≡ xs
pads_take [] ys p = refl
pads_take (x ∷ xs) [] p = absurd p
pads_take (x ∷ xs) (y ∷ ys) p = ap (λ (b : Bool). b ∷ take (length xs) ys) (sym p.0) ∙ ap (λ (l : List Bool). x ∷ l) (pads_take xs ys p.1)

pub pads_rest : (xs ys : List Bool) → Pads xs ys → has_bit (drop (length xs) ys) ≡ false
pads_rest [] ys p = pads_none ys p
pads_rest (x ∷ xs) [] p = absurd p
pads_rest (x ∷ xs) (y ∷ ys) p = pads_rest xs ys p.1

pub pads_has : (xs ys : List Bool) → Pads xs ys → has_bit xs ≡ has_bit ys
pads_has [] ys p = sym (pads_none ys p)
pads_has (x ∷ xs) [] p = absurd p
pads_has (x ∷ xs) (y ∷ ys) p = ap (λ (b : Bool). b || has_bit xs) p.0 ∙ ap (λ (b : Bool). y || b) (pads_has xs ys p.1)

-- ---- bytes to bits and back

odd_number : (r : ℕ) → r < 2 → bit_number (eqb r 1) ≡ r
odd_number zero lt = refl
odd_number (suc zero) lt = refl
odd_number (suc (suc r)) lt = absurd (omega arith)

-- a number is that of its bits, where there are enough of them
fits_bits : ℕ → ℕ
fits_bits zero = 1
fits_bits (suc n) = 2 * fits_bits n

low_value : (n b : ℕ) → b < fits_bits n → bit_value (low_bits n b) ≡ b
unfolding fits_bits
low_value zero b lt = omega arith
low_value (suc n) b lt =
    let half : b / 2 < fits_bits n = omega arith in
    let others : bit_value (low_bits n (b / 2)) ≡ b / 2 = low_value n (b / 2) half in
    let first : bit_number (eqb (b % 2) 1) ≡ b % 2 = odd_number (b % 2) (omega arith) in
    omega arith

byte_value : (b : ℕ) → b < 256 → bit_value (byte_bits b) ≡ b
unfolding byte_bits fits_bits
byte_value b lt = low_value 8 b lt

low_length : (n b : ℕ) → length (low_bits n b) ≡ n
low_length zero b = refl
low_length (suc n) b = ap suc (low_length n (b / 2))

byte_length : (b : ℕ) → length (byte_bits b) ≡ 8
unfolding byte_bits
byte_length b = low_length 8 b

pub all_length : (bytes : List ℕ) → length (flat_map byte_bits bytes) ≡ 8 * length bytes
all_length [] = refl
all_length (b ∷ bs) =
    let e : length (flat_map byte_bits (b ∷ bs)) ≡ length (byte_bits b ++ flat_map byte_bits bs) = ap length (flat_map-cons byte_bits b bs) in
    omega (arith, e, length-append (byte_bits b) (flat_map byte_bits bs), byte_length b, all_length bs)

-- the bits of bytes make these bytes
pub all_packed : (bytes : List ℕ) → AreBytes bytes → bytes_of_bits (length bytes) (flat_map byte_bits bytes) ≡ bytes
all_packed [] fits = refl
all_packed (b ∷ bs) fits =
    let rest = flat_map byte_bits bs in
    ap (bytes_of_bits (suc (length bs))) (flat_map-cons byte_bits b bs)
    ∙ ap (λ (l : List Bool). bit_value l ∷ bytes_of_bits (length bs) (drop 8 (byte_bits b ++ rest))) (take_at (byte_bits b) rest 8 (byte_length b))
    ∙ ap (λ (l : List Bool). bit_value (byte_bits b) ∷ bytes_of_bits (length bs) l) (drop_at (byte_bits b) rest 8 (byte_length b))
    ∙ ap (λ (v : ℕ). v ∷ bytes_of_bits (length bs) rest) (byte_value b (fits 0))
    ∙ ap (λ (l : List ℕ). b ∷ l) (all_packed bs (AreBytes-drop 1 (b ∷ bs) fits))

half_of : (b : Bool) (m : ℕ) → (bit_number b + 2 * m) / 2 ≡ m
half_of true m = omega arith
half_of false m = omega arith

first_of_number : (b : Bool) (m : ℕ) → b ≡ eqb ((bit_number b + 2 * m) % 2) 1
first_of_number true m = let e : (1 + 2 * m) % 2 ≡ 1 = omega arith in sym (eq-eqb ((1 + 2 * m) % 2) 1 e)
first_of_number false m = let e : (0 + 2 * m) % 2 ≡ 0 = omega arith in sym (ap (λ (r : ℕ). eqb r 1) e)

zero_block : (n : ℕ) (rest : List Bool) → Pads [] rest → Pads [] (low_bits n 0 ++ rest)
zero_block zero rest p = p
zero_block (suc n) rest p = (refl, zero_block n rest p)

block : (n : ℕ) (bits rest : List Bool) → Pads (drop n bits) rest → Pads bits (low_bits n (bit_value (take n bits)) ++ rest)
block zero bits rest p = p
block (suc n) [] rest p = zero_block (suc n) rest p
block (suc n) (b ∷ bs) rest p =
    (first_of_number b (bit_value (take n bs)), subst (λ (k : ℕ). Pads bs (low_bits n k ++ rest)) (sym (half_of b (bit_value (take n bs)))) (block n bs rest p))

byte_block : (bits rest : List Bool) → Pads (drop 8 bits) rest → Pads bits (byte_bits (bit_value (take 8 bits)) ++ rest)
unfolding byte_bits
byte_block bits rest p = block 8 bits rest p

-- the bits of the bytes that hold bits are those, and then bits that are 0
pub packed_pads : (n : ℕ) (bits : List Bool) → length bits ≤ 8 * n → Pads bits (flat_map byte_bits (bytes_of_bits n bits))
packed_pads zero [] le = tt
packed_pads zero (b ∷ bs) le = absurd (omega arith)
packed_pads (suc n) bits le =
    let value = bit_value (take 8 bits) in
    let others = bytes_of_bits n (drop 8 bits) in
    subst (Pads bits) (sym (flat_map-cons byte_bits value others))
    (byte_block bits (flat_map byte_bits others) (packed_pads n (drop 8 bits) (omega (arith, length-drop 8 bits))))

pub bytes_count : (n : ℕ) (bits : List Bool) → length (bytes_of_bits n bits) ≡ n
bytes_count zero bits = refl
bytes_count (suc n) bits = ap suc (bytes_count n (drop 8 bits))

-- there are bytes for all bits
pub enough : (n : ℕ) → n ≤ 8 * byte_count n
enough n = omega arith

-- ---- the loop over a byte's bits

pub one_bit : (front whole : List Bool) (n i number : ℕ) → i < n → front ++ low_bits (n - i) number ≡ whole
    → (front ++ eqb (number % 2) 1 ∷ []) ++ low_bits (n - (i + 1)) (number / 2) ≡ whole
one_bit front whole n i number lt is =
    let k : n - i ≡ suc (n - (i + 1)) = omega arith in
    append_assoc front (eqb (number % 2) 1 ∷ []) (low_bits (n - (i + 1)) (number / 2)) ∙ ap (λ (j : ℕ). front ++ low_bits j number) (sym k) ∙ is

pub no_bit_left : (front whole : List Bool) (n i number : ℕ) → n ≤ i → front ++ low_bits (n - i) number ≡ whole → front ≡ whole
no_bit_left front whole n i number le is =
    let k : n - i ≡ 0 = omega arith in
    sym (append-nil front) ∙ ap (λ (j : ℕ). front ++ low_bits j number) (sym k) ∙ is

pub first_bits : (front : List Bool) (byte : ℕ) → front ++ low_bits (8 - 0) byte ≡ front ++ byte_bits byte
unfolding byte_bits
first_bits front byte = refl

-- bytes that hold bits for all rows
pub rows_there : (n : ℕ) (found : List ℕ) (bits : List Bool) → length found ≡ byte_count n → bits ≡ flat_map byte_bits found → n ≤ length bits
rows_there n found bits count is = omega (arith, ap length is, all_length found, enough n)
