-- The bytes of live bits, as a loop over the rows of a byte and one over bytes make them.
use Rattle.std.proofs.Common.{◌≡◌, ℕ, zero, suc, ◌+◌, ◌-◌, ◌*◌, ◌<◌, ◌≤◌, Bool, true, false, ◌||◌, cond, List, [], ◌∷◌, ◌++◌, length, take, drop, get_or, min, refl, sym, ap, ◌∙◌, append_assoc, arith, inl, inr}
use Rattle.std.specs.Int.{from_bool}
use Rattle.std.specs.List.{filter}
use Rattle.std.proofs.Math.Seq.{drop-cons}
use Rattle.std.proofs.lemmas.Bool.{cases_lt}
use Rattle.std.proofs.lemmas.List.{drop-drop, get_or-map, length-map, length-drop, take_all}
use Rattle.live_docs.specs.Marks.{fresh, count_live}
use Rattle.live_docs.specs.declared.live_docs.Mark.{Mark}
use Rattle.live_files.specs.LiveFits.{has_bit, LiveFits}
use Rattle.live_files.specs.LiveSpelling.{bit_value, byte_count, bytes_of_bits, live_bits, live_bytes}
use Rattle.live_files.proofs.Bits.{bit_number}

-- ---- the rows of a byte

from_bit : (b : Bool) → from_bool b ≡ bit_number b
from_bit true = refl
from_bit false = refl

-- the byte of the rows from the next one up to the end, with this row before them
pub one_row : (marks : List Mark) (end next row byte bit : ℕ) → next ≡ row + 1 → next ≤ end → end ≤ length marks → byte ≡ bit_value (take (end - next) (drop next (live_bits marks)))
    → bit ≡ from_bool (get_or marks row fresh).live → byte * 2 + bit ≡ bit_value (take (end - row) (drop row (live_bits marks)))
one_row marks end next row byte bit follows le within is bit-is =
    let bits = live_bits marks in
    let rest = take (end - suc row) (drop (suc row) bits) in
    let there : row < length marks = omega arith in
    let here : get_or bits row true ≡ (get_or marks row fresh).live = get_or-map (λ (m : Mark). m.live) marks row fresh true there in
    let inside : row < length bits = omega (arith, length-map marks (λ (m : Mark). m.live)) in
    let first : bit ≡ bit_number (get_or bits row true) = bit-is ∙ from_bit (get_or marks row fresh).live ∙ ap bit_number (sym here) in
    let n : next ≡ suc row = omega arith in
    let others : byte ≡ bit_value rest = is ∙ ap (λ (i : ℕ). bit_value (take (end - i) (drop i bits))) n in
    let k : suc (end - suc row) ≡ end - row = omega arith in
    let sum : byte * 2 + bit ≡ bit_number (get_or bits row true) + 2 * bit_value rest = omega (arith, first, others) in
    sum ∙ sym (ap (λ (l : List Bool). bit_value (take (suc (end - suc row)) l)) (drop-cons bits row true inside)) ∙ ap (λ (j : ℕ). bit_value (take j (drop row bits))) k

pub from_small : (b : Bool) → from_bool b ≤ 1
from_small true = omega arith
from_small false = omega arith

-- so many bits have a value below this
limit : ℕ → ℕ
limit zero = 1
limit (suc n) = 2 * limit n

limit_some : (n : ℕ) → 0 < limit n
unfolding limit
limit_some zero = omega arith
limit_some (suc n) = omega (arith, limit_some n)

value_below : (most n : ℕ) (bits : List Bool) → n ≤ most → bit_value (take n bits) < limit most
unfolding limit
value_below most zero bits le = limit_some most
value_below most (suc n) [] le = limit_some most
value_below zero (suc n) (b ∷ bs) le = absurd (omega arith)
value_below (suc most) (suc n) (b ∷ bs) le = let h = value_below most n bs (omega arith) in omega (arith, from_small b, from_bit b, h)

pub seven_below : (n : ℕ) (bits : List Bool) → n ≤ 7 → bit_value (take n bits) < 128
unfolding limit
seven_below n bits le = value_below 7 n bits le

-- the bits of eight rows, where there may be fewer
pub rows_of_byte : (marks : List Mark) (rows first last : ℕ) → rows ≡ length marks → first ≤ rows → last ≡ first + min (rows - first) 8
    → bit_value (take (last - first) (drop first (live_bits marks))) ≡ bit_value (take 8 (drop first (live_bits marks)))
rows_of_byte marks rows first last count le is =
    let bits = live_bits marks in
    let long : length (drop first bits) ≡ rows - first = omega (arith, length-drop first bits, length-map marks (λ (m : Mark). m.live)) in
    elim (cases_lt (rows - first) 8) [
      | inl lt ↦ ap bit_value (take_all (last - first) (drop first bits) (omega (arith, long)) ∙ sym (take_all 8 (drop first bits) (omega (arith, long))))
      | inr ge ↦ let eight : last - first ≡ 8 = omega arith in ap (λ (n : ℕ). bit_value (take n (drop first bits))) eight
    ]

-- ---- bytes one after the other

next_byte : (n : ℕ) (bits : List Bool) → bytes_of_bits (suc n) bits ≡ bytes_of_bits n bits ++ bit_value (take 8 (drop (8 * n) bits)) ∷ []
next_byte zero bits = refl
next_byte (suc n) bits =
    let k : 8 + 8 * n ≡ 8 * suc n = omega arith in
    ap (λ (l : List ℕ). bit_value (take 8 bits) ∷ l) (next_byte n (drop 8 bits))
    ∙ ap (λ (l : List Bool). bit_value (take 8 bits) ∷ (bytes_of_bits n (drop 8 bits) ++ bit_value (take 8 l) ∷ [])) (drop-drop (8 * n) 8 bits ∙ ap (λ (i : ℕ). drop i bits) k)

pub one_byte : (bits : List Bool) (old before now : List ℕ) (n byte : ℕ) → before ≡ old ++ bytes_of_bits n bits → byte ≡ bit_value (take 8 (drop (n * 8) bits)) → now ≡ before ++ byte ∷ [] → now ≡ old ++ bytes_of_bits (n + 1) bits
one_byte bits old before now n byte was is pushed =
    let k : n * 8 ≡ 8 * n = omega arith in
    let one : n + 1 ≡ suc n = omega arith in
    let value : byte ≡ bit_value (take 8 (drop (8 * n) bits)) = is ∙ ap (λ (i : ℕ). bit_value (take 8 (drop i bits))) k in
    pushed
    ∙ ap (λ (l : List ℕ). l ++ byte ∷ []) was
    ∙ append_assoc old (bytes_of_bits n bits) (byte ∷ [])
    ∙ ap (λ (v : ℕ). old ++ (bytes_of_bits n bits ++ v ∷ [])) value
    ∙ ap (λ (l : List ℕ). old ++ l) (sym (next_byte n bits))
    ∙ ap (λ (i : ℕ). old ++ bytes_of_bits i bits) (sym one)

pub all_bytes : (marks : List Mark) (old now : List ℕ) (rows n : ℕ) → rows ≡ length marks → n ≡ byte_count rows → now ≡ old ++ bytes_of_bits n (live_bits marks) → now ≡ old ++ live_bytes (live_bits marks)
all_bytes marks old now rows n count is was =
    was ∙ ap (λ (i : ℕ). old ++ bytes_of_bits i (live_bits marks)) (is ∙ ap byte_count (count ∙ sym (length-map marks (λ (m : Mark). m.live))))

-- ---- at least one row lives

step : (m : Mark) (others : List Mark) (rest b : Bool) → (1 ≤ length others → rest ≡ true) → 1 ≤ length (cond b (m ∷ others) others) → (b || rest) ≡ true
step m others rest true more some = refl
step m others rest false more some = more some

some_bit : (marks : List Mark) → 1 ≤ count_live marks → has_bit (live_bits marks) ≡ true
some_bit [] le = absurd (omega arith)
some_bit (m ∷ marks) le = step m (filter (λ (x : Mark). x.live) marks) (has_bit (live_bits marks)) m.live (some_bit marks) le

pub live_fits : (n : ℕ) (marks : List Mark) → n ≡ length marks → 1 ≤ count_live marks → LiveFits n (live_bits marks)
live_fits n marks count some = record { count = length-map marks (λ (m : Mark). m.live) ∙ sym count; some = some_bit marks some }
