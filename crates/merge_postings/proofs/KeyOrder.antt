-- Keys are ordered as the texts are.
use Rattle.std.proofs.Common.{◌≡◌, ◌∙◌, ℕ, zero, suc, ◌+◌, ◌*◌, ◌%◌, ◌^◌, ◌<◌, ◌≤◌, List, [], ◌∷◌, length, drop, get_or, ◌⊎◌, inl, inr, refl, sym, ap, subst, arith}
use Rattle.std.specs.Cmp.Lexicographic.{slice_cmp}
use Rattle.std.specs.Ordering.{MatchOrdering, nat_cmp, ordering_reverse, ordering_then}
use Rattle.std.specs.declared.cmp.Ordering.{Ordering}
use Rattle.std.specs.declared.cmp.Ordering.TheVariants.{Less, Equal, Greater}
use Rattle.std.proofs.lemmas.Bool.{cases_lt}
use Rattle.std.proofs.lemmas.List.{get_or-drop}
use Rattle.std.proofs.lemmas.Cmp.{nat_list_cmp_total, ranked}
use Rattle.ix_base.specs.Spelling.{AreBytes}
use Rattle.merge_postings.specs.Keys.{IsKey, key}

-- ---- numbers

nat_less : (x y : ℕ) → x < y → nat_cmp x y ≡ Less
nat_less x y lt = go (nat_cmp x y) (ranked x y (nat_cmp x y) refl)
  where
    go : (o : Ordering) → MatchOrdering o (x < y) (x ≡ y) (y < x) → o ≡ Less
    go Less m = refl
    go Equal m = absurd (omega (arith, m))
    go Greater m = absurd (omega (arith, m))

nat_equal : (x y : ℕ) → x ≡ y → nat_cmp x y ≡ Equal
nat_equal x y e = go (nat_cmp x y) (ranked x y (nat_cmp x y) refl)
  where
    go : (o : Ordering) → MatchOrdering o (x < y) (x ≡ y) (y < x) → o ≡ Equal
    go Less m = absurd (omega (arith, m))
    go Equal m = refl
    go Greater m = absurd (omega (arith, m))

same_parts : (a b x y : ℕ) → x < 256 → y < 256 → a * 256 + x ≡ b * 256 + y → (a ≡ b) × (x ≡ y)
same_parts a b x y p q e = (omega arith, omega arith)

less_parts : (a b x y : ℕ) → x < 256 → y < 256 → a * 256 + x < b * 256 + y → b ≤ a → (a ≡ b) × (x < y)
less_parts a b x y p q l g = (omega arith, omega arith)

-- ---- keys

-- where the first seven bytes are the same, or are missing as 0 is
pub key_seven : (xs ys : List ℕ)
    → get_or xs 0 0 ≡ get_or ys 0 0 → get_or xs 1 0 ≡ get_or ys 1 0 → get_or xs 2 0 ≡ get_or ys 2 0 → get_or xs 3 0 ≡ get_or ys 3 0
    → get_or xs 4 0 ≡ get_or ys 4 0 → get_or xs 5 0 ≡ get_or ys 5 0 → get_or xs 6 0 ≡ get_or ys 6 0
    → key 7 xs ≡ key 7 ys
unfolding key
key_seven xs ys a b c d e f g =
    λ i. ((((((0 * 256 + a i) * 256 + b i) * 256 + c i) * 256 + d i) * 256 + e i) * 256 + f i) * 256 + g i

pub beyond : (xs : List ℕ) (n : ℕ) → length xs ≤ n → 0 ≡ get_or xs n 0
beyond [] n le = refl
beyond (x ∷ xs) zero le = absurd (omega arith)
beyond (x ∷ xs) (suc n) le = beyond xs n (omega arith)

-- the first fifteen bytes by the first eight and the seven behind them
pub key_split : (bytes : List ℕ) → key 15 bytes ≡ key 8 bytes * 2 ^ 56 + key 7 (drop 8 bytes)
unfolding key
key_split bytes = omega (arith, get_or-drop 8 bytes 0 0, get_or-drop 8 bytes 1 0, get_or-drop 8 bytes 2 0, get_or-drop 8 bytes 3 0, get_or-drop 8 bytes 4 0, get_or-drop 8 bytes 5 0, get_or-drop 8 bytes 6 0)

pub short_key : (bytes text : List ℕ) (high next : ℕ) → bytes ≡ text → high ≡ key 8 bytes → next ≡ key 7 (drop 8 bytes) → AreBytes bytes → length bytes < 16
    → IsKey (high * 2 ^ 64 + (next * 256 + length bytes)) text
short_key bytes text high next same is more fit short =
    subst (IsKey (high * 2 ^ 64 + (next * 256 + length bytes))) same
    (record { short = λ _. omega (arith, is, more, key_split bytes); long = λ g. absurd (omega (arith, short, g)); bytes_are = fit })

pub long_key : (bytes text : List ℕ) (high next : ℕ) → bytes ≡ text → high ≡ key 8 bytes → next ≡ key 7 (drop 8 bytes) → AreBytes bytes → 16 ≤ length bytes
    → IsKey (high * 2 ^ 64 + (next * 256 + 16)) text
long_key bytes text high next same is more fit long =
    subst (IsKey (high * 2 ^ 64 + (next * 256 + 16))) same
    (record { short = λ l. absurd (omega (arith, long, l)); long = λ _. omega (arith, is, more, key_split bytes); bytes_are = fit })

-- a byte more, or none where there is none
pub key_eight : (bytes : List ℕ) (seven byte : ℕ) → seven ≡ key 7 bytes → byte ≡ get_or bytes 7 0 → seven * 256 + byte ≡ key 8 bytes
unfolding key
key_eight bytes seven byte is last = λ i. is i * 256 + last i

upto_or : (n : ℕ) (xs ys : List ℕ) (i : ℕ) → i < suc n → (i < n → get_or xs i 0 ≡ get_or ys i 0) → get_or xs n 0 ≡ get_or ys n 0 → (i < n) ⊎ (n ≤ i) → get_or xs i 0 ≡ get_or ys i 0
upto_or n xs ys i lt before last (inl l) = before l
upto_or n xs ys i lt before last (inr g) =
    let is : i ≡ n = omega arith in
    ap (λ (j : ℕ). get_or xs j 0) is ∙ last ∙ ap (λ (j : ℕ). get_or ys j 0) (sym is)

same_upto : (n : ℕ) (xs ys : List ℕ) → AreBytes xs → AreBytes ys → key n xs ≡ key n ys → (i : ℕ) → i < n → get_or xs i 0 ≡ get_or ys i 0
unfolding key
same_upto zero xs ys p q e i lt = absurd (omega arith)
same_upto (suc n) xs ys p q e i lt =
    let both = same_parts (key n xs) (key n ys) (get_or xs n 0) (get_or ys n 0) (p n) (q n) e in
    upto_or n xs ys i lt (same_upto n xs ys p q both.0 i) both.1 (cases_lt i n)

-- the texts are one up to a place, where the first has the lower byte, or none
less_at : (n : ℕ) (xs ys : List ℕ) → ((i : ℕ) → i < n → get_or xs i 0 ≡ get_or ys i 0) → get_or xs n 0 < get_or ys n 0 → slice_cmp nat_cmp xs ys ≡ Less
less_at n xs [] same lt = absurd (omega arith)
less_at n [] (y ∷ ys) same lt = refl
less_at zero (x ∷ xs) (y ∷ ys) same lt = ap (λ (o : Ordering). ordering_then o (slice_cmp nat_cmp xs ys)) (nat_less x y lt)
less_at (suc n) (x ∷ xs) (y ∷ ys) same lt =
    ap (λ (o : Ordering). ordering_then o (slice_cmp nat_cmp xs ys)) (nat_equal x y (same 0 (omega arith)))
    ∙ less_at n xs ys (λ i h. same (suc i) (omega arith)) lt

less_or : (n : ℕ) (xs ys : List ℕ) → AreBytes xs → AreBytes ys → key n xs * 256 + get_or xs n 0 < key n ys * 256 + get_or ys n 0
    → (key n xs < key n ys → slice_cmp nat_cmp xs ys ≡ Less) → (key n xs < key n ys) ⊎ (key n ys ≤ key n xs) → slice_cmp nat_cmp xs ys ≡ Less
less_or n xs ys p q lt before (inl l) = before l
less_or n xs ys p q lt before (inr g) =
    let both = less_parts (key n xs) (key n ys) (get_or xs n 0) (get_or ys n 0) (p n) (q n) lt g in
    less_at n xs ys (same_upto n xs ys p q both.0) both.1

key_less : (n : ℕ) (xs ys : List ℕ) → AreBytes xs → AreBytes ys → key n xs < key n ys → slice_cmp nat_cmp xs ys ≡ Less
unfolding key
key_less zero xs ys p q lt = absurd (omega arith)
key_less (suc n) xs ys p q lt = less_or n xs ys p q lt (key_less n xs ys p q) (cases_lt (key n xs) (key n ys))

-- ---- texts

pub itself : (xs : List ℕ) → slice_cmp nat_cmp xs xs ≡ Equal
itself [] = refl
itself (x ∷ xs) = ap (λ (o : Ordering). ordering_then o (slice_cmp nat_cmp xs xs)) (nat_equal x x refl) ∙ itself xs

whole : (xs ys : List ℕ) → length xs ≡ length ys → ((i : ℕ) → i < length xs → get_or xs i 0 ≡ get_or ys i 0) → xs ≡ ys
whole [] [] long same = refl
whole [] (y ∷ ys) long same = absurd (omega arith)
whole (x ∷ xs) [] long same = absurd (omega arith)
whole (x ∷ xs) (y ∷ ys) long same =
    let first : x ≡ y = same 0 (omega arith) in
    let rest : xs ≡ ys = whole xs ys (omega arith) (λ i lt. same (suc i) (omega arith)) in
    λ i. first i ∷ rest i

-- a text of less than sixteen bytes comes before a longer one that begins with it
shorter_first : (xs ys : List ℕ) → length xs < length ys → ((i : ℕ) → i < length xs → get_or xs i 0 ≡ get_or ys i 0) → slice_cmp nat_cmp xs ys ≡ Less
shorter_first [] [] lt same = absurd (omega arith)
shorter_first [] (y ∷ ys) lt same = refl
shorter_first (x ∷ xs) [] lt same = absurd (omega arith)
shorter_first (x ∷ xs) (y ∷ ys) lt same =
    ap (λ (o : Ordering). ordering_then o (slice_cmp nat_cmp xs ys)) (nat_equal x y (same 0 (omega arith)))
    ∙ shorter_first xs ys (omega arith) (λ i h. same (suc i) (omega arith))

-- what stands behind a key's bytes
record End (number : ℕ) (bytes : List ℕ) : Type 0 where
  end : ℕ
  is : number ≡ key 15 bytes * 256 + end
  most : end ≤ 16
  short : end < 16 → length bytes ≡ end
  long : 16 ≤ end → 16 ≤ length bytes

end_of : (a : ℕ) (xs : List ℕ) → IsKey a xs → End a xs
end_of a xs h = go (cases_lt (length xs) 16)
  where
    go : (length xs < 16) ⊎ (16 ≤ length xs) → End a xs
    go (inl l) = record { end = length xs; is = h.short l; most = omega arith; short = λ _. refl; long = λ g. g }
    go (inr g) = record { end = 16; is = h.long g; most = omega arith; short = λ l. absurd (omega arith); long = λ _. g }

pub below_by_key : (a b : ℕ) (xs ys : List ℕ) → IsKey a xs → IsKey b ys → a < b → slice_cmp nat_cmp xs ys ≡ Less
below_by_key a b xs ys p q lt = go (cases_lt (key 15 xs) (key 15 ys))
  where
    ea : End a xs
    ea = end_of a xs p

    eb : End b ys
    eb = end_of b ys q

    go : (key 15 xs < key 15 ys) ⊎ (key 15 ys ≤ key 15 xs) → slice_cmp nat_cmp xs ys ≡ Less
    go (inl l) = key_less 15 xs ys p.bytes_are q.bytes_are l
    go (inr g) =
        let both = less_parts (key 15 xs) (key 15 ys) ea.end eb.end (omega (arith, ea.most)) (omega (arith, eb.most)) (omega (arith, lt, ea.is, eb.is)) g in
        let short : length xs ≡ ea.end = ea.short (omega (arith, both.1, eb.most)) in
        shorter_first xs ys (longer (cases_lt eb.end 16) both.1 short)
        (λ i h. same_upto 15 xs ys p.bytes_are q.bytes_are both.0 i (omega (arith, both.1, eb.most, short)))
      where
        longer : (eb.end < 16) ⊎ (16 ≤ eb.end) → ea.end < eb.end → length xs ≡ ea.end → length xs < length ys
        longer (inl l) less is = omega (arith, eb.short l)
        longer (inr m) less is = omega (arith, eb.long m, eb.most)

pub above_by_key : (a b : ℕ) (xs ys : List ℕ) → IsKey a xs → IsKey b ys → b < a → slice_cmp nat_cmp xs ys ≡ Greater
above_by_key a b xs ys p q lt = nat_list_cmp_total.antisymm xs ys ∙ ap ordering_reverse (below_by_key b a ys xs q p lt)

-- texts of one key that have at most fifteen bytes are one
pub same_by_key : (a b : ℕ) (xs ys : List ℕ) → IsKey a xs → IsKey b ys → a ≤ b → b ≤ a → b % 256 < 16 → slice_cmp nat_cmp xs ys ≡ Equal
same_by_key a b xs ys p q below above short =
    let ea : End a xs = end_of a xs p in
    let eb : End b ys = end_of b ys q in
    let both = same_parts (key 15 xs) (key 15 ys) ea.end eb.end (omega (arith, ea.most)) (omega (arith, eb.most)) (omega (arith, below, above, ea.is, eb.is)) in
    let less : ea.end < 16 = omega (arith, below, above, short, ea.is, ea.most) in
    let long : length xs ≡ length ys = omega (arith, ea.short less, eb.short (omega (arith, less, both.1)), both.1) in
    let same : xs ≡ ys = whole xs ys long (λ i lt. same_upto 15 xs ys p.bytes_are q.bytes_are both.0 i (omega (arith, ea.short less))) in
    ap (λ (l : List ℕ). slice_cmp nat_cmp xs l) (sym same) ∙ itself xs
