-- Bytes in words, and the same bytes again.
use Rattle.std.proofs.Common.{◌≡◌, ℕ, zero, suc, ◌+◌, ◌-◌, ◌*◌, ◌^◌, ◌<◌, ◌≤◌, List, [], ◌∷◌, ◌++◌, length, get_or, take, drop, replicate, refl, sym, ap, subst, ◌∙◌, append_assoc, arith, length-append, inl, inr}
use Rattle.std.proofs.lemmas.Bool.{cases_lt}
use Rattle.std.proofs.Math.Seq.{take-length, drop-append-add}
use Rattle.std.proofs.lemmas.Grind.{flat_map-append}
use Rattle.std.proofs.lemmas.List.{append-nil, drop_at, take-append-drop, length-take, length-drop, get_or-take, get_or_past, get_or-replicate, get_or_append_left, get_or-append_right, length-replicate, replicate-append-replicate, nil_from_length, ext_get_or}
use Rattle.std.proofs.lemmas.List.Concat.{flat_map-cons}
use Rattle.std.proofs.lemmas.Nat.{be_bytes_8}
use Rattle.std.specs.Int.{w64, from_be_bytes}
use Rattle.std.specs.List.{flat_map}
use Rattle.ix_base.proofs.EntryLaws.{length-words_in, head_again}
use Rattle.ix_base.proofs.CodecLaws.{AreBytes-take, AreBytes-drop}
use Rattle.ix_base.specs.Spelling.{be64, AreBytes}
use Rattle.ix_base.specs.Words.{first_word, words_in, words_for, packed, head, head_len, head_kind}
use Rattle.ix_base.proofs.CodecLaws.{same_front}
use Rattle.node_words.proofs.Forms.{one_word}
use Rattle.node_words.specs.Packed.{HoldsBytes}

-- ---- one word more

words_for-more : (len : ℕ) → 0 < len → words_for len ≡ suc (words_for (len - 8))
words_for-more len lt = omega arith

pub packed_more : (bytes : List ℕ) → 0 < length bytes → packed bytes ≡ first_word bytes ∷ packed (drop 8 bytes)
packed_more bytes lt =
    let k : words_for (length bytes) ≡ suc (words_for (length (drop 8 bytes))) = words_for-more (length bytes) lt ∙ ap (λ (n : ℕ). suc (words_for n)) (sym (length-drop 8 bytes)) in
    ap (λ (n : ℕ). words_in n bytes) k

pub goes_on : (words more : List ℕ) (word : ℕ) (rest after total : List ℕ) → 0 < length rest → more ≡ words ++ word ∷ [] → word ≡ first_word rest → after ≡ drop 8 rest
    → words ++ packed rest ≡ total → more ++ packed after ≡ total
goes_on words more word rest after total lt m w a e =
    ap (λ (t : List ℕ). t ++ packed after) m ∙ append_assoc words (word ∷ []) (packed after)
    ∙ ap (λ (t : List ℕ). words ++ t) (ap (λ (n : ℕ). n ∷ packed after) w ∙ ap (λ (t : List ℕ). first_word rest ∷ packed t) a ∙ sym (packed_more rest lt)) ∙ e

-- ---- the bytes of packed words

pub length-be64 : (n : ℕ) → length (be64 n) ≡ 8
unfolding be64
length-be64 n = refl

abbrev zeros : ℕ → List ℕ
zeros n = replicate n 0

word_same : (xs ys : List ℕ) → ((i : ℕ) → i < 8 → get_or xs i 0 ≡ get_or ys i 0) → from_be_bytes w64 xs ≡ from_be_bytes w64 ys
word_same xs ys same = omega (arith, same 0 (omega arith), same 1 (omega arith), same 2 (omega arith), same 3 (omega arith), same 4 (omega arith), same 5 (omega arith), same 6 (omega arith), same 7 (omega arith))

-- the first word's bytes
first_bytes : (bytes eight : List ℕ) → length eight ≡ 8 → AreBytes eight → ((i : ℕ) → i < 8 → get_or bytes i 0 ≡ get_or eight i 0) → be64 (first_word bytes) ≡ eight
unfolding be64 first_word
first_bytes bytes eight len fits same = be_bytes_8 eight _ len fits (word_same bytes eight same)

zero_at : (n i : ℕ) → get_or (zeros n) i 0 ≡ 0
zero_at n i =
    elim (cases_lt i n) [
      | inl lt ↦ get_or-replicate n i 0 0 lt
      | inr le ↦ get_or_past (zeros n) i 0 (omega (arith, length-replicate {A = ℕ} n 0))
    ]

filled_at : (bytes : List ℕ) (n i : ℕ) → get_or (bytes ++ zeros n) i 0 ≡ get_or bytes i 0
filled_at bytes n i =
    elim (cases_lt i (length bytes)) [
      | inl lt ↦ get_or_append_left bytes (zeros n) 0 i lt
      | inr le ↦ get_or-append_right bytes (zeros n) (length bytes) i 0 refl le ∙ zero_at n (i - length bytes) ∙ sym (get_or_past bytes i 0 le)
    ]

take_at_index : (bytes : List ℕ) (i : ℕ) → i < 8 → get_or bytes i 0 ≡ get_or (take 8 bytes) i 0
take_at_index bytes i lt = sym (get_or-take 8 bytes i 0 lt)

filled_fits : (bytes : List ℕ) (n : ℕ) → AreBytes bytes → AreBytes (bytes ++ zeros n)
filled_fits bytes n fits i = rw (filled_at bytes n i) (fits i)

whole_first : (bytes : List ℕ) → AreBytes bytes → 8 ≤ length bytes → be64 (first_word bytes) ≡ take 8 bytes
whole_first bytes fits le = first_bytes bytes (take 8 bytes) (omega (arith, length-take 8 bytes)) (AreBytes-take 8 bytes fits) (take_at_index bytes)

part_first : (bytes : List ℕ) → AreBytes bytes → length bytes < 8 → be64 (first_word bytes) ≡ bytes ++ zeros (8 - length bytes)
part_first bytes fits lt =
    first_bytes bytes (bytes ++ zeros (8 - length bytes)) (omega (arith, length-append bytes (zeros (8 - length bytes)), length-replicate {A = ℕ} (8 - length bytes) 0))
    (filled_fits bytes (8 - length bytes) fits) (λ i lt. sym (filled_at bytes (8 - length bytes) i))

sub-zero : (n : ℕ) → n - 0 ≡ n
sub-zero n = omega arith

past : (n : ℕ) (bytes : List ℕ) → length bytes ≤ n → drop n bytes ≡ []
past n bytes le = nil_from_length (drop n bytes) (omega (arith, length-drop n bytes))

-- the words' bytes are the bytes, and zeros after them
pub bytes_packed : (n : ℕ) (bytes : List ℕ) → AreBytes bytes → length bytes ≤ 8 * n → flat_map be64 (words_in n bytes) ≡ bytes ++ zeros (8 * n - length bytes)
bytes_packed zero bytes fits le =
    let none : bytes ≡ [] = nil_from_length bytes (omega arith) in
    subst (λ (bs : List ℕ). [] ≡ bs ++ zeros (8 * 0 - length bs)) (sym none) refl
bytes_packed (suc n) bytes fits le =
    let more = bytes_packed n (drop 8 bytes) (AreBytes-drop 8 bytes fits) (omega (arith, length-drop 8 bytes)) in
    flat_map-cons be64 (first_word bytes) (words_in n (drop 8 bytes)) ∙ ap (λ (t : List ℕ). be64 (first_word bytes) ++ t) more
    ∙ elim (cases_lt (length bytes) 8) [
      | inl lt ↦
          let count : 8 * suc n - length bytes ≡ (8 - length bytes) + 8 * n = omega arith in
          let none = past 8 bytes (omega arith) in
          ap (λ (t : List ℕ). be64 (first_word bytes) ++ (t ++ zeros (8 * n - length t))) none
          ∙ ap (λ (k : ℕ). be64 (first_word bytes) ++ zeros k) (sub-zero (8 * n))
          ∙ ap (λ (t : List ℕ). t ++ zeros (8 * n)) (part_first bytes fits lt)
          ∙ append_assoc bytes (zeros (8 - length bytes)) (zeros (8 * n))
          ∙ ap (λ (t : List ℕ). bytes ++ t) (replicate-append-replicate (8 - length bytes) (8 * n) 0 ∙ ap (λ (k : ℕ). zeros k) (sym count))
      | inr ge ↦
          let count : 8 * n - length (drop 8 bytes) ≡ 8 * suc n - length bytes = omega (arith, length-drop 8 bytes) in
          ap (λ (k : ℕ). be64 (first_word bytes) ++ (drop 8 bytes ++ zeros k)) count
          ∙ ap (λ (t : List ℕ). t ++ (drop 8 bytes ++ zeros (8 * suc n - length bytes))) (whole_first bytes fits ge)
          ∙ sym (append_assoc (take 8 bytes) (drop 8 bytes) (zeros (8 * suc n - length bytes)))
          ∙ ap (λ (t : List ℕ). t ++ zeros (8 * suc n - length bytes)) (take-append-drop 8 bytes)
    ]

-- ---- words have one list of bytes

abbrev pub AreWords : List ℕ → Type 0
AreWords ws = (i : ℕ) → get_or ws i 0 < 2 ^ 64

first_word_fits : (bytes : List ℕ) → AreBytes bytes → first_word bytes < 2 ^ 64
unfolding first_word
first_word_fits bytes fits = omega (arith, fits 0, fits 1, fits 2, fits 3, fits 4, fits 5, fits 6, fits 7)

words_in_fit : (n : ℕ) (bytes : List ℕ) → AreBytes bytes → AreWords (words_in n bytes)
words_in_fit zero bytes fits i = omega arith
words_in_fit (suc n) bytes fits zero = first_word_fits bytes fits
words_in_fit (suc n) bytes fits (suc i) = words_in_fit n (drop 8 bytes) (AreBytes-drop 8 bytes fits) i

pub words_same : (xs ys : List ℕ) → AreWords xs → AreWords ys → flat_map be64 xs ≡ flat_map be64 ys → xs ≡ ys
words_same [] [] p q e = refl
words_same [] (y ∷ ys) p q e = absurd (omega (arith, ap length (e ∙ flat_map-cons be64 y ys), length-append (be64 y) (flat_map be64 ys), length-be64 y))
words_same (x ∷ xs) [] p q e = absurd (omega (arith, ap length (sym e ∙ flat_map-cons be64 x xs), length-append (be64 x) (flat_map be64 xs), length-be64 x))
words_same (x ∷ xs) (y ∷ ys) p q e =
    let s = one_word x y (flat_map be64 xs) (flat_map be64 ys) (p 0) (q 0) (sym (flat_map-cons be64 x xs) ∙ e ∙ flat_map-cons be64 y ys) in
    let rest = words_same xs ys (λ i. p (suc i)) (λ i. q (suc i)) s.1 in
    cc

pub length-words_bytes : (ws : List ℕ) → length (flat_map be64 ws) ≡ 8 * length ws
length-words_bytes [] = refl
length-words_bytes (w ∷ ws) = omega (arith, ap length (flat_map-cons be64 w ws), length-append (be64 w) (flat_map be64 ws), length-be64 w, length-words_bytes ws)

pub bytes_of-packed : (bytes : List ℕ) → AreBytes bytes → flat_map be64 (packed bytes) ≡ bytes ++ zeros (8 * words_for (length bytes) - length bytes)
bytes_of-packed bytes fits = bytes_packed (words_for (length bytes)) bytes fits (omega arith)

-- ---- what words hold

same_words : (h k : ℕ) (xs ys : List ℕ) → h ∷ xs ≡ k ∷ ys → (h ≡ k) × (xs ≡ ys)
same_words h k xs ys e = (cc, cc)

-- a list of words holds one kind and one list of bytes
pub held_once : (words : List ℕ) (kind kind' : ℕ) (bytes bytes' : List ℕ) → HoldsBytes words kind bytes → HoldsBytes words kind' bytes' → (kind ≡ kind') × (bytes ≡ bytes')
held_once words kind kind' bytes bytes' p q =
    let s = same_words _ _ _ _ (sym p.spelled ∙ q.spelled) in
    let a = head_again kind (length bytes) (omega (arith, p.short)) in
    let b = head_again kind' (length bytes') (omega (arith, q.short)) in
    let len : length bytes ≡ length bytes' = sym a.1 ∙ ap head_len s.0 ∙ b.1 in
    let filled = sym (bytes_of-packed bytes p.bytes_fit) ∙ ap (flat_map be64) s.1 ∙ bytes_of-packed bytes' q.bytes_fit in
    (sym a.0 ∙ ap head_kind s.0 ∙ b.0, (same_front bytes bytes' _ _ len filled).0)

-- words with another number of words, or of too many bytes, hold nothing
pub none_held : (words : List ℕ) (h : ℕ) (rest : List ℕ) → words ≡ h ∷ rest → (head_len h ≤ 131072 → length rest ≡ words_for (head_len h) → ⊥) → (kind : ℕ) (bytes : List ℕ) → HoldsBytes words kind bytes → ⊥
none_held words h rest e not kind bytes p =
    let s = same_words _ _ _ _ (sym e ∙ p.spelled) in
    let a = head_again kind (length bytes) (omega (arith, p.short)) in
    let len : head_len h ≡ length bytes = ap head_len s.0 ∙ a.1 in
    not (omega (arith, len, p.short)) (ap length s.1 ∙ length-words_in (words_for (length bytes)) bytes ∙ ap words_for (sym len))

abbrev pub IsZero : List ℕ → Type 0
IsZero bytes = (i : ℕ) → i < length bytes → get_or bytes i 0 ≡ 0

-- words with something after the bytes hold nothing
pub not_filled : (words : List ℕ) (h : ℕ) (rest all : List ℕ) → words ≡ h ∷ rest → all ≡ flat_map be64 rest → (IsZero (drop (head_len h) all) → ⊥) → (kind : ℕ) (bytes : List ℕ) → HoldsBytes words kind bytes → ⊥
not_filled words h rest all e a not kind bytes p =
    let s = same_words _ _ _ _ (sym e ∙ p.spelled) in
    let again = head_again kind (length bytes) (omega (arith, p.short)) in
    let len : head_len h ≡ length bytes = ap head_len s.0 ∙ again.1 in
    let ends : List ℕ = zeros (8 * words_for (length bytes) - length bytes) in
    let filled : all ≡ bytes ++ ends = a ∙ ap (flat_map be64) s.1 ∙ bytes_of-packed bytes p.bytes_fit in
    let behind : drop (head_len h) all ≡ ends = ap (λ (k : ℕ). drop k all) len ∙ ap (drop (length bytes)) filled ∙ drop_at bytes ends (length bytes) refl in
    not (λ i lt. ap (λ (t : List ℕ). get_or t i 0) behind ∙ zero_at (8 * words_for (length bytes) - length bytes) i)

-- bytes with zeros after them are held
pub found_held : (words : List ℕ) (h : ℕ) (rest all : List ℕ) → words ≡ h ∷ rest → AreWords rest → AreBytes all → all ≡ flat_map be64 rest → head_len h ≤ 131072 → length rest ≡ words_for (head_len h)
    → IsZero (drop (head_len h) all) → HoldsBytes words (head_kind h) (take (head_len h) all)
found_held words h rest all e fit small a short count empty =
    let len = head_len h in
    let size : length all ≡ 8 * length rest = ap length a ∙ length-words_bytes rest in
    let front : length (take len all) ≡ len = omega (arith, length-take len all) in
    let behind : drop len all ≡ zeros (8 * words_for len - len) =
    ext_get_or 0 (drop len all) (zeros (8 * words_for len - len)) (omega (arith, length-drop len all, length-replicate {A = ℕ} (8 * words_for len - len) 0))
    (λ i lt. empty i lt ∙ sym (zero_at (8 * words_for len - len) i)) in
    let fits = AreBytes-take len all small in
    let filled : flat_map be64 (packed (take len all)) ≡ flat_map be64 rest =
    bytes_of-packed (take len all) fits ∙ ap (λ (k : ℕ). take len all ++ zeros (8 * words_for k - k)) front ∙ ap (λ (t : List ℕ). take len all ++ t) (sym behind) ∙ take-append-drop len all ∙ a in
    let same = words_same (packed (take len all)) rest (words_in_fit (words_for (length (take len all))) (take len all) fits) fit filled in
    let whole : h ≡ head (head_kind h) (length (take len all)) = omega (arith, front) in
    record {
      bytes_fit = fits;
      short = omega (arith, front);
      spelled = e ∙ ap (λ (k : ℕ). k ∷ rest) whole ∙ ap (λ (t : List ℕ). head (head_kind h) (length (take len all)) ∷ t) (sym same);
    }

-- ---- a head word and the words after it

pub parts : (words : List ℕ) → 1 ≤ length words → words ≡ get_or words 0 0 ∷ take (length words - 1) (drop 1 words)
parts [] le = absurd (omega arith)
parts (w ∷ ws) le =
    let len : length (w ∷ ws) - 1 ≡ length ws = omega arith in
    ap (λ (t : List ℕ). w ∷ t) (sym (ap (λ (n : ℕ). take n ws) len ∙ take-length ws))

pub rest_fits : (words rest : List ℕ) (h : ℕ) → AreWords words → words ≡ h ∷ rest → AreWords rest
rest_fits words rest h fits e i = subst (λ (t : List ℕ). get_or t (suc i) 0 < 2 ^ 64) e (fits (suc i))

pub enough : (rest all : List ℕ) (len : ℕ) → all ≡ flat_map be64 rest → length rest ≡ words_for len → len ≤ length all
enough rest all len a count = omega (arith, ap length a, length-words_bytes rest)

-- ---- the bytes of words fit

pub be64_fits : (n : ℕ) → AreBytes (be64 n)
unfolding be64
be64_fits n zero = omega arith
be64_fits n (suc zero) = omega arith
be64_fits n (suc (suc zero)) = omega arith
be64_fits n (suc (suc (suc zero))) = omega arith
be64_fits n (suc (suc (suc (suc zero)))) = omega arith
be64_fits n (suc (suc (suc (suc (suc zero))))) = omega arith
be64_fits n (suc (suc (suc (suc (suc (suc zero)))))) = omega arith
be64_fits n (suc (suc (suc (suc (suc (suc (suc zero))))))) = omega arith
be64_fits n (suc (suc (suc (suc (suc (suc (suc (suc i)))))))) = omega arith

pub append_fits : (xs ys : List ℕ) → AreBytes xs → AreBytes ys → AreBytes (xs ++ ys)
append_fits [] ys p q i = q i
append_fits (x ∷ xs) ys p q zero = p 0
append_fits (x ∷ xs) ys p q (suc i) = append_fits xs ys (λ k. p (suc k)) q i

words_bytes_fit : (ws : List ℕ) → AreBytes (flat_map be64 ws)
words_bytes_fit [] = λ i. omega arith
words_bytes_fit (w ∷ ws) = subst AreBytes (sym (flat_map-cons be64 w ws)) (append_fits (be64 w) (flat_map be64 ws) (be64_fits w) (words_bytes_fit ws))

pub all_fit : (rest all : List ℕ) → all ≡ flat_map be64 rest → AreBytes all
all_fit rest all a = subst AreBytes (sym a) (words_bytes_fit rest)

-- ---- what stands behind the bytes stands in the last word

last_alone : (words : List ℕ) → 1 ≤ length words → drop (length words - 1) words ≡ get_or words (length words - 1) 0 ∷ []
last_alone [] some = absurd (omega arith)
last_alone (w ∷ []) some = refl
last_alone (w ∷ v ∷ ws) some =
    let one : length (w ∷ v ∷ ws) - 1 ≡ suc (length (v ∷ ws) - 1) = omega arith in
    ap (λ (n : ℕ). drop n (w ∷ v ∷ ws)) one ∙ last_alone (v ∷ ws) (omega arith) ∙ ap (λ (n : ℕ). get_or (w ∷ v ∷ ws) n 0 ∷ []) (sym one)

pub behind_front : (words : List ℕ) (len : ℕ) → length words ≡ words_for len → 1 ≤ length words
    → drop len (flat_map be64 words) ≡ drop (len - length (take (length words - 1) words) * 8) (be64 (get_or words (length words - 1) 0))
behind_front words len count some =
    let at = length words - 1 in
    let front = take at words in
    let last = get_or words at 0 in
    let whole : words ≡ front ++ last ∷ [] = sym (take-append-drop at words) ∙ ap (λ (t : List ℕ). front ++ t) (last_alone words some) in
    let size : length front ≡ at = omega (arith, length-take at words) in
    let split : len ≡ length (flat_map be64 front) + (len - length front * 8) = omega (arith, length-words_bytes front, size) in
    ap (λ (n : ℕ). drop n (flat_map be64 words)) split
    ∙ ap (λ (t : List ℕ). drop (length (flat_map be64 front) + (len - length front * 8)) t) (ap (flat_map be64) whole ∙ flat_map-append be64 front (last ∷ []))
    ∙ drop-append-add (flat_map be64 front) (flat_map be64 (last ∷ [])) (len - length front * 8)
    ∙ ap (drop (len - length front * 8)) (flat_map-cons be64 last [] ∙ append-nil (be64 last))
