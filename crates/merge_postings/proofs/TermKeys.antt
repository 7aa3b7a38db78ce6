-- Terms are ordered as their keys beside a field are.
use Rattle.std.proofs.Common.{◌≡◌, ◌≢◌, ◌∙◌, ℕ, ◌+◌, ◌-◌, ◌*◌, ◌%◌, ◌^◌, ◌<◌, ◌≤◌, List, length, ◌⊎◌, inl, inr, refl, sym, ap, subst, arith}
use Rattle.std.specs.Cmp.Lexicographic.{slice_cmp}
use Rattle.std.specs.Ordering.{nat_cmp, ordering_reverse, ordering_then}
use Rattle.std.specs.declared.cmp.Ordering.{Ordering}
use Rattle.std.specs.declared.cmp.Ordering.TheVariants.{Less, Equal, Greater}
use Rattle.std.proofs.lemmas.Bool.{cases_lt}
use Rattle.std.proofs.lemmas.Cmp.{nat_list_cmp_total}
use Rattle.ix_base.specs.Inversion.{term_cmp}
use Rattle.ix_base.specs.declared.document.Term.{Term}
use Rattle.ix_base.proofs.TermOrder.{term_total, text_same}
use Rattle.merge_postings.specs.Keys.{HasKey, IsHighest, KeysTerm, key}
use Rattle.merge_postings.specs.declared.key.Key.{Key}
use Rattle.merge_postings.proofs.KeyOrder.{below_by_key, itself, same_by_key}

-- the two words as one number
abbrev pub number : Key → ℕ
number k = k.high * 2 ^ 64 + k.low

-- the words of a key fit
abbrev pub IsFit : Key → Type 0
IsFit k = (k.high < 2 ^ 64) × (k.low < 2 ^ 64)

-- ---- the key of no text

last_byte : (n end : ℕ) → end ≤ 16 → (n * 256 + end) % 256 ≤ 16
last_byte n end le = omega arith

text_byte : (k : Key) (bytes : List ℕ) → HasKey k bytes → number k % 256 ≤ 16
text_byte k bytes h = go (cases_lt (length bytes) 16)
  where
    go : (length bytes < 16) ⊎ (16 ≤ length bytes) → number k % 256 ≤ 16
    go (inl l) = subst (λ (n : ℕ). n % 256 ≤ 16) (sym (h.short l)) (last_byte (key 15 bytes) (length bytes) (omega arith))
    go (inr g) = subst (λ (n : ℕ). n % 256 ≤ 16) (sym (h.long g)) (last_byte (key 15 bytes) 16 (omega arith))

max_byte : (high low : ℕ) → high ≡ 2 ^ 64 - 1 → low ≡ 2 ^ 64 - 1 → (high * 2 ^ 64 + low) % 256 ≡ 255
max_byte high low p q = omega (arith, p, q)

-- no text has it
pub text_not_highest : (k : Key) (bytes : List ℕ) → HasKey k bytes → IsHighest k → ⊥
text_not_highest k bytes h m = absurd (omega (arith, text_byte k bytes h, max_byte k.high k.low m.0 m.1))

words_below : (h l i m : ℕ) → h < 2 ^ 64 → l < 2 ^ 64 → i ≡ 2 ^ 64 - 1 → m ≡ 2 ^ 64 - 1 → h * 2 ^ 64 + l ≤ i * 2 ^ 64 + m
words_below h l i m p q r s = omega arith

upto_highest : (k m : Key) → IsFit k → IsHighest m → number k ≤ number m
upto_highest k m f h = words_below k.high k.low m.high m.low f.0 f.1 h.0 h.1

-- ---- terms of one field, and of two

pub by_bytes : (a b : Term) → a.field ≡ b.field → term_cmp a b ≡ slice_cmp nat_cmp a.bytes b.bytes
by_bytes a b same =
    let equal : slice_cmp nat_cmp a.field b.field ≡ Equal = ap (λ (f : List ℕ). slice_cmp nat_cmp f b.field) same ∙ itself b.field in
    ap (λ (o : Ordering). ordering_then o (slice_cmp nat_cmp a.bytes b.bytes)) equal

pub by_field : (a b : Term) → slice_cmp nat_cmp a.field b.field ≡ Less → term_cmp a b ≡ Less
by_field a b less = ap (λ (o : Ordering). ordering_then o (slice_cmp nat_cmp a.bytes b.bytes)) less

-- what isn't before a text and isn't the text is behind it
pub behind : (xs ys : List ℕ) → slice_cmp nat_cmp xs ys ≢ Less → xs ≢ ys → slice_cmp nat_cmp ys xs ≡ Less
behind xs ys not other = go (slice_cmp nat_cmp xs ys) refl
  where
    go : (o : Ordering) → slice_cmp nat_cmp xs ys ≡ o → slice_cmp nat_cmp ys xs ≡ Less
    go Less e = absurd (not e)
    go Equal e = absurd (other (text_same xs ys e))
    go Greater e = nat_list_cmp_total.antisymm ys xs ∙ ap ordering_reverse e

-- a term that isn't below another one has no field before that one's
pub field_from : (a b : Term) → (term_cmp a b ≡ Less → ⊥) → slice_cmp nat_cmp a.field b.field ≢ Less
field_from a b not less = not (by_field a b less)

-- ---- terms by their keys

pub less_by_keys : (field : List ℕ) (l r : Key) (a b : Term) → IsFit l → IsFit r → KeysTerm field l a → KeysTerm field r b → number l < number r → term_cmp a b ≡ Less
less_by_keys field l r a b f g (inl p) (inl q) lt = by_bytes a b (p.0 ∙ sym q.0) ∙ below_by_key (number l) (number r) a.bytes b.bytes p.1 q.1 lt
less_by_keys field l r a b f g (inl p) (inr q) lt = by_field a b (subst (λ (t : List ℕ). slice_cmp nat_cmp t b.field ≡ Less) (sym p.0) q.1)
less_by_keys field l r a b f g (inr p) (inl q) lt = absurd (omega (arith, lt, upto_highest r l g p.0))
less_by_keys field l r a b f g (inr p) (inr q) lt = absurd (omega (arith, lt, upto_highest r l g p.0))

pub greater_by_keys : (field : List ℕ) (l r : Key) (a b : Term) → IsFit l → IsFit r → KeysTerm field l a → KeysTerm field r b → number r < number l → term_cmp a b ≡ Greater
greater_by_keys field l r a b f g p q lt = term_total.antisymm a b ∙ ap ordering_reverse (less_by_keys field r l b a g f q p lt)

low_of_number : (h l : ℕ) → l % 256 < 16 → (h * 2 ^ 64 + l) % 256 < 16
low_of_number h l lt = omega arith

pub same_by_keys : (field : List ℕ) (l r : Key) (a b : Term) → KeysTerm field l a → KeysTerm field r b → number l ≡ number r → r.low % 256 < 16 → term_cmp a b ≡ Equal
same_by_keys field l r a b (inl p) (inl q) same short =
    by_bytes a b (p.0 ∙ sym q.0)
    ∙ same_by_key (number l) (number r) a.bytes b.bytes p.1 q.1 (omega (arith, same)) (omega (arith, same)) (low_of_number r.high r.low short)
same_by_keys field l r a b p (inr q) same short = absurd (omega (arith, low_of_number r.high r.low short, max_byte r.high r.low q.0.0 q.0.1))
same_by_keys field l r a b (inr p) (inl q) same short =
    absurd (omega (arith, low_of_number r.high r.low short, max_byte l.high l.low p.0.0 p.0.1, ap (λ (n : ℕ). n % 256) same))
