-- Words cut into entries.
use Rattle.std.proofs.Common.{◌≡◌, ℕ, zero, suc, ◌+◌, ◌-◌, ◌<◌, ◌≤◌, List, [], ◌∷◌, ◌++◌, length, get_or, slice_index, take, drop, sym, refl, ap, ap₂, ◌∙◌, arith, length-append, length-take-le}
use Rattle.std.proofs.lemmas.List.{get_or_default, take-append-le, take_all, drop-append-le, length-drop}
use Rattle.std.proofs.Math.Seq.{drop-append_seam}
use mathlib.Core.Option.{some}
use lib.ListN.{get_elem?}
use Rattle.queue_rule.specs.Lists.{last_or}
use Rattle.delete_queue.specs.declared.log.QueueLog.{QueueLog}
use Rattle.delete_queue.specs.Log.{entries_of}
use Rattle.delete_queue.specs.Cuts.{pieces_from}

pub length-pieces : (p : ℕ) (ends words : List ℕ) → length (pieces_from p ends words) ≡ length ends
length-pieces p [] words = refl
length-pieces p (e ∷ ends) words = ap suc (length-pieces e ends words)

pub piece_at : (p : ℕ) (ends words : List ℕ) (i : ℕ) → i < length ends → get_elem? (pieces_from p ends words) i ≡ some (take (slice_index ends i - slice_index (p ∷ ends) i) (drop (slice_index (p ∷ ends) i) words))
piece_at p [] words i lt = absurd (omega (arith, lt))
piece_at p (e ∷ ends) words zero lt = refl
piece_at p (e ∷ ends) words (suc i) lt = piece_at e ends words i (omega (arith, lt))

pub within : (log : QueueLog) (i : ℕ) → i < length (entries_of log) → i < length log.ends.items
within log i lt = let len = length-pieces 0 log.ends.items log.words.items in omega (arith, len, lt)

-- the bounds of an entry of a log, as they were found
pub bounded : (log : QueueLog) (i b e : ℕ) → i < length (entries_of log) → b ≡ slice_index (0 ∷ log.ends.items) i → e ≡ get_or log.ends.items i e
    → (b < e) × (e ≤ length log.words.items) × (get_elem? (entries_of log) i ≡ some (take (e - b) (drop b log.words.items)))
bounded log i b e lt begins ends =
    let ends_lt = within log i lt in
    let is : e ≡ slice_index log.ends.items i = ends ∙ get_or_default log.ends.items i e 0 ends_lt in
    let cut = log.cut i ends_lt in let low = cut.0 in let high = cut.1 in (
      omega (arith, low, begins, is),
      omega (arith, high, is),
      piece_at 0 log.ends.items log.words.items i ends_lt ∙ ap₂ (λ (x y : ℕ). some (take (x - y) (drop y log.words.items))) (sym is) (sym begins),
    )

-- ---- one piece more

-- the pieces of which the first begins at p have a word or more, and end within n words
abbrev pub CutFrom : ℕ → List ℕ → ℕ → Type 0
CutFrom p ends n = (i : ℕ) → i < length ends → (slice_index (p ∷ ends) i < slice_index ends i) × (slice_index ends i ≤ n)

pub cut_more : (p : ℕ) (ends : List ℕ) (n m : ℕ) → CutFrom p ends n → last_or p ends ≡ n → n < m → CutFrom p (ends ++ m ∷ []) m
cut_more p [] n m h last lt zero low = (omega (arith, last, lt), omega arith)
cut_more p [] n m h last lt (suc i) low = absurd (omega (arith, low))
cut_more p (e ∷ ends) n m h last lt zero low = let r = h 0 (omega arith) in let a = r.0 in let b = r.1 in (a, omega (arith, b, lt))
cut_more p (e ∷ ends) n m h last lt (suc i) low = cut_more e ends n m (λ j l. h (suc j) (omega (arith, l))) last lt i (omega (arith, low))

pub pieces_more : (p : ℕ) (ends words more : List ℕ) → CutFrom p ends (length words) → last_or p ends ≡ length words → pieces_from p (ends ++ length (words ++ more) ∷ []) (words ++ more) ≡ pieces_from p ends words ++ more ∷ []
pieces_more p [] words more h last =
    let len = length-append words more in
    let all : take (length (words ++ more) - p) (drop p (words ++ more)) ≡ more =
    ap (λ (n : ℕ). take (length (words ++ more) - p) (drop n (words ++ more))) last ∙ (ap (take (length (words ++ more) - p)) (drop-append_seam words more) ∙ take_all (length (words ++ more) - p) more (omega (arith, len, last))) in
    ap (λ (l : List ℕ). l ∷ []) all
pieces_more p (e ∷ ends) words more h last =
    let r = h 0 (omega arith) in let a = r.0 in let b = r.1 in let len = length-drop p words in
    ap₂ ◌∷◌ (ap (take (e - p)) (drop-append-le p words more (omega (arith, a, b))) ∙ take-append-le (e - p) (drop p words) more (omega (arith, a, b, len)))
    (pieces_more e ends words more (λ j l. h (suc j) (omega (arith, l))) last)

-- how many words the pieces have
unfoldable pub all_words : List (List ℕ) → ℕ
all_words [] = 0
all_words (x ∷ xs) = length x + all_words xs

pub all_pieces : (p : ℕ) (ends words : List ℕ) → CutFrom p ends (length words) → last_or p ends ≡ length words → p + all_words (pieces_from p ends words) ≡ length words
unfolding all_words
all_pieces p [] words h last = omega (arith, last)
all_pieces p (e ∷ ends) words h last =
    let r = h 0 (omega arith) in let a = r.0 in let b = r.1 in let len = length-drop p words in
    let here : length (take (e - p) (drop p words)) ≡ e - p = length-take-le (e - p) (drop p words) (omega (arith, a, b, len)) in
    let rest = all_pieces e ends words (λ j l. h (suc j) (omega (arith, l))) last in omega (arith, a, here, rest)
