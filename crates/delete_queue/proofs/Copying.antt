-- Words that are pushed behind others.
use Rattle.std.proofs.Common.{◌≡◌, ℕ, suc, zero, ◌+◌, ◌-◌, ◌*◌, ◌<◌, ◌≤◌, ⊎_elim, ap₂, map, slice_index, List, [], ◌∷◌, ◌++◌, append_assoc, length, get_or, sym, refl, ap, ◌∙◌, subst, arith, length-append}
use Rattle.std.proofs.lemmas.List.{get_or_append_left, get_or_at, length-map, ext_get_or}
use mathlib.Core.Option.{some, some-injective, some-ne-none}
use lib.ListN.{get_elem?}
use Rattle.atomic_table.proofs.Lists.{at_longer}
use Rattle.ix_base.specs.Words.{word_count}
use Rattle.ix_base.proofs.EntryLaws.{IsEntryWords-not_empty, IsEntryWords-count}
use Rattle.queue_rule.specs.Lists.{last_or}
use Rattle.queue_rule.specs.Chain.{ChainEntry}
use Rattle.queue_rule.specs.Told.{Whole, HeadsAt, filled_by}
use Rattle.delete_queue.specs.declared.queue.DeleteQueue.{DeleteQueue}
use Rattle.delete_queue.specs.declared.seat.Seat.{Seat}
use Rattle.delete_queue.specs.declared.seat.Found.{Found}
use Rattle.delete_queue.specs.declared.copy.Room.{Room}
use Rattle.delete_queue.specs.Seats.{IsSeatOf, IsFound, Extends, the_view, seen_of, seats_of, Knows as KnowsEntry}
use Rattle.delete_queue.specs.Cuts.{pieces_from}
use Rattle.delete_queue.specs.Copying.{copied_of, Adds, Copied, CopiedAll}
use Rattle.queue_rule.proofs.Lists.{at_end}
use Rattle.delete_queue.proofs.Cutting.{CutFrom, cut_more, pieces_more, length-pieces, all_words, all_pieces}
use mathlib.Core.Logic.{dite}
use native.Mathlib.Decide.{ℕ_discrete}
use Rattle.queue_rule.specs.declared.view.View.{View}
use Rattle.queue_rule.specs.Views.{Knows, knows}
use Rattle.delete_queue.proofs.Fields.{knows_it, knows_more}
use Rattle.delete_queue.proofs.Reading.{Filled}

-- the i words behind the old ones are known
abbrev pub Fills : View → ℕ → ℕ → List ℕ → List ℕ → Type 0
Fills v first i before after = (more : List ℕ) × (after ≡ before ++ more) × (length more ≡ i) × Filled v first i more

pub pushes : (v w : View) (first i x : ℕ) (before now after : List ℕ) → w ≡ knows v (first + i) x → after ≡ now ++ x ∷ [] → Fills v first i before now → Fills w first (i + 1) before after
pushes v w first i x before now after is pushed h = let more = h.0 in (
  more ++ x ∷ [],
  pushed ∙ (ap (λ (l : List ℕ). l ++ x ∷ []) h.1 ∙ append_assoc before more (x ∷ [])),
  length-append more (x ∷ []) ∙ ap (λ (n : ℕ). n + 1) h.2,
  λ d le. subst (λ (y : View). Knows y (first + d) (get_or (more ++ x ∷ []) d 0)) (sym is)
      (dite (ℕ_discrete d i)
      (λ same. subst (λ (n : ℕ). Knows (knows v (first + i) x) (first + d) n) (sym (ap (λ (n : ℕ). get_or (more ++ x ∷ []) n 0) same ∙ get_or_at more x [] 0 i h.2))
      (subst (λ (n : ℕ). Knows (knows v (first + i) x) (first + n) x) (sym same) (knows_it v (first + i) x)))
      (λ other. let lt : d < i = (let ne : ◌≡◌ d i → ⊥ = other in omega (arith, le, ne)) in let len = h.2 in
      subst (λ (n : ℕ). Knows (knows v (first + i) x) (first + d) n) (sym (get_or_append_left more (x ∷ []) 0 d (omega (arith, lt, len))))
      (knows_more v (first + i) x (first + d) (get_or more d 0) (h.3 d lt)))),
)

-- ---- room for one entry more

abbrev pub head_of : List ℕ → ℕ
head_of x = slice_index x 0

mapped_at : (ps : List (List ℕ)) (i h : ℕ) → get_elem? (map head_of ps) i ≡ some h → (x : List ℕ) × (get_elem? ps i ≡ some x) × (head_of x ≡ h)
mapped_at [] i h e = absurd (some-ne-none h (sym e))
mapped_at (x ∷ ps) zero h e = (x, refl, some-injective (head_of x) h e)
mapped_at (x ∷ ps) (suc i) h e = mapped_at ps i h e

heads_at : (v : View) (xs hs : List ℕ) → ((i h : ℕ) → get_elem? hs i ≡ some h → (a : ℕ) × (get_elem? xs i ≡ some a) × Knows v (a + 1) h) → HeadsAt v xs hs
heads_at v xs [] f = tt
heads_at v [] (h ∷ hs) f = let r = f 0 h refl in some-ne-none r.0 (sym r.1)
heads_at v (a ∷ xs) (h ∷ hs) f = let r = f 0 h refl in (subst (λ (b : ℕ). Knows v (b + 1) h) (sym (some-injective a r.0 r.1)) r.2, heads_at v xs hs (λ i y e. f (suc i) y e))

filled_more : (ps : List (List ℕ)) (h : ℕ) → ((i : ℕ) (x : List ℕ) → get_elem? ps i ≡ some x → length x ≡ word_count (head_of x)) → all_words ps + word_count h ≤ filled_by (map head_of ps ++ h ∷ [])
unfolding all_words
filled_more [] h f = omega arith
filled_more (x ∷ ps) h f = let r = filled_more ps h (λ i y e. f (suc i) y e) in let c = f 0 x refl in omega (arith, r, c)

-- the place behind n others among the entries seen
seen_at : (l : List ℕ) (n m a : ℕ) → get_elem? (0 ∷ l) m ≡ some a → m ≡ n + 1 → get_elem? l n ≡ some a
seen_at l n m a e is = subst (λ (x : ℕ). get_elem? (0 ∷ l) x ≡ some a) (let r : m ≡ suc n = omega (arith, is) in r) e

pub seen_within : (l : List ℕ) (n a : ℕ) → get_elem? l n ≡ some a → n < length l
seen_within [] n a e = absurd (some-ne-none a (sym e))
seen_within (x ∷ l) zero a e = omega arith
seen_within (x ∷ l) (suc n) a e = let h = seen_within l n a e in omega (arith, h)

pub place_within : (s : Seat) (f : Found) → IsFound s f → f.place.at ≤ seen_of s
place_within s f is = let lt = seen_within (0 ∷ (the_view s).seen) f.place.at f.place.word is.known.seen in omega (arith, lt)

pub words_fit : (q : DeleteQueue) (s : Seat) (f : Found) (room : Room) → IsSeatOf q s → IsFound s f → Copied s (f.place.at - 1) room → length room.words.items + f.words ≤ 16642 * seats_of q
words_fit q s f room h is c =
    let v = the_view s in
    let ps = copied_of room in
    let some_place = is.known.entry in
    let count : length ps ≡ f.place.at - 1 = length-pieces 0 room.ends.items room.words.items ∙ c.count in
    let heads : HeadsAt v v.seen (map head_of ps ++ is.head ∷ []) = heads_at v v.seen (map head_of ps ++ is.head ∷ []) (λ i y e. ⊎_elim
    (λ (old : get_elem? (map head_of ps) i ≡ some y).
    let m = mapped_at ps i y old in
    let k = c.knows i m.0 m.1 in
    let known : Knows v (k.address + 1) (head_of m.0) = subst (λ (a : ℕ). Knows v a (head_of m.0)) (let z : k.address + 1 + 0 ≡ k.address + 1 = omega arith in z) (k.each 0 k.some_word) in
    (k.address, seen_at v.seen i (i + 1) k.address k.seen refl, subst (λ (x : ℕ). Knows v (k.address + 1) x) m.2 known))
    (λ (new : (i ≡ length (map head_of ps)) × (is.head ≡ y)).
    let end = new.0 in let len = length-map ps head_of in
    (f.place.word, seen_at v.seen i f.place.at f.place.word is.known.seen (omega (arith, end, len, count, some_place)), subst (λ (x : ℕ). Knows v (f.place.word + 1) x) new.1 is.known.known))
    (at_end (map head_of ps) is.head y i e)) in
    let most = h.table.1.total (map head_of ps ++ is.head ∷ []) heads in
    let fill = filled_more ps is.head (λ i x e. (c.knows i x e).size) in
    let all = all_pieces 0 room.ends.items room.words.items c.cut c.ended in
    let size = is.words in
    let seats = h.table.0.2 in
    let many = q.many in
    omega (arith, most, fill, all, size, seats, many)

-- ---- one entry more

pub knows_later : (s t : Seat) (n : ℕ) (words : List ℕ) → Extends s t → KnowsEntry s n words → KnowsEntry t n words
knows_later s t n words up k = record {
  address = k.address;
  entry = k.entry;
  seen = ap (λ (l : List ℕ). get_elem? (0 ∷ l) n) up.seen.1 ∙ at_longer (0 ∷ (the_view s).seen) up.seen.0 n k.address k.seen;
  some_word = k.some_word;
  size = k.size;
  each = λ d lt. up.known (k.address + 1 + d) (slice_index words d) (k.each d lt);
}

pub copied_later : (s t : Seat) (n : ℕ) (room : Room) → Extends s t → Copied s n room → Copied t n room
copied_later s t n room up c = record { count = c.count; cut = c.cut; ended = c.ended; knows = λ i x e. knows_later s t (i + 1) x up (c.knows i x e) }

last_pushed : (a x : ℕ) (l : List ℕ) → last_or a (l ++ x ∷ []) ≡ x
last_pushed a x [] = refl
last_pushed a x (y ∷ l) = last_pushed y x l

pub copied_more : (s t : Seat) (m : ℕ) (before after : Room) → 0 < m → Copied s (m - 1) before → Extends s t → Adds t m before.words.items after.words.items → after.ends.items ≡ before.ends.items ++ length after.words.items ∷ [] → Copied t m after
copied_more s t m before after some_m c up adds ends =
    let words = before.words.items in
    let more = adds.0 in
    let k = adds.2 in
    let size : length (words ++ more) ≡ length words + length more = length-append words more in
    let some_more = k.some_word in
    let grown : after.words.items ≡ words ++ more = adds.1 in
    let len : length after.words.items ≡ length (words ++ more) = ap length grown in
    let pushed : after.ends.items ≡ before.ends.items ++ length (words ++ more) ∷ [] = ends ∙ ap (λ (n : ℕ). before.ends.items ++ n ∷ []) len in
    let count = length-append before.ends.items (length (words ++ more) ∷ []) in
    let counted = c.count in
    let pieces : copied_of after ≡ copied_of before ++ more ∷ [] = ap₂ (λ (e w : List ℕ). pieces_from 0 e w) pushed grown ∙ pieces_more 0 before.ends.items words more c.cut c.ended in record {
      count = ap length pushed ∙ omega (arith, count, counted, some_m);
      cut = subst (λ (l : List ℕ). CutFrom 0 l (length after.words.items)) (sym pushed) (subst (λ (n : ℕ). CutFrom 0 (before.ends.items ++ length (words ++ more) ∷ []) n) (sym len)
          (cut_more 0 before.ends.items (length words) (length (words ++ more)) c.cut c.ended (omega (arith, size, some_more))));
      ended = ap (last_or 0) ends ∙ last_pushed 0 (length after.words.items) before.ends.items;
      knows = λ i x e. ⊎_elim
          (λ (old : get_elem? (copied_of before) i ≡ some x). knows_later s t (i + 1) x up (c.knows i x old))
          (λ (new : (i ≡ length (copied_of before)) × (more ≡ x)).
          let end = new.0 in let all = length-pieces 0 before.ends.items words in
          subst (λ (l : List ℕ). KnowsEntry t (i + 1) l) new.1 (subst (λ (n : ℕ). KnowsEntry t n more) (omega (arith, end, all, counted, some_m)) k))
          (at_end (copied_of before) more x i (ap (λ (l : List (List ℕ)). get_elem? l i) (sym pieces) ∙ e));
    }

-- ---- all entries

same_words : (ps : List (List ℕ)) (es : List ChainEntry) → length ps ≡ length es → ((i : ℕ) (x : List ℕ) (e : ChainEntry) → get_elem? ps i ≡ some x → get_elem? es i ≡ some e → x ≡ e.words) → ps ≡ map (λ (e : ChainEntry). e.words) es
same_words [] [] len f = refl
same_words [] (e ∷ es) len f = absurd (omega (arith, len))
same_words (x ∷ ps) [] len f = absurd (omega (arith, len))
same_words (x ∷ ps) (e ∷ es) len f = ap₂ ◌∷◌ (f 0 x e refl refl) (same_words ps es (omega (arith, len)) (λ i y z g h. f (suc i) y z g h))

address_at : (es : List ChainEntry) (i : ℕ) (e : ChainEntry) → get_elem? es i ≡ some e → get_elem? (map (λ (x : ChainEntry). x.at) es) i ≡ some e.at
address_at [] i e h = absurd (some-ne-none e (sym h))
address_at (x ∷ es) zero e h = ap (λ (y : ChainEntry). some y.at) (some-injective x e h)
address_at (x ∷ es) (suc i) e h = address_at es i e h

-- the words that a seat knows of an entry are the entry's
pub entry_words_are : (s : Seat) (w : Whole (the_view s)) (i : ℕ) (x : List ℕ) (e : ChainEntry) → KnowsEntry s (i + 1) x → get_elem? w.entries i ≡ some e → x ≡ e.words
entry_words_are s w i x e k got =
    let v = the_view s in
    let seen : get_elem? v.seen i ≡ some k.address = seen_at v.seen i (i + 1) k.address k.seen refl in
    let place : e.at ≡ k.address = some-injective e.at k.address (sym (address_at w.entries i e got) ∙ (ap (λ (l : List ℕ). get_elem? l i) w.seen ∙ seen)) in
    let word : (d : ℕ) → d < length x → d < length e.words → slice_index x d ≡ slice_index e.words d = λ d lt l. w.words i e d (slice_index x d) got l (subst (λ (a : ℕ). Knows v (a + 1 + d) (slice_index x d)) (sym place) (k.each d lt)) in
    let grammar = w.grammar i e got in
    let some_word = IsEntryWords-not_empty e.words grammar in
    let len : length x ≡ length e.words = k.size ∙ (ap word_count (word 0 k.some_word some_word) ∙ sym (IsEntryWords-count e.words grammar)) in
    ext_get_or 0 x e.words len (λ d lt. word d lt (omega (arith, len, lt)))

pub all_copied : (q : DeleteQueue) (s : Seat) (n : ℕ) (room : Room) → IsSeatOf q s → Copied s n room → n ≡ seen_of s → Whole (the_view s) → CopiedAll s room
all_copied q s n room h c end w =
    let v = the_view s in
    let count = c.count in
    let bound = h.table.1.bound in
    let seats = h.table.0.2 in
    let many = q.many in
    let few = q.few.1 in
    let pieces = length-pieces 0 room.ends.items room.words.items in
    let seen : length w.entries ≡ length v.seen = sym (length-map w.entries (λ (x : ChainEntry). x.at)) ∙ ap length w.seen in record {
      cut = c.cut;
      few = omega (arith, count, end, bound, seats, many, few);
      whole = w;
      words = same_words (copied_of room) w.entries (omega (arith, pieces, count, end, seen)) (λ i x e g got. entry_words_are s w i x e (c.knows i x g) got);
    }

pub none_copied : (s : Seat) (room : Room) → room.ends.items ≡ [] → room.words.items ≡ [] → Copied s 0 room
none_copied s room ends words =
    let none : copied_of room ≡ [] = ap (λ (l : List ℕ). pieces_from 0 l room.words.items) ends in record {
      count = ap length ends;
      cut = subst (λ (l : List ℕ). CutFrom 0 l (length room.words.items)) (sym ends) (λ i lt. absurd (omega (arith, lt)));
      ended = ap (last_or 0) ends ∙ ap length (sym words);
      knows = λ i x e. absurd (some-ne-none x (sym (ap (λ (l : List (List ℕ)). get_elem? l i) (sym none) ∙ e)));
    }
