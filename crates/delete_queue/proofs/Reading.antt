-- Words that are read into a row.
use Rattle.std.proofs.Common.{◌≡◌, ℕ, ◌+◌, ◌<◌, List, ◌∷◌, length, get_or, set, sym, ap, ◌∙◌, subst, arith}
use Rattle.std.proofs.lemmas.List.{get_or-set_same, get_or-set_other}
use mathlib.Core.Logic.{dite}
use native.Mathlib.Decide.{ℕ_discrete}
use lib.ListN.{get_elem?}
use Rattle.ix_base.specs.Words.{word_count}
use Rattle.queue_rule.specs.declared.view.View.{View}
use Rattle.queue_rule.specs.Views.{Knows, knows}
use Rattle.queue_rule.specs.Told.{Sound}
use Rattle.delete_queue.specs.declared.seat.Seat.{Seat}
use Rattle.delete_queue.specs.declared.seat.Place.{Place}
use Rattle.delete_queue.specs.Seats.{the_view, KnowsHead, Knows as KnowsEntry}
use Rattle.delete_queue.specs.Linking.{Rereads}
use Rattle.delete_queue.proofs.Fields.{knows_it, knows_more}

-- the first i words of the row are known
abbrev pub Filled : View → ℕ → ℕ → List ℕ → Type 0
Filled v first i words = (d : ℕ) → d < i → Knows v (first + d) (get_or words d 0)

pub fills : (v w : View) (first i x : ℕ) (words : List ℕ) → w ≡ knows v (first + i) x → i < length words → Filled v first i words → Filled w first (i + 1) (set words i x)
fills v w first i x words is lt h d le = subst (λ (y : View). Knows y (first + d) (get_or (set words i x) d 0)) (sym is)
    (dite (ℕ_discrete d i)
    (λ same. subst (λ (n : ℕ). Knows (knows v (first + i) x) (first + d) n) (sym (ap (λ (n : ℕ). get_or (set words i x) n 0) same ∙ get_or-set_same words i x 0 lt))
    (subst (λ (n : ℕ). Knows (knows v (first + i) x) (first + n) x) (sym same) (knows_it v (first + i) x)))
    (λ other. subst (λ (n : ℕ). Knows (knows v (first + i) x) (first + d) n) (sym (get_or-set_other words i d x 0 other))
    (knows_more v (first + i) x (first + d) (get_or words d 0) (h d (let ne : ◌≡◌ d i → ⊥ = other in omega (arith, le, ne))))))

-- the seat knows the entry whose words were read
pub knows_entry : (s : Seat) (p : Place) (head : ℕ) (words : List ℕ) → Sound (the_view s) → KnowsHead s p head → length words ≡ word_count head → Filled (the_view s) (p.word + 1) (length words) words → KnowsEntry s p.at words
knows_entry s p head words sound k len filled =
    let v = the_view s in
    let some_word : 0 < length words = omega (arith, len) in
    let plain : p.word + 1 + 0 ≡ p.word + 1 = omega arith in
    let first : Knows v (p.word + 1) (get_or words 0 0) = subst (λ (a : ℕ). Knows v a (get_or words 0 0)) plain (filled 0 some_word) in
    let same : get_or words 0 0 ≡ head = sound.agree (p.word + 1) (get_or words 0 0) head first k.known in record {
      address = p.word;
      entry = k.entry;
      seen = k.seen;
      some_word = some_word;
      size = len ∙ ap word_count (sym same);
      each = filled;
    }

-- a head that is known stays so
pub head_stays : (s t : Seat) (p : Place) (head : ℕ) → Rereads (the_view s) (the_view t) → KnowsHead s p head → KnowsHead t p head
head_stays s t p head r k = record { seen = ap (λ (l : List ℕ). get_elem? (0 ∷ l) p.at) r.seen ∙ k.seen; entry = k.entry; known = r.known (p.word + 1) head k.known }
