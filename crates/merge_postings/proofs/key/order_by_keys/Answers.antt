use Rattle.std.proofs.Common.{◌+◌, ◌*◌, ◌^◌, ◌<◌, ◌≡◌, ℕ, List, refl, sym, arith}
use Rattle.std.specs.declared.cmp.Ordering.{Ordering}
use Rattle.std.specs.declared.cmp.Ordering.TheVariants.{Less, Equal, Greater}
use Rattle.ix_base.specs.Inversion.{term_cmp}
use Rattle.ix_base.specs.declared.document.Term.{Term}
use Rattle.merge_postings.proofs.TermKeys.{IsFit, greater_by_keys, less_by_keys, number, same_by_keys}
use Rattle.merge_postings.specs.Keys.{KeysTerm}
use Rattle.merge_postings.specs.declared.key.Key.{Key}
use Rattle.merge_postings.proofs.key.order_by_keys.Goals as goal

high_below : (h l i m : ℕ) → l < 2 ^ 64 → m < 2 ^ 64 → h < i → h * 2 ^ 64 + l < i * 2 ^ 64 + m
high_below h l i m p q lt = omega arith

low_below : (h l i m : ℕ) → h ≡ i → l < m → h * 2 ^ 64 + l < i * 2 ^ 64 + m
low_below h l i m same lt = omega arith

one_number : (h l i m : ℕ) → h ≡ i → l ≡ m → h * 2 ^ 64 + l ≡ i * 2 ^ 64 + m
one_number h l i m same equal = omega arith

-- terms are ordered as their keys are, which aren't one
by_order : (field : List ℕ) (l r : Key) (a b : Term) (o : Ordering) → IsFit l → IsFit r → KeysTerm field l a → KeysTerm field r b
    → (o ≡ Less → number l < number r) → (o ≡ Greater → number r < number l) → (o ≡ Equal → ⊥) → o ≡ term_cmp a b
by_order field l r a b Less f g p q less greater equal = sym (less_by_keys field l r a b f g p q (less refl))
by_order field l r a b Equal f g p q less greater equal = absurd (equal refl)
by_order field l r a b Greater f g p q less greater equal = sym (greater_by_keys field l r a b f g p q (greater refl))

pub returns-then-left-right : goal.returns-then-left-right
returns-then-left-right c field a b p q =
    let l = c.args.left in
    let r = c.args.right in
    by_order field l r a b c.order_by_word.result (omega arith, omega arith) (omega arith, omega arith) p q
    (λ e. high_below l.high l.low r.high r.low (omega arith) (omega arith) (c.order_by_word.ensures.less e))
    (λ e. high_below r.high r.low l.high l.low (omega arith) (omega arith) (c.order_by_word.ensures.greater e))
    c.order_by_word.ensures.other

pub returns-then-left-right-2 : goal.returns-then-left-right-2
returns-then-left-right-2 c field a b p q =
    let l = c.args.left in
    let r = c.args.right in
    by_order field l r a b c.order_by_word-then-left-right-2.result (omega arith, omega arith) (omega arith, omega arith) p q
    (λ e. low_below l.high l.low r.high r.low c.if-left-right.false (c.order_by_word-then-left-right-2.ensures.less e))
    (λ e. low_below r.high r.low l.high l.low (sym c.if-left-right.false) (c.order_by_word-then-left-right-2.ensures.greater e))
    c.order_by_word-then-left-right-2.ensures.other

pub returns-then-right-lt16 : goal.returns-then-right-lt16
returns-then-right-lt16 c field a b p q =
    let l = c.args.left in
    let r = c.args.right in
    sym (same_by_keys field l r a b p q (one_number l.high l.low r.high r.low c.if-left-right.false c.if-left-right-2.false) c.if-right-lt16.true)
