-- What is known stays known, and an entry's own words are known.
use Rattle.std.proofs.Common.{ℕ, zero, suc, ◌+◌, ◌<◌, ◌≤◌, List, [], ◌∷◌, ◌++◌, length, get_or, ap, ◌∙◌, subst, arith}
use mathlib.Core.Option.{some}
use Rattle.atomic_table.proofs.Lists.{at_longer}
use Rattle.queue_rule.specs.declared.view.Known.{Known}
use Rattle.queue_rule.specs.declared.view.Old.{Old}
use Rattle.queue_rule.specs.Lists.{Each}
use Rattle.queue_rule.specs.Chain.{ChainEntry}
use Rattle.queue_rule.specs.Views.{known, known_from, IsAmong, KnownFrom}
use Rattle.queue_rule.specs.Rule.{KnowsAll, IsOld}
use Rattle.queue_rule.proofs.Lists.{all_more, at_behind}

-- what is known in the first list is known in the second
abbrev pub KnownIn : List Known → List Known → Type 0
KnownIn ks ls = (a x : ℕ) → IsAmong ks a x → IsAmong ls a x

pub in_same : (ks : List Known) → KnownIn ks ks
in_same ks a x h = h

pub in_longer : (ks ls : List Known) → KnownIn ks (ks ++ ls)
in_longer ks ls a x h = (h.0, at_longer ks ls h.0 (known a x) h.1)

pub in_behind : (ks ls : List Known) → KnownIn ls (ks ++ ls)
in_behind ks ls a x h = at_behind ks ls h.0 (known a x) h.1

pub known_at : (at : ℕ) (ws : List ℕ) → KnownFrom (known_from at ws) at ws
known_at at [] d lt = absurd (omega (arith, lt))
known_at at (w ∷ ws) zero lt = (0, ap (λ (n : ℕ). some (known n w)) (omega arith))
known_at at (w ∷ ws) (suc d) lt = let r = known_at (at + 1) ws d (omega (arith, lt)) in (suc r.0, r.1 ∙ ap (λ (n : ℕ). some (known n (get_or ws d 0))) (omega arith))

pub each_known : (P : Known → Type 0) (at : ℕ) (ws : List ℕ) → ((d : ℕ) → d < length ws → P (known (at + d) (get_or ws d 0))) → Each P (known_from at ws)
each_known P at [] h = tt
each_known P at (w ∷ ws) h = (
  subst (λ (n : ℕ). P (known n w)) (omega arith) (h 0 (omega arith)),
  each_known P (at + 1) ws (λ d lt. subst (λ (n : ℕ). P (known n (get_or ws d 0))) (omega arith) (h (suc d) (omega (arith, lt)))),
)

pub known_longer : (ks ls : List Known) (at : ℕ) (ws : List ℕ) → KnownIn ks ls → KnownFrom ks at ws → KnownFrom ls at ws
known_longer ks ls at ws up h d lt = up (at + d) (get_or ws d 0) (h d lt)

pub held_longer : (es : List ChainEntry) (ks ls : List Known) (n m i : ℕ) → KnownIn ks ls → n ≤ m → KnowsAll es ks n i → KnowsAll es ls m i
held_longer es ks ls n m i up le h j e got is = let r = h j e got is in let low = r.0 in (omega (arith, low, le), known_longer ks ls (e.at + 1) e.words up r.1)

pub olds_longer : (es : List ChainEntry) (ks ls : List Known) (n m : ℕ) (os : List Old) → KnownIn ks ls → n ≤ m → Each (IsOld es ks n) os → Each (IsOld es ls m) os
olds_longer es ks ls n m os up le = all_more (IsOld es ks n) (IsOld es ls m) os (λ o h. let a = h.seen_short in let b = h.mine_short in record {
  owns = h.owns;
  seen = h.seen;
  mine = h.mine;
  seen_short = omega (arith, a, le);
  mine_short = omega (arith, b, le);
  held = held_longer es ks ls n m o.number up le h.held;
})
