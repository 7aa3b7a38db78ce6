-- What a view reads off the chain.
use Rattle.std.proofs.Common.{◌≡◌, ℕ, zero, suc, ◌+◌, ◌-◌, ◌<◌, ◌≤◌, Bool, if◌then◌else◌, List, [], ◌∷◌, ◌++◌, map, length, get_or, drop, sym, refl, ap, ◌∙◌, subst, arith, eq-eqb, ne_eqb}
use mathlib.Core.Option.{some, some-injective, some-ne-none}
use mathlib.Core.Logic.{dite}
use native.Mathlib.Decide.{ℕ_discrete}
use lib.ListN.{get_elem?}
use Rattle.ix_base.specs.Words.{word_count}
use Rattle.queue_rule.specs.declared.view.View.{View}
use Rattle.queue_rule.specs.declared.view.Own.{Own}
use Rattle.queue_rule.specs.Lists.{Each}
use Rattle.queue_rule.specs.Chain.{ChainEntry, need, own, own_from, Chained}
use Rattle.queue_rule.specs.Views.{known, Knows, KnownFrom}
use Rattle.queue_rule.specs.Rule.{IsKnown, KnowsAll}
use Rattle.queue_rule.specs.Told.{HasOwn, HeadsAt, filled_by}
use Rattle.queue_rule.proofs.Chain.{AllLie, has_words}
use Rattle.queue_rule.proofs.Entries.{at_of, each_at}

-- the head that is known of an entry is its first word
pub known_head : (k : ℕ) (ws : List ℕ) (es : List ChainEntry) (v : View) → AllLie k ws es → Each (IsKnown ws es) v.known → (j a h : ℕ) (e : ChainEntry) → get_elem? es j ≡ some e → e.at ≡ a → Knows v (a + 1) h → get_or e.words 0 0 ≡ h
known_head k ws es v lies all j a h e got place read = let l = lies j e got in let p = each_at (IsKnown ws es) v.known all read.0 (known (a + 1) h) read.1 in
    sym (l.spelled 0 (has_words l)) ∙ (ap (λ (n : ℕ). get_or ws n 0) (omega (arith, place)) ∙ p.present)

-- a next word leads to the next address
pub chain_next : (ws : List ℕ) (p : ℕ) (l : List ℕ) (j a b : ℕ) → Chained ws p l → get_elem? (p ∷ l) j ≡ some a → get_elem? l j ≡ some b → get_or ws a 0 ≡ b
chain_next ws p [] j a b h here behind = absurd (some-ne-none b (sym behind))
chain_next ws p (c ∷ l) zero a b h here behind = ap (λ (n : ℕ). get_or ws n 0) (sym (some-injective p a here)) ∙ (h.0 ∙ some-injective c b behind)
chain_next ws p (c ∷ l) (suc j) a b h here behind = chain_next ws c l j a b h.2 here behind

seen_at : (es : List ChainEntry) (xs rest : List ℕ) (j : ℕ) (e : ChainEntry) → map at_of es ≡ xs ++ rest → get_elem? es j ≡ some e → j < length xs → get_elem? xs j ≡ some e.at
seen_at es [] rest j e h got lt = absurd (omega (arith, lt))
seen_at [] (x ∷ xs) rest j e h got lt = absurd (some-ne-none e (sym got))
seen_at (y ∷ es) (x ∷ xs) rest zero e h got lt = ap some (sym (ap (λ l. get_or l 0 0) h) ∙ ap at_of (some-injective y e got))
seen_at (y ∷ es) (x ∷ xs) rest (suc j) e h got lt = seen_at es xs rest j e (ap (drop 1) h) got (omega (arith, lt))

-- an own entry is an entry of the chain, at its place
abbrev pub IsOwnAt : ℕ → ℕ → List ChainEntry → Own → Type 0
IsOwnAt i p es o = (j : ℕ) × (e : ChainEntry) × (get_elem? es j ≡ some e) × (e.seat ≡ i) × (o ≡ own (p + j) e.words)

own_behind : (i p : ℕ) (x : ChainEntry) (es : List ChainEntry) (o : Own) → IsOwnAt i (p + 1) es o → IsOwnAt i p (x ∷ es) o
own_behind i p x es o t = (suc t.0, t.1, t.2, t.3, t.4 ∙ ap (λ (n : ℕ). own n t.1.words) (omega arith))

pub own_place : (i p : ℕ) (es : List ChainEntry) (q : ℕ) (o : Own) → get_elem? (own_from i p es) q ≡ some o → IsOwnAt i p es o
own_place i p [] q o h = absurd (some-ne-none o (sym h))
own_place i p (e ∷ es) zero o h = dite (ℕ_discrete e.seat i)
    (λ is. let here = subst (λ (b : Bool). get_elem? (if b then own p e.words ∷ own_from i (p + 1) es else own_from i (p + 1) es) 0 ≡ some o) (eq-eqb e.seat i is) h in
    (0, e, refl, is, sym (some-injective (own p e.words) o here) ∙ ap (λ (n : ℕ). own n e.words) (omega arith)))
    (λ other. own_behind i p e es o (own_place i (p + 1) es 0 o (subst (λ (b : Bool). get_elem? (if b then own p e.words ∷ own_from i (p + 1) es else own_from i (p + 1) es) 0 ≡ some o) (ne_eqb e.seat i other) h)))
own_place i p (e ∷ es) (suc q) o h = dite (ℕ_discrete e.seat i)
    (λ is. own_behind i p e es o (own_place i (p + 1) es q o (subst (λ (b : Bool). get_elem? (if b then own p e.words ∷ own_from i (p + 1) es else own_from i (p + 1) es) (suc q) ≡ some o) (eq-eqb e.seat i is) h)))
    (λ other. own_behind i p e es o (own_place i (p + 1) es (suc q) o (subst (λ (b : Bool). get_elem? (if b then own p e.words ∷ own_from i (p + 1) es else own_from i (p + 1) es) (suc q) ≡ some o) (ne_eqb e.seat i other) h)))

-- own entries are seen at their places, and their words are known
pub has_own : (es : List ChainEntry) (v : View) (unseen : List ℕ) → map at_of es ≡ v.seen ++ unseen → (os : List Own) (i : ℕ) → os ≡ own_from i 1 es → KnowsAll es v.known (length v.seen) i → HasOwn v os
has_own es v unseen seen os i is held q o got =
    let t = own_place i 1 es q o (subst (λ (l : List Own). get_elem? l q ≡ some o) is got) in
    let r = held t.0 t.1 t.2 t.3 in
    let place : o.place ≡ 1 + t.0 = ap (λ (x : Own). x.place) t.4 in
    let behind : o.place - 1 ≡ t.0 = omega (arith, place) in (
      t.1.at,
      omega (arith, place),
      ap (get_elem? v.seen) behind ∙ seen_at es v.seen unseen t.0 t.1 seen t.2 r.0,
      subst (λ (l : List ℕ). KnownFrom v.known (t.1.at + 1) l) (sym (ap (λ (x : Own). x.words) t.4)) r.1,
    )

unfoldable pub needs : List ChainEntry → ℕ
needs [] = 0
needs (e ∷ es) = need e + needs es

-- entries whose heads are known take no more than all entries
pub heads_needs : (es : List ChainEntry) (v : View) (xs rest hs : List ℕ) → ((j : ℕ) (e : ChainEntry) → get_elem? es j ≡ some e → (h : ℕ) → Knows v (e.at + 1) h → word_count h + 1 ≡ need e)
    → map at_of es ≡ xs ++ rest → HeadsAt v xs hs → filled_by hs ≤ needs es
unfolding needs
heads_needs es v xs rest [] n m h = omega arith
heads_needs es v [] rest (x ∷ hs) n m h = absurd h
heads_needs [] v (a ∷ xs) rest (x ∷ hs) n m h = let z : 0 ≡ 1 + length (xs ++ rest) = ap length m ∙ omega arith in absurd (omega (arith, z))
heads_needs (e ∷ es) v (a ∷ xs) rest (x ∷ hs) n m h =
    let here : e.at ≡ a = ap (λ l. get_or l 0 0) m in
    let r = heads_needs es v xs rest hs (λ j y g. n (suc j) y g) (ap (drop 1) m) h.1 in
    let c = n 0 e refl x (subst (λ (y : ℕ). Knows v (y + 1) x) (sym here) h.0) in omega (arith, r, c)
