-- Entries that stay in front of those that are put.
use Rattle.std.proofs.Common.{◌≡◌, ◌∙◌, List, [], ◌∷◌, ◌++◌, length, take, refl, sym, ap, subst}
use Rattle.ix_base.specs.declared.postings.TermPostings.{TermPostings}
use Rattle.merge_postings.specs.Steps.{IsFront}

take_self : (es : List TermPostings) → take (length es) es ≡ es
take_self [] = refl
take_self (e ∷ es) = ap (λ (l : List TermPostings). e ∷ l) (take_self es)

pub front_same : (es : List TermPostings) → IsFront es es
front_same es = take_self es

front_joined : (old more : List TermPostings) → IsFront old (old ++ more)
front_joined [] more = refl
front_joined (e ∷ es) more = ap (λ (l : List TermPostings). e ∷ l) (front_joined es more)

pub front_push : (old new : List TermPostings) (e : TermPostings) → new ≡ old ++ e ∷ [] → IsFront old new
front_push old new e is = subst (IsFront old) (sym is) (front_joined old (e ∷ []))

cons_inj : (a b : TermPostings) (xs ys : List TermPostings) → a ∷ xs ≡ b ∷ ys → xs ≡ ys
cons_inj a b xs ys e = cc

head_inj : (a b : TermPostings) (xs ys : List TermPostings) → a ∷ xs ≡ b ∷ ys → a ≡ b
head_inj a b xs ys e = cc

-- a front of a front is one
pub front_then : (a b c : List TermPostings) → IsFront a b → IsFront b c → IsFront a c
front_then [] b c p q = refl
front_then (x ∷ a) [] c p q = absurd (cc)
front_then (x ∷ a) (y ∷ b) [] p q = absurd (cc)
front_then (x ∷ a) (y ∷ b) (z ∷ c) p q =
    let first : y ≡ x = head_inj y x (take (length a) b) a p in
    let next : z ≡ y = head_inj z y (take (length b) c) b q in
    let rest = front_then a b c (cons_inj y x (take (length a) b) a p) (cons_inj z y (take (length b) c) b q) in
    λ i. (next ∙ first) i ∷ rest i
