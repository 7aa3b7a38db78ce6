-- Where a term can stand among entries that are in the order of their terms.
use Rattle.std.proofs.Common.{◌≡◌, ◌≢◌, ℕ, ◌+◌, ◌-◌, ◌<◌, ◌≤◌, List, length, get_or, drop, min, slice_range, ◌⊎◌, inl, inr, sym, ap, subst, ◌∙◌, arith}
use Rattle.std.specs.List.{All}
use Rattle.std.specs.declared.cmp.Ordering.TheVariants.{Less, Equal, Greater}
use Rattle.std.proofs.lemmas.Bool.{cases_order}
use Rattle.std.proofs.lemmas.Cmp.{tied_itself}
use Rattle.std.proofs.lemmas.List.{get_or_default, get_or-take, get_or-drop, length-take, length-drop}
use Rattle.std.proofs.lemmas.List.Elements.{All-take, All-drop}
use Rattle.ix_base.specs.Inversion.{term_cmp, IsPostings, IsTermPostings}
use Rattle.ix_base.proofs.TermOrder.{term_total, term_same}
use Rattle.ix_base.specs.declared.document.Term.{Term}
use Rattle.ix_base.specs.declared.postings.TermPostings.{TermPostings}
use Rattle.query_core.specs.Finding.{IsTermAt, StandsNotBefore, StandsWithin}

apart : (a b : Term) → term_cmp a b ≡ Less → a ≢ b
apart a b less e = let q : Less ≡ Equal = sym less ∙ ap (term_cmp a) (sym e) ∙ tied_itself term_total a in cc

module _ (entries : List TermPostings) (lawful : IsPostings entries) (term : Term) where
  -- the entry at a place comes before the term: no entry up to it is the term's
  pub after_less : (at : ℕ) (e : TermPostings) → at < length entries → term_cmp (get_or entries at e).term term ≡ Less → StandsNotBefore entries term (at + 1)
  after_less at e within less k d lt is = go (cases_order k at)
    where
      here : term_cmp (get_or entries at d).term term ≡ Less
      here = ap (λ (p : TermPostings). term_cmp p.term term) (get_or_default entries at d e within) ∙ less

      go : (k ≡ at) ⊎ ((k < at) ⊎ (at < k)) → at + 1 ≤ k
      go (inl same) = absurd (apart (get_or entries at d).term term here (ap (λ i. (get_or entries i d).term) (sym same) ∙ is))
      go (inr (inl below)) =
          let first : term_cmp (get_or entries k d).term (get_or entries at d).term ≡ Less = lawful.rise k at d below within in
          absurd (apart (get_or entries k d).term term (term_total.trans (get_or entries k d).term (get_or entries at d).term term first here) is)
      go (inr (inr above)) = omega arith

  -- the entry at a place comes after the term: so does each behind it
  pub before_greater : (at : ℕ) (e : TermPostings) → at < length entries → term_cmp (get_or entries at e).term term ≡ Greater → (k : ℕ) (d : TermPostings) → k < length entries → (get_or entries k d).term ≡ term → k < at
  before_greater at e within greater k d lt is = go (cases_order k at)
    where
      here : term_cmp (get_or entries at d).term term ≡ Greater
      here = ap (λ (p : TermPostings). term_cmp p.term term) (get_or_default entries at d e within) ∙ greater

      go : (k ≡ at) ⊎ ((k < at) ⊎ (at < k)) → k < at
      go (inl same) =
          let tied : term_cmp (get_or entries at d).term term ≡ Equal = ap (λ (t : Term). term_cmp t term) (ap (λ i. (get_or entries i d).term) (sym same) ∙ is) ∙ tied_itself term_total term in
          let q : Greater ≡ Equal = sym here ∙ tied in cc
      go (inr (inl below)) = below
      go (inr (inr above)) =
          let next : term_cmp (get_or entries at d).term (get_or entries k d).term ≡ Less = lawful.rise at k d above lt in
          let q : Greater ≡ Less = sym here ∙ ap (term_cmp (get_or entries at d).term) (sym is) ∙ next in cc

  -- the entry at a place is the term's: no other is
  pub at_equal : (at : ℕ) (e : TermPostings) → at < length entries → term_cmp (get_or entries at e).term term ≡ Equal → StandsWithin entries term at (at + 1)
  at_equal at e within equal k d lt is = go (cases_order k at)
    where
      same : (get_or entries at d).term ≡ (get_or entries k d).term
      same = ap (λ (p : TermPostings). p.term) (get_or_default entries at d e within) ∙ (term_same (get_or entries at e).term term equal ∙ sym is)

      go : (k ≡ at) ⊎ ((k < at) ⊎ (at < k)) → (at ≤ k) × (k < at + 1)
      go (inl here) = (omega arith, omega arith)
      go (inr (inl below)) = absurd (apart (get_or entries k d).term (get_or entries at d).term (lawful.rise k at d below within) (sym same))
      go (inr (inr above)) = absurd (apart (get_or entries at d).term (get_or entries k d).term (lawful.rise at k d above lt) same)

-- ---- a part of a list

module _ {X : Type 0} (xs : List X) (from to : ℕ) where
  -- a place in the part is a place of the list
  pub inside : (k : ℕ) → k < length (slice_range xs from to) → (k < to - from) × (from + k < length xs)
  inside k lt =
      let long : length (slice_range xs from to) ≡ min (to - from) (length (drop from xs)) = length-take (to - from) (drop from xs) in
      let rest : length (drop from xs) ≡ length xs - from = length-drop from xs in
      (omega arith, omega arith)

  pub part_at : (k : ℕ) (d : X) → k < length (slice_range xs from to) → get_or (slice_range xs from to) k d ≡ get_or xs (from + k) d
  part_at k d lt = get_or-take (to - from) (drop from xs) k d (inside k lt).0 ∙ get_or-drop from xs k d

  -- a place of the list within the bounds is one of the part
  pub in_part : (k : ℕ) → to ≤ length xs → from ≤ k → k < to → (k - from < length (slice_range xs from to)) × (from + (k - from) ≡ k)
  in_part k end first last =
      let long : length (slice_range xs from to) ≡ min (to - from) (length (drop from xs)) = length-take (to - from) (drop from xs) in
      let rest : length (drop from xs) ≡ length xs - from = length-drop from xs in
      (omega arith, omega arith)

-- ---- a part of the entries

module _ (entries : List TermPostings) (from to : ℕ) where
  pub part_lawful : IsPostings entries → IsPostings (slice_range entries from to)
  part_lawful lawful =
      record {
        rise = λ i j d lt within.
            subst (λ (a : TermPostings). term_cmp a.term (get_or (slice_range entries from to) j d).term ≡ Less) (sym (part_at entries from to i d (omega arith)))
            (subst (λ (b : TermPostings). term_cmp (get_or entries (from + i) d).term b.term ≡ Less) (sym (part_at entries from to j d within)) (lawful.rise (from + i) (from + j) d (omega arith) (inside entries from to j within).1));
        each = All-take IsTermPostings (to - from) (drop from entries) (All-drop IsTermPostings from entries lawful.each);
      }

  pub part_found : (term : Term) (i : ℕ) → IsTermAt (slice_range entries from to) term i → IsTermAt entries term (from + i)
  part_found term i found = ((inside entries from to i found.0).1, λ d. ap (λ (p : TermPostings). p.term) (sym (part_at entries from to i d found.0)) ∙ found.1 d)

  -- a term that stands within the part, and not in it, stands nowhere
  pub part_nowhere : (term : Term) → to ≤ length entries → StandsWithin entries term from to → All (λ p. p.term ≢ term) (slice_range entries from to) → All (λ p. p.term ≢ term) entries
  part_nowhere term end stands none k d lt is =
      let within : (from ≤ k) × (k < to) = stands k d lt is in
      let place = in_part entries from to k end within.0 within.1 in
      none (k - from) d place.0 (ap (λ (p : TermPostings). p.term) (part_at entries from to (k - from) d place.0) ∙ ap (λ i. (get_or entries i d).term) place.1 ∙ is)
