use Rattle.std.proofs.Common.{◌≡◌, ◌∷◌, ℕ, List, rules, subst, sym}
use Rattle.std.specs.Option.{IfSome}
use Rattle.ix_base.specs.Inversion.{IsPostings}
use Rattle.ix_base.specs.declared.postings.TermPostings.{TermPostings}
use Rattle.merge_postings.specs.Keys.{KeysTerm}
use Rattle.merge_postings.specs.Walk.{AreAlike, IsBelow, IsLater, Waiting, waiting}
use Rattle.merge_postings.proofs.Alike.{alike_next, key_passed}
use Rattle.merge_postings.proofs.Queued.{next_rises, tail_ordered}
use Rattle.merge_postings.proofs.head.Head.pass.Goals as goal

pub invariant_of-self : goal.invariant_of-self
invariant_of-self c =
    let is : c.self.inside.rest.now ≡ c.in-Some.first.now ∷ c.in-Some.rest.now = search rules in
    let known : AreAlike c.known_alike-known.result c.self.inside.first.now (c.in-Some.first.now ∷ c.in-Some.rest.now) =
    subst (λ (es : List TermPostings). AreAlike c.known_alike-known.result c.self.inside.first.now es) is
    (subst (λ (w : Waiting). AreAlike c.known_alike-known.result w.first w.rest) (sym c.self.view_is) c.known_alike-known.ensures.alike) in (
      record {
        ordered = subst IsPostings is (tail_ordered c.self.inside.first.now c.self.inside.rest.now c.self.invariant.0.ordered);
        rise = c.self.invariant.0.rise;
      },
      subst (λ (count : ℕ). AreAlike count c.in-Some.first.now c.in-Some.rest.now) (sym c.saturating_sub-self-inside.ensures)
          (alike_next c.known_alike-known.result c.self.inside.first.now c.in-Some.first.now c.in-Some.rest.now known),
    )

pub returns-clause-rises : goal.returns-clause-rises
returns-clause-rises c = λ _.
    let is : c.self.inside.rest.now ≡ c.in-Some.first.now ∷ c.in-Some.rest.now = search rules in
    subst (λ (w : Waiting). IsBelow w.first.term c.in-Some.first.now.term) c.self.view_is
    (subst (λ (es : List TermPostings). IfSome (waiting es c.self.inside.numbers.now) (λ (next : Waiting). IsBelow c.self.inside.first.now.term next.first.term)) is
    (next_rises c.self.inside.first.now c.self.inside.rest.now c.self.inside.numbers.now c.self.invariant.0.ordered))

pub returns-clause-key : goal.returns-clause-key
returns-clause-key c _ field was =
    let known = c.known_alike-known.result in
    let old = c.self.inside.first.now in
    let next = c.in-Some.first.now in
    let rest = c.in-Some.rest.now in
    let is : c.self.inside.rest.now ≡ c.in-Some.first.now ∷ c.in-Some.rest.now = search rules in
    let below : IsBelow old.term next.term =
    subst (λ (es : List TermPostings). IfSome (waiting es c.self.inside.numbers.now) (λ (w : Waiting). IsBelow old.term w.first.term)) is
    (next_rises old c.self.inside.rest.now c.self.inside.numbers.now c.self.invariant.0.ordered) in
    let alike : AreAlike known old (next ∷ rest) =
    subst (λ (es : List TermPostings). AreAlike known old es) is
    (subst (λ (w : Waiting). AreAlike known w.first w.rest) (sym c.self.view_is) c.known_alike-known.ensures.alike) in
    let later : known ≡ 0 → IsLater old (next ∷ rest) = λ none.
    subst (λ (es : List TermPostings). IsLater old es) is
    (subst (λ (w : Waiting). IsLater w.first w.rest) (sym c.self.view_is) (c.known_alike-known.ensures.none none)) in
    key_passed field c.args.key.now c.key_behind.result known old next rest below alike later
    (λ some f other h same. c.key_behind.ensures.alike some f other h same) c.key_behind.ensures.later
    (subst (λ (w : Waiting). KeysTerm field c.args.key.now w.first.term) (sym c.self.view_is) was)
