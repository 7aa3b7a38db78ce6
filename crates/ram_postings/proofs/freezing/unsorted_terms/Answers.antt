use Rattle.std.proofs.Common.{List, [], ◌∷◌, ◌++◌, map, refl, sym, ◌∙◌, subst}
use Rattle.std.specs.Map.Iter.{deref_pair}
use Rattle.std.proofs.lemmas.List.{map-append}
use Rattle.ix_base.specs.declared.document.Term.{Term}
use Rattle.ix_base.specs.declared.postings.Posting.{Posting}
use Rattle.ram_postings.proofs.FrozenTerms.{AreTaken, taken_term, taken_nothing, taken_apart, taken_each, taken_exact}
use Rattle.ram_postings.proofs.freezing.unsorted_terms.Goals as goal

pub loop-key-preserved-in_ok-push : goal.loop-key-preserved-in_ok-push
loop-key-preserved-in_ok-push c =
    let all : List (Term × List Posting) = c.args.lists.now.entries in
    let numbers = c.args.numbers.now in
    let seen : List (Term × List Posting) = map deref_pair c.loop-key.yielded in
    let rest : List (Term × List Posting) = c.next.new.self in
    let before : AreTaken all numbers seen ((c.in-Some.key.now, c.in-Some.list.now) ∷ rest) c.loop-key.terms.items =
    subst (λ (l : List (Term × List Posting)). AreTaken all numbers seen l c.loop-key.terms.items) c.in-Some.ensures.steps c.loop-key.invariant in
    subst (λ (l : List (Term × List Posting)). AreTaken all numbers l rest c.push.new.self.items) (sym (map-append deref_pair c.loop-key.yielded ((c.in-Some.key, c.in-Some.list) ∷ [])))
    (subst (AreTaken all numbers (seen ++ (c.in-Some.key.now, c.in-Some.list.now) ∷ []) rest) (sym c.in_ok-push.ensures.items)
    (taken_term all numbers seen rest c.loop-key.terms.items c.in-Some.key.now c.in_ok-clone_in.field-0 c.in-Some.list.now c.in_ok-rows.rows before
    (c.in_ok-clone_in.ensures ∙ c.term.ensures) (λ e. (let f = c.if-not-has_no_place.ensures.1 e in cc)) c.in_ok-rows.ensures.ordered c.in_ok-rows.ensures.others c.in_ok-rows.ensures.ok))

pub loop-key-preserved : goal.loop-key-preserved
loop-key-preserved c =
    let all : List (Term × List Posting) = c.args.lists.now.entries in
    let numbers = c.args.numbers.now in
    let seen : List (Term × List Posting) = map deref_pair c.loop-key.yielded in
    let rest : List (Term × List Posting) = c.next.new.self in
    let before : AreTaken all numbers seen ((c.in-Some.key.now, c.in-Some.list.now) ∷ rest) c.loop-key.terms.items =
    subst (λ (l : List (Term × List Posting)). AreTaken all numbers seen l c.loop-key.terms.items) c.in-Some.ensures.steps c.loop-key.invariant in
    subst (λ (l : List (Term × List Posting)). AreTaken all numbers l rest c.loop-key.terms.items) (sym (map-append deref_pair c.loop-key.yielded ((c.in-Some.key, c.in-Some.list) ∷ [])))
    (taken_nothing all numbers seen rest c.loop-key.terms.items c.in-Some.key.now c.in-Some.list.now c.in_ok-rows.rows before (c.if-not-has_no_place.ensures.0 refl) c.in_ok-rows.ensures.ok)

pub returns-clause-apart : goal.returns-clause-apart
returns-clause-apart c =
    let all : List (Term × List Posting) = c.args.lists.now.entries in
    let seen : List (Term × List Posting) = map deref_pair c.loop-key.yielded in
    taken_apart all c.args.numbers.now seen c.loop-key.terms.items
    (subst (λ (l : List (Term × List Posting)). AreTaken all c.args.numbers.now seen l c.loop-key.terms.items) c.in-None.ensures.steps.0 c.loop-key.invariant)

pub returns-clause-each : goal.returns-clause-each
returns-clause-each c =
    let all : List (Term × List Posting) = c.args.lists.now.entries in
    let seen : List (Term × List Posting) = map deref_pair c.loop-key.yielded in
    taken_each all c.args.numbers.now seen c.loop-key.terms.items
    (subst (λ (l : List (Term × List Posting)). AreTaken all c.args.numbers.now seen l c.loop-key.terms.items) c.in-None.ensures.steps.0 c.loop-key.invariant)

pub returns-clause-ok : goal.returns-clause-ok
returns-clause-ok c =
    let all : List (Term × List Posting) = c.args.lists.now.entries in
    let seen : List (Term × List Posting) = map deref_pair c.loop-key.yielded in
    taken_exact all c.args.numbers.now seen c.loop-key.terms.items
    (subst (λ (l : List (Term × List Posting)). AreTaken all c.args.numbers.now seen l c.loop-key.terms.items) c.in-None.ensures.steps.0 c.loop-key.invariant)
