use Rattle.std.proofs.Common.{◌∷◌, ◌++◌, [], ℕ, List, sym, subst}
use Rattle.ix_base.specs.declared.postings.TermPostings.{TermPostings}
use Rattle.analysis.specs.Kept.{FieldLists, AreTermsOf}
use Rattle.analysis.proofs.AllTerms.{AreTaken, taken_begin, taken_step, taken_all}
use Rattle.analysis.proofs.field_lists.all_terms.Goals as goal

pub loop-key-init : goal.loop-key-init
loop-key-init c =
    let all : FieldLists = c.args.fields.entries in
    let gives = c.into_iter-key-iterator.ensures.into_iter_gives in
    subst (λ (l : FieldLists). AreTaken all [] l c.new-terms.result.items) (sym gives.0)
    (subst (λ (l : List TermPostings). AreTaken all [] all l) (sym c.new-terms.ensures.items) (taken_begin all gives.5))

pub loop-key-preserved : goal.loop-key-preserved
loop-key-preserved c =
    let all : FieldLists = c.args.fields.entries in
    let seen : FieldLists = c.loop-key.yielded in
    let rest : FieldLists = c.next.new.self in
    let key : List ℕ = c.in-Some.key in
    let made = c.in_ok-made.made.items in
    let before : AreTaken all seen ((key, c.in-Some.words) ∷ rest) c.loop-key.terms.items = subst (λ (l : FieldLists). AreTaken all seen l c.loop-key.terms.items) c.in-Some.ensures.steps c.loop-key.invariant in
    let terms : AreTermsOf key c.in-Some.words made = subst (λ (n : List ℕ). AreTermsOf n c.in-Some.words made) c.name.ensures c.in_ok-made.ensures in
    subst (λ (l : List TermPostings). AreTaken all (seen ++ (key, c.in-Some.words) ∷ []) rest l) (sym c.in_ok-append.ensures.items)
    (taken_step all seen rest key c.in-Some.words c.loop-key.terms.items made before terms)

pub returns : goal.returns
returns c =
    let all : FieldLists = c.args.fields.entries in
    taken_all all c.loop-key.yielded c.loop-key.terms.items (subst (λ (l : FieldLists). AreTaken all c.loop-key.yielded l c.loop-key.terms.items) c.in-None.ensures.steps.0 c.loop-key.invariant)
