use Rattle.std.proofs.Common.{◌≡◌, ◌≢◌, ◌<◌, ℕ, Option, IfSome, IfNone, rules, sym, subst, length, get_or}
use Rattle.std.specs.List.{All}
use Rattle.std.specs.Result.{result_ok}
use Rattle.std.specs.declared.cmp.Ordering.TheVariants.{Equal}
use Rattle.std.proofs.lemmas.Cmp.{tied_itself}
use Rattle.std.proofs.lemmas.Fn.{always_returns_same}
use Rattle.std.proofs.lemmas.List.Elements.{All-weaker}
use Rattle.ix_base.specs.Inversion.{term_cmp, IsPostings}
use Rattle.ix_base.proofs.TermOrder.{term_total, term_same}
use Rattle.ix_base.specs.declared.document.Term.{Term}
use Rattle.ix_base.specs.declared.postings.TermPostings.{TermPostings}
use Rattle.query_core.proofs.Found.{found_at, found_nowhere, none_then, some_then}
use Rattle.query_core.proofs.finding.find_term.Goals as goal

pub returns-clause-found : goal.returns-clause-found
returns-clause-found c =
    let entries = c.args.entries.now in
    let term = c.args.term.now in
    let r = c.binary_search_by.result in
    let h = c.binary_search_by.ensures.position (λ (e : TermPostings). term_cmp e.term term) (always_returns_same _ _ _ (λ a r f k. search rules)) in
    let found = found_at term_cmp term_total (λ (e : TermPostings). e.term) entries term r h c.binary_search_by.ensures.bound in
    let Q : ℕ → Type 0 = λ i. (i < length entries) × ((d : TermPostings) → (get_or entries i d).term ≡ term) in
    subst (λ (o : Option ℕ). IfSome o Q) (sym c.ok.ensures.value)
    (some_then _ Q (result_ok r) (λ i f. (f.0, λ d. term_same (get_or entries i d).term term (f.1 d))) found)

pub returns-clause-none : goal.returns-clause-none
returns-clause-none c =
    let entries = c.args.entries.now in
    let term = c.args.term.now in
    let r = c.binary_search_by.result in
    let h = c.binary_search_by.ensures.position (λ (e : TermPostings). term_cmp e.term term) (always_returns_same _ _ _ (λ a r f k. search rules)) in
    let none = found_nowhere term_cmp term_total (λ (e : TermPostings). e.term) entries term r h in
    let Q : Type 0 = IsPostings entries → All (λ (e : TermPostings). e.term ≢ term) entries in
    subst (λ (o : Option ℕ). IfNone o Q) (sym c.ok.ensures.value)
    (none_then (result_ok r) (λ f lawful. All-weaker (λ e. term_cmp e.term term ≢ Equal) (λ e. e.term ≢ term) (λ e other same. other (subst (λ (t : Term). term_cmp e.term t ≡ Equal) same (tied_itself term_total e.term))) entries (f lawful.rise)) none)
