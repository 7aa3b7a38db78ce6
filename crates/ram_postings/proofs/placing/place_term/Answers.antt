use Rattle.std.proofs.Common.{rules, ◌≡◌, ◌<◌, ℕ, zero, suc, Option, Some, None, true, false, List, ◌∷◌, [], sym, ap, ◌∙◌, subst, arith}
use Rattle.std.specs.Option.{option_map_or, option_copied_mut}
use Rattle.std.specs.Map.{lookup}
use Rattle.std.specs.HashMap.{HashMap}
use Rattle.std.specs.Ordering.{eq_by_cmp}
use Rattle.ix_base.specs.Inversion.{posted_at, term_cmp}
use Rattle.ix_base.specs.declared.document.Term.{Term}
use Rattle.ix_base.specs.declared.postings.Posting.{Posting}
use Rattle.ram_postings.specs.Kept.{kept, number_of, HasNoNumber}
use Rattle.ram_postings.proofs.KeptLists.{Puts, put_others, put_other_terms}
use Rattle.ram_postings.proofs.placing.place_term.Goals as goal

-- a single number is that of row 0 alone
lone : (mark m s : ℕ) → number_of (Some mark ∷ []) m ≡ Some s → s ≡ mark
lone mark zero s e = cc
lone mark (suc m) s e = cc

no_other : (mark r : ℕ) → (r ≡ mark → ⊥) → HasNoNumber (Some mark ∷ []) r
no_other mark r ne m e = ne (lone mark m r e)

-- what the list of a term that was found has, and of one that wasn't
found : (lists : List (Term × List Posting)) (key : Term) (rows : List Posting) → Some rows ≡ lookup (eq_by_cmp term_cmp key) lists → (r x : ℕ) → kept lists key r x ≡ posted_at rows r x
found lists key rows e r x = ap (λ (o : Option (List Posting)). option_map_or (λ rows. posted_at rows r x) o false) (sym e)

absent : (lists : List (Term × List Posting)) (key : Term) → None ≡ lookup (eq_by_cmp term_cmp key) lists → (r x : ℕ) → kept lists key r x ≡ posted_at [] r x
absent lists key e r x = ap (λ (o : Option (List Posting)). option_map_or (λ rows. posted_at rows r x) o false) (sym e)

pub put_renumbered-requires-clause-below : goal.put_renumbered-requires-clause-below
put_renumbered-requires-clause-below c = λ r x m s h e.
    let there : Some c.in-Some.list.now ≡ lookup (eq_by_cmp term_cmp c.new-key.result) c.args.lists.now.entries = sym (ap option_copied_mut c.in-Some.is) ∙ c.get_mut.ensures.value in
    let at : kept c.args.lists.now.entries c.new-key.result r x ≡ true = found c.args.lists.now.entries c.new-key.result c.in-Some.list.now there r x ∙ h in
    let low : r < c.args.mark = c.requires r x (subst (λ (t : Term). kept c.args.lists.now.entries t r x ≡ true) c.new-key.ensures at) in
    let same : s ≡ c.args.mark = lone c.args.mark m s e in
    omega arith

pub returns-in-Some-clause-others : goal.returns-in-Some-clause-others
returns-in-Some-clause-others c =
    let there : Some c.in-Some.list.now ≡ lookup (eq_by_cmp term_cmp c.new-key.result) c.args.lists.now.entries = sym (ap option_copied_mut c.in-Some.is) ∙ c.get_mut.ensures.value in
    put_others c.args.lists.now.entries (c.get_mut.follows.lender c.put_renumbered.new.list).entries c.new-key.result c.in-Some.list.now c.put_renumbered.new.list c.args.mark
    (((c.get_mut.follows.holds c.put_renumbered.new.list).3 (search rules)).0)
    (found c.args.lists.now.entries c.new-key.result c.in-Some.list.now there)
    (λ r x ne. c.put_renumbered.ensures.others r x (no_other c.args.mark r ne))

pub returns-in-Some-clause-other_terms : goal.returns-in-Some-clause-other_terms
returns-in-Some-clause-other_terms c = λ t x ne.
    put_other_terms c.args.lists.now.entries (c.get_mut.follows.lender c.put_renumbered.new.list).entries c.new-key.result c.put_renumbered.new.list
    (((c.get_mut.follows.holds c.put_renumbered.new.list).3 (search rules)).0) t c.args.mark x (λ e. ne (e ∙ c.new-key.ensures))

pub returns-clause-others : goal.returns-clause-others
returns-clause-others c =
    let none : None ≡ lookup (eq_by_cmp term_cmp c.new-key.result) c.args.lists.now.entries = sym (ap option_copied_mut c.in_default.is) ∙ c.get_mut.ensures.value in
    put_others c.args.lists.now.entries c.insert.new.self.entries c.new-key.result [] c.put_renumbered-2.new.list c.args.mark
    (subst (λ (m : HashMap Term (List Posting) _). Puts m.entries c.insert.new.self.entries c.new-key.result c.put_renumbered-2.new.list) (c.get_mut.follows.holds-at-none) c.in_ok-insert.ensures.updates.0)
    (absent c.args.lists.now.entries c.new-key.result none)
    (λ r x ne. c.put_renumbered-2.ensures.others r x (no_other c.args.mark r ne) ∙ ap (λ (rows : List Posting). posted_at rows r x) c.new-list.ensures)

pub returns-clause-other_terms : goal.returns-clause-other_terms
returns-clause-other_terms c = λ t x ne.
    put_other_terms c.args.lists.now.entries c.insert.new.self.entries c.new-key.result c.put_renumbered-2.new.list
    (subst (λ (m : HashMap Term (List Posting) _). Puts m.entries c.insert.new.self.entries c.new-key.result c.put_renumbered-2.new.list) (c.get_mut.follows.holds-at-none) c.in_ok-insert.ensures.updates.0) t c.args.mark x (λ e. ne (e ∙ c.new-key.ensures))
