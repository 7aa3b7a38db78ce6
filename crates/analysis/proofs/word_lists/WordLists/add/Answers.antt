use Rattle.std.proofs.Common.{List, ℕ, ◌&&◌, ◌||◌, ◌==◌, sym, ap, ◌∙◌, subst}
use Rattle.std.specs.Option.{option_copied_mut}
use Rattle.std.specs.Map.{values_of}
use Rattle.std.specs.List.{All}
use Rattle.std.proofs.lemmas.Slice.Eq.{bytes_eq-Decides}
use Rattle.std.proofs.lemmas.Result.{on_ok_weaker}
use Rattle.std.specs.HashMap.{HashMap}
use Rattle.ix_base.specs.Inversion.{posted_at}
use Rattle.ix_base.specs.declared.postings.Posting.{Posting}
use Rattle.analysis.specs.Kept.{kept_in, AddsWord, IsWordList}
use Rattle.analysis.proofs.WordPlaces.{shown, pushed, word_there, word_set, word_push, list_after, list_added, list_found, lists_set, lists_push}
use Rattle.analysis.proofs.word_lists.WordLists.add.Goals as goal

pub push-requires : goal.push-requires
push-requires c = λ r x h.
    let there = sym (c.get_mut.ensures.value) ∙ ap option_copied_mut c.in-Some.is in
    c.requires r x (ap (λ (l : List (List ℕ × List Posting)). kept_in l c.args.word.now r x) (sym c.self.view_is)
    ∙ word_there (λ k. k) _ c.args.word.now c.in-Some.list.now c.self.inside.lists.entries (λ k e. sym ((bytes_eq-Decides c.args.word.now k).0 e)) there r x h)

pub invariant_of-self : goal.invariant_of-self
invariant_of-self c =
    let there = sym (c.get_mut.ensures.value) ∙ ap option_copied_mut c.in-Some.is in
    let new = c.push.new.self in
    let was = list_found _ c.self.inside.lists.entries c.in-Some.list.now c.self.invariant there in
    subst (λ l. All IsWordList (values_of l)) (sym (c.get_mut.follows.holds new).0)
    (lists_set _ c.self.inside.lists.entries new c.self.invariant (list_after c.push.result c.args.row c.args.position c.in-Some.list.now new was c.push.ensures.ordered c.push.ensures.exact c.push.ensures.err))

pub returns-in-Some : goal.returns-in-Some
returns-in-Some c =
    let there = sym (c.get_mut.ensures.value) ∙ ap option_copied_mut c.in-Some.is in
    let new = c.push.new.self in
    let es = c.self.inside.lists.entries in
    let word = c.args.word.now in
    on_ok_weaker c.push.result
    (λ exact.
    subst (λ (l : List (List ℕ × List Posting)). AddsWord c.args.row c.args.position word l (shown (λ k. k) (c.get_mut.follows.lender new).entries)) c.self.view_is
    (subst (λ l. AddsWord c.args.row c.args.position word (shown (λ k. k) es) (shown (λ k. k) l)) (sym (c.get_mut.follows.holds new).0)
    (word_set (λ k. k) _ c.args.row c.args.position word c.in-Some.list.now new es (λ k e. sym ((bytes_eq-Decides word k).0 e)) there exact)))
    c.push.ensures.exact

pub invariant_of-self-2 : goal.invariant_of-self-2
invariant_of-self-2 c =
    let es = c.self.inside.lists.entries in
    let word = c.args.word.now in
    let list = c.push-2.new.self in
    let key = c.in_ok-copy_of.field-0 in
    let none = sym (c.get_mut.ensures.value) ∙ ap option_copied_mut c.in_default.is in
    let after = pushed (λ k. k) word key list _ es c.insert.new.self.entries (ap (λ (m : HashMap _ _ _). m.entries) c.get_mut.follows.holds-at-none) c.in_ok-copy_of.ensures none c.in_ok-insert.ensures.entries in
    subst (λ l. All IsWordList (values_of l)) (sym after)
    (lists_push es key list c.self.invariant (list_added c.args.row c.args.position c.new-list.result list c.in_ok-push.ensures.ordered c.in_ok-push.ensures.exact))

pub returns : goal.returns
returns c =
    let es = c.self.inside.lists.entries in
    let word = c.args.word.now in
    let list = c.push-2.new.self in
    let key = c.in_ok-copy_of.field-0 in
    let none = sym (c.get_mut.ensures.value) ∙ ap option_copied_mut c.in_default.is in
    let after = pushed (λ k. k) word key list _ es c.insert.new.self.entries (ap (λ (m : HashMap _ _ _). m.entries) c.get_mut.follows.holds-at-none) c.in_ok-copy_of.ensures none c.in_ok-insert.ensures.entries in
    subst (λ (l : List (List ℕ × List Posting)). AddsWord c.args.row c.args.position word l (shown (λ k. k) c.insert.new.self.entries)) c.self.view_is
    (subst (λ l. AddsWord c.args.row c.args.position word (shown (λ k. k) es) (shown (λ k. k) l)) (sym after)
    (word_push (λ k. k) c.args.row c.args.position word key list es c.in_ok-copy_of.ensures
    (λ r x. c.in_ok-push.ensures.exact r x ∙ ap (λ (rows : List Posting). posted_at rows r x || ((c.args.row == r) && (c.args.position == x))) c.new-list.ensures)))
