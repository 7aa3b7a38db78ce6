use Rattle.std.proofs.Common.{◌≡◌, ◌∙◌, sym, ap, codes, string_bytes, rules, List, ℕ, Bool, Some, option_and_then}
use Rattle.std.specs.List.{list_any}
use Rattle.std.specs.Map.Iter.{deref}
use Rattle.std.proofs.lemmas.Iterator.Search.{any_from_yields_List}
use Rattle.std.proofs.lemmas.Iterator.Consumers.{YieldsList-from_rest}
use borrow.Author.Tests.{tests}
use Rattle.serde_json.specs.Find.{get, as_object}
use Rattle.serde_json.specs.View.{view, members_view}
use Rattle.ix_base.specs.Limits.{is_among}
use Rattle.op_script.specs.Documents.{names_at}
use Rattle.op_script.proofs.Names.{list_any-map, names_of-members_view}
use Rattle.op_script.proofs.Pairs.{names_at-object}
use Rattle.op_script.proofs.document_check.share_name.Goals as goal

pub returns-in-Some : goal.returns-in-Some
returns-in-Some c =
    let entries = c.in-Some.members.now.entries in
    let value = view c.args.value.now in
    let among : List ℕ → Bool = is_among (names_at (codes "exact") value) in
    let is : Some (members_view entries) ≡ option_and_then as_object (get (codes "text") value) = search rules in
    any_from_yields_List (λ key. among (string_bytes key)) _ _ _ c.any.ensures.ran (YieldsList-from_rest {shows = deref} _ c.keys.ensures.rest) (λ x b q k. search (rules, tests))
    ∙ sym (list_any-map (λ key. among (string_bytes key)) (λ m. m.0) entries)
    ∙ list_any-map among (λ m. string_bytes m.0) entries
    ∙ ap (list_any among) (sym (names_at-object (codes "text") value (members_view entries) is ∙ names_of-members_view entries))
