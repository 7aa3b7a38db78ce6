use Rattle.std.proofs.Common.{◌∙◌, sym, ap, map, string_bytes, rules, List, ℕ, Bool}
use Rattle.std.specs.List.{list_all}
use Rattle.std.specs.Map.Iter.{deref}
use Rattle.std.proofs.lemmas.Iterator.Search.{all_from_yields_List}
use Rattle.std.proofs.lemmas.Iterator.Consumers.{YieldsList-from_rest}
use borrow.Author.Tests.{tests}
use Rattle.serde_json.specs.View.{view, members_view}
use Rattle.ix_base.specs.Limits.{is_among}
use Rattle.op_script.proofs.Names.{list_all-map, names_of-members_view, names_in}
use Rattle.op_script.proofs.members.has_only.Goals as goal

pub returns-in-Some : goal.returns-in-Some
returns-in-Some c =
    let entries = c.in-Some.members.now.entries in
    let among : List ℕ → Bool = is_among (map (λ name. name.now) c.args.names.now) in
    all_from_yields_List (λ key. among (string_bytes key)) _ _ _ c.all.ensures.ran (YieldsList-from_rest {shows = deref} _ c.keys.ensures.rest) (λ x b q k. search (rules, tests))
    ∙ sym (list_all-map (λ key. among (string_bytes key)) (λ m. m.0) entries)
    ∙ list_all-map among (λ m. string_bytes m.0) entries
    ∙ ap (list_all among) (sym (names_in (view c.args.value.now) (members_view entries) c.in-Some.ensures ∙ names_of-members_view entries))
