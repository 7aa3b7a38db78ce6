use Rattle.std.proofs.Common.{◌≡◌, ◌∙◌, sym, ap, ◌&&◌, map, rules, Bool, List, ℕ}
use Rattle.std.specs.List.{list_all}
use Rattle.std.proofs.lemmas.Iterator.{YieldsList-from_slice}
use Rattle.std.proofs.lemmas.Iterator.Search.{all_from_yields_List}
use borrow.Author.Tests.{tests}
use Rattle.serde_json.specs.View.{view}
use Rattle.ix_base.specs.Limits.{is_among}
use Rattle.op_script.specs.Values.{member_names, has_only}
use Rattle.op_script.proofs.Names.{list_all-map}
use Rattle.op_script.proofs.members.has_exactly.Goals as goal

pub returns-then-all : goal.returns-then-all
returns-then-all c =
    let among : List ℕ → Bool = is_among (member_names (view c.args.value.now)) in
    let ran : c.all.result ≡ list_all among (map (λ name. name.now) c.args.names.now) =
    all_from_yields_List (λ name. among name.now) _ _ _ c.all.ensures.ran (YieldsList-from_slice c.args.names.now cc) (λ x b q k. search (rules, tests))
    ∙ list_all-map among (λ name. name.now) c.args.names.now in
    c.has_only.ensures ∙ ap (λ (b : Bool). b && has_only (map (λ name. name.now) c.args.names.now) (view c.args.value.now)) (sym c.if-all.true ∙ ran)

pub returns-else-all : goal.returns-else-all
returns-else-all c =
    let among : List ℕ → Bool = is_among (member_names (view c.args.value.now)) in
    let ran : c.all.result ≡ list_all among (map (λ name. name.now) c.args.names.now) =
    all_from_yields_List (λ name. among name.now) _ _ _ c.all.ensures.ran (YieldsList-from_slice c.args.names.now cc) (λ x b q k. search (rules, tests))
    ∙ list_all-map among (λ name. name.now) c.args.names.now in
    c.if-all.false ∙ ap (λ (b : Bool). b && has_only (map (λ name. name.now) c.args.names.now) (view c.args.value.now)) (sym c.if-all.false ∙ ran)
