use Rattle.std.proofs.Common.{◌≡◌, ◌++◌, ◌∙◌, ◌∷◌, sym, rules}
use Rattle.std.specs.Fmt.{decimal}
use Rattle.std.proofs.lemmas.List.{append_assoc, append_cancel_right}
use Rattle.ix_base.proofs.file_name.numbers_before.Goals as goal

pub returns-in_err-strip_suffix-clause-none : goal.returns-in_err-strip_suffix-clause-none
returns-in_err-strip_suffix-clause-none c gone id number own other e =
    let rest : c.in_ok-rest.rest.now ≡ decimal id ++ (95 ∷ (decimal number ++ c.args.end.now)) = search rules in
    let cut : c.in_ok-rest.rest.now ≡ (decimal id ++ (95 ∷ decimal number)) ++ c.args.end.now = rest ∙ sym (append_assoc (decimal id) (95 ∷ decimal number) c.args.end.now) in
    search rules

pub returns-clause-none : goal.returns-clause-none
returns-clause-none c gone id number own other e =
    let rest : c.in_ok-rest.rest.now ≡ decimal id ++ (95 ∷ (decimal number ++ c.args.end.now)) = search rules in
    let cut : c.in_ok-rest.rest.now ≡ (decimal id ++ (95 ∷ decimal number)) ++ c.args.end.now = rest ∙ sym (append_assoc (decimal id) (95 ∷ decimal number) c.args.end.now) in
    let ends : c.in_ok-rest.rest.now ≡ c.in_ok-strip_suffix.field-0.now ++ c.args.end.now = search rules in
    c.two_counted.ensures.none gone id number own other (append_cancel_right c.in_ok-strip_suffix.field-0.now (decimal id ++ (95 ∷ decimal number)) c.args.end.now (sym ends ∙ cut))
