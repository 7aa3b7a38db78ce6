use Rattle.std.proofs.Common.{◌≡◌, ◌<◌, ◌⊎◌, inl, inr, ◌∙◌, ap, sym, option_and_then}
use Rattle.clap.specs.Matches.{found_of, one_text}
use Rattle.clap.proofs.WalkLemmas.{one_text-rows}
use Rattle.command_words.specs.Accepted.{number_text}
use Rattle.command_words.proofs.ReadNumbers.{within, within-inside, within-outside, number_read}
use Rattle.command_words.proofs.numbers.number_in.Goals as goal

pub returns-in_err-number-clause-number : goal.returns-in_err-number-clause-number
returns-in_err-number-clause-number c =
    let low = c.args.low in
    let high = c.args.high in
    let found = found_of c.args.matches.now in
    let read : option_and_then (within low high) c.get_one.result ≡ option_and_then (number_text low high) (one_text found c.args.name.now) =
    number_read low high _ c.get_one.result c.get_one.ensures.none c.get_one.ensures.value in
    c.from_residual.ensures ∙ sym (ap (option_and_then (within low high)) c.in_err-number.was) ∙ read ∙ ap (option_and_then (number_text low high)) (one_text-rows found c.args.name.now)

pub returns-then-number-high-clause-number : goal.returns-then-number-high-clause-number
returns-then-number-high-clause-number c =
    let low = c.args.low in
    let high = c.args.high in
    let found = found_of c.args.matches.now in
    let read : option_and_then (within low high) c.get_one.result ≡ option_and_then (number_text low high) (one_text found c.args.name.now) =
    number_read low high _ c.get_one.result c.get_one.ensures.none c.get_one.ensures.value in
    sym (ap (option_and_then (within low high)) c.in_ok-number.was ∙ within-inside low high c.in_ok-number.number c.if-low-number.true c.if-number-high.true)
    ∙ read ∙ ap (option_and_then (number_text low high)) (one_text-rows found c.args.name.now)

pub returns-else-low-number-clause-number : goal.returns-else-low-number-clause-number
returns-else-low-number-clause-number c =
    let low = c.args.low in
    let high = c.args.high in
    let found = found_of c.args.matches.now in
    let read : option_and_then (within low high) c.get_one.result ≡ option_and_then (number_text low high) (one_text found c.args.name.now) =
    number_read low high _ c.get_one.result c.get_one.ensures.none c.get_one.ensures.value in
    let outside : (c.in_ok-number.number < low) ⊎ (high < c.in_ok-number.number) = elim c.else-low-number.either [ inl h ↦ inr h.1 | inr h ↦ inl h ] in
    sym (ap (option_and_then (within low high)) c.in_ok-number.was ∙ within-outside low high c.in_ok-number.number outside)
    ∙ read ∙ ap (option_and_then (number_text low high)) (one_text-rows found c.args.name.now)
