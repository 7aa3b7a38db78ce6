use Rattle.std.proofs.Common.{◌≡◌, Bool, true, false, ◌||◌, List, ℕ, Some, None, sym, ap, ◌∙◌}
use Rattle.ix_base.specs.Limits.{text_lt}
use Rattle.ix_base.proofs.ReadLoops.{left_by-last}
use Rattle.ix_base.specs.declared.postings.TermPostings.{TermPostings}
use Rattle.segment_files.proofs.read_terms.term_may_come.Goals as goal

first : (a b r : Bool) → r ≡ a → r ≡ true → r ≡ (a || b)
first a b r e h = h ∙ ap (λ (x : Bool). x || b) (sym (sym e ∙ h))

second : (a b q r : Bool) → q ≡ a → q ≡ false → r ≡ b → r ≡ (a || b)
second a b q r e h is = is ∙ ap (λ (x : Bool). x || b) (sym (sym e ∙ h))

pub returns-then-lt : goal.returns-then-lt
returns-then-lt c =
    let e = left_by-last (λ (entry : TermPostings). Some entry.term) None c.args.entries.now c.in-Some.entry.now c.in-Some.ensures.item.3.0 c.in-Some.ensures.item.1 in
    let lower = c.lt.ensures ∙ ap (λ (t : List ℕ). text_lt t c.as_str-in-Some.result.now) c.as_str.ensures.bytes ∙ ap (λ (t : List ℕ). text_lt c.in-Some.entry.now.term.field t) c.as_str-in-Some.ensures.bytes in
    rw e (first _ (text_lt c.in-Some.entry.now.term.bytes c.args.bytes.now) c.lt.result lower c.if-lt.true)

pub returns-else-lt : goal.returns-else-lt
returns-else-lt c =
    let e = left_by-last (λ (entry : TermPostings). Some entry.term) None c.args.entries.now c.in-Some.entry.now c.in-Some.ensures.item.3.0 c.in-Some.ensures.item.1 in
    let lower = c.lt.ensures ∙ ap (λ (t : List ℕ). text_lt t c.as_str-in-Some.result.now) c.as_str.ensures.bytes ∙ ap (λ (t : List ℕ). text_lt c.in-Some.entry.now.term.field t) c.as_str-in-Some.ensures.bytes in
    let below = c.lt-else-lt.ensures ∙ ap (λ (t : List ℕ). text_lt t c.as_str-else-lt-2.result.now) c.as_str-else-lt.ensures.bytes ∙ ap (λ (t : List ℕ). text_lt c.in-Some.entry.now.term.bytes t) c.as_str-else-lt-2.ensures.bytes in
    rw e (second _ _ c.lt.result c.lt-else-lt.result lower c.if-lt.false below)
