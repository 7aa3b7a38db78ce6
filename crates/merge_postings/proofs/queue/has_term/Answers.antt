use Rattle.std.proofs.Common.{◌≡◌, ◌∙◌, Some, Option, ap, subst, sym}
use Rattle.std.specs.Option.{IfSome}
use Rattle.std.specs.declared.cmp.Ordering.{Ordering}
use Rattle.std.specs.declared.cmp.Ordering.TheVariants.{Less, Equal, Greater}
use Rattle.ix_base.specs.Inversion.{term_cmp}
use Rattle.ix_base.specs.declared.document.Term.{Term}
use Rattle.ix_base.proofs.TermOrder.{term_same}
use Rattle.merge_postings.proofs.Queued.{equal_itself}
use Rattle.merge_postings.proofs.queue.has_term.Goals as goal

told : (a b : Term) (o : Option Ordering) (x y : Ordering) → IfSome o (λ (z : Ordering). z ≡ term_cmp a b) → o ≡ Some x → x ≡ y → y ≡ term_cmp a b
told a b o x y all some is = sym is ∙ subst (λ (p : Option Ordering). IfSome p (λ (z : Ordering). z ≡ term_cmp a b)) some all

apart : (a b : Term) (x : Ordering) → x ≡ term_cmp a b → (x ≡ Equal → ⊥) → a ≡ b → ⊥
apart a b x is not e = not (is ∙ ap (term_cmp a) (sym e) ∙ equal_itself a)

pub returns-in-Some-Less-clause-other : goal.returns-in-Some-Less-clause-other
returns-in-Some-Less-clause-other c _ =
    apart c.args.head.now.first.term c.args.term.now Less
    (told c.args.head.now.first.term c.args.term.now c.order_by_keys.result c.in-Some-Less.field-0 Less
    (c.order_by_keys.ensures c.requires.0 c.args.head.now.first.term c.args.term.now c.requires.1 c.requires.2) c.in-Some-Less.is c.in-Some-Less.field-0-is)
    (λ e. cc)

pub returns-in-Some-Equal-clause-same : goal.returns-in-Some-Equal-clause-same
returns-in-Some-Equal-clause-same c _ =
    term_same c.args.head.now.first.term c.args.term.now
    (sym (told c.args.head.now.first.term c.args.term.now c.order_by_keys.result c.in-Some-Equal.field-0 Equal
    (c.order_by_keys.ensures c.requires.0 c.args.head.now.first.term c.args.term.now c.requires.1 c.requires.2) c.in-Some-Equal.is c.in-Some-Equal.field-0-is))

pub returns-in-Some-Greater-clause-other : goal.returns-in-Some-Greater-clause-other
returns-in-Some-Greater-clause-other c _ =
    apart c.args.head.now.first.term c.args.term.now Greater
    (told c.args.head.now.first.term c.args.term.now c.order_by_keys.result c.in-Some-Greater.field-0 Greater
    (c.order_by_keys.ensures c.requires.0 c.args.head.now.first.term c.args.term.now c.requires.1 c.requires.2) c.in-Some-Greater.is c.in-Some-Greater.field-0-is)
    (λ e. cc)
