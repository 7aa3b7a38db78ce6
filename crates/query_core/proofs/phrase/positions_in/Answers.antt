use Rattle.std.proofs.Common.{◌≡◌, ◌+◌, ℕ, List, [], ◌∷◌, ◌++◌, Vec, Global, take, length, get_or, sym, ap, ◌∙◌, subst}
use Rattle.std.specs.List.{AllZip}
use Rattle.std.proofs.lemmas.List.{take_more, map-append, length-append}
use Rattle.ix_base.specs.declared.document.Term.{Term}
use Rattle.query_core.specs.Answers.{ArePositions}
use Rattle.query_core.specs.Phrases.{lists_of}
use Rattle.query_core.proofs.Phrases.{zip_push}
use Rattle.query_core.proofs.phrase.positions_in.Goals as goal

pub loop-term-preserved : goal.loop-term-preserved
loop-term-preserved g c =
    let terms = c.args.terms.now in
    let i = c.loop-term.term-index in
    let lists = c.loop-term.lists.items in
    let one = c.in_ok-places.field-0 in
    let pushed : c.push.new.self.items ≡ lists ++ one ∷ [] = c.in_ok-push.ensures.items in
    let same : c.term.result.now ≡ get_or terms i c.term-item.result = c.term.ensures ∙ c.term-item.is in
    record {
      long = ap length pushed ∙ length-append lists (one ∷ []) ∙ (λ n. c.loop-term.invariant.long n + 1);
      lists = λ docs inverts.
          let more : lists_of c.push.new.self.items ≡ lists_of lists ++ one.items ∷ [] = ap lists_of pushed ∙ map-append (λ (v : Vec ℕ Global). v.items) lists (one ∷ []) in
          subst (λ (ts : List Term). AllZip (λ t places. ArePositions docs t c.args.row places) ts (lists_of c.push.new.self.items)) (sym (take_more terms i c.term-item.result c.loop-term-test.true))
          (subst (λ (ls : List (List ℕ)). AllZip (λ t places. ArePositions docs t c.args.row places) (take i terms ++ get_or terms i c.term-item.result ∷ []) ls) (sym more)
          (zip_push (λ t places. ArePositions docs t c.args.row places) (take i terms) (lists_of lists) (get_or terms i c.term-item.result) one.items (c.loop-term.invariant.lists docs inverts)
          (subst (λ (t : Term). ArePositions docs t c.args.row one.items) same (c.in_ok-places.ensures docs inverts))));
    }
