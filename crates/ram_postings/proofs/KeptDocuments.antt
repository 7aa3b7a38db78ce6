-- Documents whose terms are kept, as lists grow.
use Rattle.std.proofs.Common.{◌≡◌, ℕ, ◌<◌, ◌+◌, ◌==◌, Bool, true, false, List, [], ◌∷◌, ◌++◌, get_or, refl, sym, ◌∙◌, arith}
use Rattle.std.proofs.lemmas.Bool.{eqb-true, eq-eqb}
use Rattle.std.proofs.lemmas.List.Quantifiers.{all_pairs_push}
use Rattle.std.proofs.lemmas.List.Elements.{All-weaker, All-push, All-nil}
use Rattle.ix_base.specs.Documents.{Document}
use Rattle.ix_base.specs.Inversion.{IsInversion, posted}
use Rattle.ix_base.specs.declared.document.Term.{Term}
use Rattle.ix_base.specs.declared.postings.Posting.{Posting}
use Rattle.ix_base.specs.declared.postings.Postings.{Postings}
use Rattle.ram_postings.specs.Kept.{kept, SameButFor, IsKept, AreKept}

-- no document has the mark that was taken
pub kept_grows : (docs : List (Document × ℕ)) (next : ℕ) (old new : List (Term × List Posting)) → AreKept docs next old → SameButFor next old new → AreKept docs (next + 1) new
kept_grows docs next old new h others = record {
  rise = h.rise;
  below = All-weaker (λ (p : Document × ℕ). p.1 < next) (λ p. p.1 < next + 1) (λ p l. omega arith) docs h.below;
  lists_below = λ t m x there. go t m x there (m == next) refl;
  exact = λ k d lt t x. others t (get_or docs k d).1 x (λ e. (let l : (get_or docs k d).1 < next = h.below k d lt in absurd (omega arith))) ∙ h.exact k d lt t x;
}
  where
    go : (t : Term) (m x : ℕ) → kept new t m x ≡ true → (b : Bool) → (m == next) ≡ b → m < next + 1
    go t m x there true e = let same : m ≡ next = eqb-true m next e in omega arith
    go t m x there false e =
        let l : m < next = h.lists_below t m x (sym (others t m x (λ q. (let f : true ≡ false = sym (eq-eqb m next q) ∙ e in cc))) ∙ there) in
        omega arith

-- one more document, under the mark that was taken
pub kept_more : (docs : List (Document × ℕ)) (next : ℕ) (old new : List (Term × List Posting)) (doc : Document) (postings : Postings)
    → AreKept docs next old → SameButFor next old new
    → ((t : Term) (x : ℕ) → kept new t next x ≡ posted postings.terms t.field t.bytes 0 x)
    → IsInversion (doc ∷ []) postings
    → AreKept (docs ++ (doc, next) ∷ []) (next + 1) new
kept_more docs next old new doc postings h others ok inversion =
    let grown : AreKept docs (next + 1) new = kept_grows docs next old new h others in
    let low : next < next + 1 = omega arith in
    record {
      rise = all_pairs_push (λ (a : Document × ℕ) (b : Document × ℕ). a.1 < b.1) docs (doc, next) h.rise h.below;
      below = All-push (λ (p : Document × ℕ). p.1 < next + 1) docs (doc, next) grown.below low;
      lists_below = grown.lists_below;
      exact = All-push (IsKept new) docs (doc, next) grown.exact (λ t x. ok t x ∙ inversion.exact t.field t.bytes 0 x);
    }

pub kept_none : AreKept [] 0 []
kept_none = record {
  rise = λ i j d lt in'. absurd (omega arith);
  below = All-nil (λ (p : Document × ℕ). p.1 < 0);
  lists_below = λ t m x there. cc;
  exact = All-nil (IsKept []);
}
