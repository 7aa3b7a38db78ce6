-- Reading one value and then another.
use Rattle.std.proofs.Common.{◌≡◌, ℕ, List, ◌++◌, sym, ap, ◌∙◌, append_assoc}
use Rattle.node_words.proofs.Forms.{OneForm}
use Rattle.node_words.specs.Reads.{StandsAtStart, FailsAtStart}
use Rattle.node_words.specs.declared.fault.ReadError.{ReadError}
use Rattle.node_words.specs.declared.fault.ReadError.TheVariants.{Memory, Foreign}

pair_of : {A B : Type 0} (v w : A × B) → v.0 ≡ w.0 → v.1 ≡ w.1 → v ≡ w
pair_of (a, b) (c, d) p q = cc

module _ {A B : Type 0} (IsA : A → Type 0) (a_bytes : A → List ℕ) (IsB : B → Type 0) (b_bytes : B → List ℕ) where
  pub both_begin : (a : A) (b : B) (bytes mid rest : List ℕ) → StandsAtStart IsA a_bytes a bytes mid → StandsAtStart IsB b_bytes b mid rest
      → StandsAtStart {V = A × B} (λ v. IsA v.0 × IsB v.1) (λ v. a_bytes v.0 ++ b_bytes v.1) (a, b) bytes rest
  both_begin a b bytes mid rest p q =
      ((p.0, q.0), p.1 ∙ ap (λ (t : List ℕ). a_bytes a ++ t) q.1 ∙ sym (append_assoc (a_bytes a) (b_bytes b) rest))

  pub both_one_form : OneForm IsA a_bytes → OneForm IsB b_bytes → OneForm {V = A × B} (λ v. IsA v.0 × IsB v.1) (λ v. a_bytes v.0 ++ b_bytes v.1)
  both_one_form one_a one_b v w x y p q e =
      let s = one_a v.0 w.0 (b_bytes v.1 ++ x) (b_bytes w.1 ++ y) p.0 q.0 (sym (append_assoc (a_bytes v.0) (b_bytes v.1) x) ∙ e ∙ append_assoc (a_bytes w.0) (b_bytes w.1) y) in
      let t = one_b v.1 w.1 x y p.1 q.1 s.1 in
      (pair_of v w s.0 t.0, t.1)

  module _ {V : Type 0} (first : V → A) (second : V → B) where
    pub first_fails : (e : ReadError) (bytes : List ℕ) → FailsAtStart IsA a_bytes bytes e → FailsAtStart {V = V} (λ v. IsA (first v) × IsB (second v)) (λ v. a_bytes (first v) ++ b_bytes (second v)) bytes e
    first_fails Memory bytes h = tt
    first_fails Foreign bytes h = λ v rest is e. h (first v) (b_bytes (second v) ++ rest) is.0 (e ∙ append_assoc (a_bytes (first v)) (b_bytes (second v)) rest)

    pub second_fails : OneForm IsA a_bytes → (e : ReadError) (a : A) (bytes mid : List ℕ) → StandsAtStart IsA a_bytes a bytes mid → FailsAtStart IsB b_bytes mid e
        → FailsAtStart {V = V} (λ v. IsA (first v) × IsB (second v)) (λ v. a_bytes (first v) ++ b_bytes (second v)) bytes e
    second_fails one Memory a bytes mid p h = tt
    second_fails one Foreign a bytes mid p h = λ v rest is e.
        let s = one a (first v) mid (b_bytes (second v) ++ rest) p.0 is.0 (sym p.1 ∙ e ∙ append_assoc (a_bytes (first v)) (b_bytes (second v)) rest) in
        h (second v) rest is.1 s.1
