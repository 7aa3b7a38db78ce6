use Rattle.std.proofs.Common.{◌≡◌, ◌∙◌, ◌<◌, ◌^◌, ◌||◌, ℕ, ℤ, List, Option, Some, None, Result, Ok, Err, IfOk, IfSome, length, ap, arith}
use Rattle.std.proofs.lemmas.List.{length-map}
use Rattle.ix_base.specs.Inversion.{has_number}
use Rattle.ix_base.specs.declared.document.Row.{Row}
use Rattle.live_docs.specs.Marks.{numbered_rows}
use Rattle.live_docs.specs.declared.live_docs.Mark.{Mark}
use Rattle.segment_core.specs.Columns.{numbers_of, within_from, IsColumnOf}
use Rattle.segment_core.specs.Segments.{documents}
use Rattle.segment_core.proofs.FoundNow.{length-documents_now}
use Rattle.segment_core.proofs.Candidates.{candidate}
use Rattle.segment_core.proofs.current.CurrentInverted.candidates.Goals as goal

both_some : {X Y : Type 0} (r : Result (Option X) Y) (L : Type 0) (P Q S : X → Type 0) → ((x : X) → P x → (L → Q x) → S x)
    → IfOk r (λ o. IfSome o P) → (L → IfOk r (λ o. IfSome o Q)) → IfOk r (λ o. IfSome o S)
both_some (Ok None) L P Q S f p q = tt
both_some (Ok (Some x)) L P Q S f p q = f x p q
both_some (Err y) L P Q S f p q = tt

pub returns-in-Some : goal.returns-in-Some
returns-in-Some g c =
    let rows : List Row = c.args.self.now.rows.now in
    let marks : List Mark = c.args.self.now.live.now.marks in
    let name : List ℕ = c.args.name.now in
    let low : ℤ = c.args.low.now in
    let high : ℤ = c.args.high.now in
    let column = c.in-Some.column.now in
    both_some c.candidates_of.result (IsColumnOf rows column × (length rows < 2 ^ 32)) _ _ _
    (λ found rise all. (
      rise,
      λ docs i r matched.
          let now : length docs ≡ length (documents rows) = ap length i.2 ∙ length-documents_now rows marks i.1 in
          let few : length (documents rows) ≡ length rows = length-map rows (λ (row : Row). row.doc) in
          let counted : c.rows.result ≡ length docs = c.rows.ensures docs i in
          all (c.in-Some.ensures.numbers rows i.3, omega (arith, c.rows.type_inv)) r
          ∙ (ap (λ (n : List ℕ). has_number (within_from 0 low high (numbers_of n rows)) r || has_number (numbered_rows marks) r) c.in-Some.ensures.name
          ∙ candidate c.set_numbers_are_a_map.ensures name low high rows marks docs r i.1 i.2 matched),
    ))
    c.candidates_of.ensures.rise (λ l. c.candidates_of.ensures.all rows l.0 l.1)
