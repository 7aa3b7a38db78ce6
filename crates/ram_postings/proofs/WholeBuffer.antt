-- The parts of a buffer, together.
use Rattle.std.proofs.Common.{◌≡◌, ℕ, ◌<◌, ◌≤◌, ◌+◌, Option, None, List, [], ◌∷◌, ◌++◌, length, map, drop, sym, ap, ◌∙◌, subst, arith}
use Rattle.std.specs.List.{All}
use Rattle.std.proofs.lemmas.List.{map-append, length-append, length-map}
use Rattle.std.proofs.lemmas.List.Elements.{All-nil}
use Rattle.ix_base.specs.Births.{first_birth, rows_from}
use Rattle.ix_base.specs.Documents.{Document}
use Rattle.ix_base.specs.Inversion.{IsInversion, posted}
use Rattle.ix_base.specs.declared.document.Row.{Row}
use Rattle.ix_base.specs.declared.document.Term.{Term}
use Rattle.ix_base.specs.declared.postings.Posting.{Posting}
use Rattle.ix_base.specs.declared.postings.Postings.{Postings}
use Rattle.ram_postings.specs.Buffer.{Staged, born_rows, with_births}
use Rattle.ram_postings.specs.Kept.{kept, SameButFor, AreBirths, AreKept, IsBuffer, staged_of, placed_of}
use Rattle.ram_postings.specs.declared.entry.Entry.{Entry}
use Rattle.ram_postings.proofs.BornRows.{rows_waiting, rows_born, births_more}
use Rattle.ram_postings.proofs.KeptDocuments.{kept_none, kept_grows, kept_more}

no_births : AreBirths []
no_births = record { rise = λ i j d lt in'. absurd (omega arith); positive = All-nil (λ (row : Row). first_birth 1 ≤ row.birth) }

pub buffer_empty : (es : List Entry) (lists : List (Term × List Posting)) → es ≡ [] → lists ≡ [] → IsBuffer es 0 lists
buffer_empty es lists e l = subst (λ (es : List Entry). IsBuffer es 0 lists) (sym e) (subst (IsBuffer [] 0) (sym l) (record { few = omega arith; documents = kept_none; births = no_births }))

-- an attempt to stage that ran out of memory
pub buffer_failed : (es : List Entry) (next : ℕ) (old new : List (Term × List Posting)) → IsBuffer es next old → SameButFor next old new → IsBuffer es (next + 1) new
buffer_failed es next old new h others = record { few = h.few; documents = kept_grows (map placed_of es) next old new h.documents others; births = h.births }

pub buffer_staged : (es : List Entry) (next : ℕ) (old new : List (Term × List Posting)) (e : Entry) (postings : Postings)
    → IsBuffer es next old → length es < 2147483647 → e.birth ≡ None → e.mark ≡ next → SameButFor next old new
    → ((t : Term) (x : ℕ) → kept new t next x ≡ posted postings.terms t.field t.bytes 0 x)
    → IsInversion (e.doc ∷ []) postings
    → IsBuffer (es ++ e ∷ []) (next + 1) new
buffer_staged es next old new e postings h room birth mark others ok inversion =
    let placed : map placed_of (es ++ e ∷ []) ≡ map placed_of es ++ (e.doc, next) ∷ [] = map-append placed_of es (e ∷ []) ∙ ap (λ (n : ℕ). map placed_of es ++ (e.doc, n) ∷ []) mark in
    let rows : born_rows (map staged_of (es ++ e ∷ [])) ≡ born_rows (map staged_of es) =
    ap born_rows (map-append staged_of es (e ∷ []) ∙ ap (λ (o : Option ℕ). map staged_of es ++ record { doc = e.doc; birth = o } ∷ []) birth) ∙ rows_waiting (map staged_of es) e.doc in
    record {
      few = omega (arith, length-append es (e ∷ []));
      documents = subst (λ (l : List (Document × ℕ)). AreKept l (next + 1) new) (sym placed) (kept_more (map placed_of es) next old new e.doc postings h.documents others ok inversion);
      births = subst AreBirths (sym rows) h.births;
    }

-- documents that get their births in place
pub buffer_born : (es now : List Entry) (next : ℕ) (lists : List (Term × List Posting)) (place count birth room : ℕ) (view : List Staged)
    → map staged_of es ≡ view → map staged_of now ≡ with_births (map staged_of es) place count birth → map placed_of now ≡ map placed_of es
    → IsBuffer es next lists → place + count ≤ length view → count ≤ room → All (λ s. s.birth ≡ None) (drop place view)
    → first_birth 1 ≤ birth → All (λ row. row.birth < birth) (born_rows view)
    → IsBuffer now next lists
buffer_born es now next lists place count birth room view same staged placed h in' fits waits positive above =
    let last = rows_born view place count birth room in' fits waits in
    let rows : born_rows (map staged_of now) ≡ born_rows view ++ rows_from room birth last.0 =
    ap born_rows (staged ∙ ap (λ (l : List Staged). with_births l place count birth) same) ∙ last.1 in
    let births : AreBirths (born_rows view) = subst (λ (l : List Staged). AreBirths (born_rows l)) same h.births in
    let long = ap length placed in
    record {
      few = omega (arith, h.few, long, length-map now placed_of, length-map es placed_of);
      documents = subst (λ (l : List (Document × ℕ)). AreKept l next lists) (sym placed) h.documents;
      births = subst AreBirths (sym rows) (births_more room birth last.0 (born_rows view) births positive above);
    }
