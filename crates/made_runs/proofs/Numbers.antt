-- The numbers of a made script's documents, and how many documents there are.
use Rattle.std.proofs.Common.{◌≡◌, ◌∙◌, ℕ, zero, suc, ◌+◌, ◌*◌, ◌/◌, ◌%◌, ◌^◌, ◌<◌, ◌≤◌, Bool, true, false, cond, List, [], ◌∷◌, ◌++◌, codes, length, take, pos, Option, Some, None, IfSome, refl, sym, ap, subst, arith, mod-lt, length-append}
use Rattle.std.proofs.lemmas.Int.{ints}
use Rattle.std.specs.List.{AllByRecursion, filter_map, cons_option}
use Rattle.ix_base.specs.Documents.{Document}
use Rattle.ix_base.specs.Matches.{matches, holds_term}
use Rattle.ix_base.specs.Query.{tree_of}
use Rattle.ix_base.specs.Steps.{Named, with_number}
use Rattle.ix_base.specs.declared.document.Hit.{Hit}
use Rattle.ix_base.specs.declared.document.Operation.{Operation}
use Rattle.ix_base.specs.declared.document.Operation.TheVariants.{Add, AddBlock, Update, UpdateBlock, DeleteTerm, DeleteQuery, SetNumber, Commit}
use Rattle.op_script.specs.declared.script.Line.{Line}
use Rattle.run_log.specs.Headline.{act_operation, operations}
use Rattle.run_log.proofs.Lists.{each_in_both}
use Rattle.script_maker.specs.Draws.{number_at, draw_at}
use Rattle.script_maker.specs.Operations.{document_of, key_term, tag_term, query_of, drawn_operation}
use Rattle.made_runs.specs.Apart.{Adds}
use Rattle.made_runs.specs.Sums.{HasMadeNumber}
use Rattle.made_runs.proofs.Folded.{left_by, added_by, folded}
use Rattle.made_runs.proofs.Own.{each_kind}

-- ---- draws are small

number_small : (seed i : ℕ) → 1 ≤ i → number_at seed i < 2 ^ 31
number_small seed zero some = absurd (omega (arith, some))
number_small seed (suc i) some = mod-lt (number_at seed i * 1103515245 + 12345) (omega arith)

pub draw_small : (seed i : ℕ) → 1 ≤ i → draw_at seed i / 8 ≤ 4095
draw_small seed i some = omega (arith, number_small seed i some)

-- ---- each document has one number, `n`, of 12 bits

pub record IsCounted (doc : Document) : Type 0 where
  pub number : ℕ
  pub small : number ≤ 4095
  pub is : doc.num ≡ (codes "n", pos number) ∷ []

-- an operation adds such a document, one at most, and leaves such documents
pub record KeepsCounted (op : Operation) : Type 0 where
  pub adds : Adds IsCounted op
  pub one : length (added_by op) ≤ 1
  pub leaves : (doc : Document) → IsCounted doc → IfSome (left_by op doc) IsCounted

gone_or_left : (doc : Document) (b : Bool) → IsCounted doc → IfSome (cond b None (Some doc)) IsCounted
gone_or_left doc true counted = tt
gone_or_left doc false counted = counted

new_is_counted : (caller number : ℕ) → number ≤ 4095 → IsCounted (document_of caller number)
new_is_counted caller number small = record { number = number; small = small; is = refl }

set_is_counted : (number : ℕ) (doc : Document) (b : Bool) → number ≤ 4095 → IsCounted doc
    → IsCounted (cond b (record doc { num = with_number (codes "n") (pos number) doc.num }) doc)
set_is_counted number doc true small counted = record {
  number = number;
  small = small;
  is = ap (with_number (codes "n") (pos number)) counted.is;
}
set_is_counted number doc false small counted = counted

pub drawn_counts : (caller draw : ℕ) → draw / 8 ≤ 4095 → KeepsCounted (drawn_operation caller draw)
unfolding drawn_operation
drawn_counts caller draw small =
    each_kind KeepsCounted (draw % 8) caller (draw / 8)
    (record { adds = new_is_counted caller (draw / 8) small; one = omega arith; leaves = λ doc counted. counted })
    (record {
      adds = new_is_counted caller (draw / 8) small;
      one = omega arith;
      leaves = λ doc counted. gone_or_left doc (holds_term (codes "key") (key_term caller (draw / 8)).bytes doc) counted;
    })
    (record { adds = tt; one = omega arith; leaves = λ doc counted. gone_or_left doc (holds_term (codes "tag") (tag_term caller (draw / 8)).bytes doc) counted })
    (record {
      adds = tt;
      one = omega arith;
      leaves = λ doc counted. set_is_counted (draw / 8) doc (holds_term (codes "tag") (tag_term caller (draw / 8)).bytes doc) small counted;
    })
    (record { adds = tt; one = omega arith; leaves = λ doc counted. gone_or_left doc (matches (tree_of (query_of caller (draw / 8))) doc) counted })

pub commit_counts : KeepsCounted (Commit [])
commit_counts = record { adds = tt; one = omega arith; leaves = λ doc counted. counted }

block_counted : (room : ℕ) (docs : List Document) → AllByRecursion IsCounted docs → AllByRecursion IsCounted (take room docs)
block_counted zero [] counted = tt
block_counted zero (doc ∷ docs) counted = tt
block_counted (suc room) [] counted = tt
block_counted (suc room) (doc ∷ docs) counted = (counted.0, block_counted room docs counted.1)

added_counted : (op : Operation) → Adds IsCounted op → AllByRecursion IsCounted (added_by op)
added_counted (Add doc) adds = (adds, tt)
added_counted (AddBlock docs) adds = block_counted 64 docs adds
added_counted (Update term doc) adds = (adds, tt)
added_counted (UpdateBlock term docs) adds = block_counted 64 docs adds
added_counted (DeleteTerm term) adds = tt
added_counted (DeleteQuery query) adds = tt
added_counted (SetNumber term name value) adds = tt
added_counted (Commit pairs) adds = tt

left_counted : (op : Operation) (docs : List Document) → KeepsCounted op → AllByRecursion IsCounted docs
    → AllByRecursion IsCounted (filter_map (left_by op) docs)
left_counted op [] keeps counted = tt
left_counted op (doc ∷ docs) keeps counted =
    by (left_by op doc) (keeps.leaves doc counted.0) (left_counted op docs keeps counted.1)
  where
    by : (o : Option Document) → IfSome o IsCounted → AllByRecursion IsCounted (filter_map (left_by op) docs)
        → AllByRecursion IsCounted (cons_option o (filter_map (left_by op) docs))
    by None first rest = rest
    by (Some d) first rest = (first, rest)

pub folded_counted : (docs : List Document) (ops : List Operation) → AllByRecursion IsCounted docs → AllByRecursion KeepsCounted ops
    → AllByRecursion IsCounted (folded docs ops)
folded_counted docs [] counted keeps = counted
folded_counted docs (op ∷ ops) counted keeps =
    folded_counted (filter_map (left_by op) docs ++ added_by op) ops
    (each_in_both IsCounted (filter_map (left_by op) docs) (added_by op) (left_counted op docs keeps.0 counted)
    (added_counted op keeps.0.adds)) keeps.1

pub operations_count : (ls : List Line) → AllByRecursion (λ (l : Line). IfSome (act_operation l.act) KeepsCounted) ls
    → AllByRecursion KeepsCounted (operations ls)
operations_count [] keeps = tt
operations_count (l ∷ ls) keeps = by (act_operation l.act) keeps.0 (operations_count ls keeps.1)
  where
    by : (o : Option Operation) → IfSome o KeepsCounted → AllByRecursion KeepsCounted (operations ls)
        → AllByRecursion KeepsCounted (cons_option o (operations ls))
    by None first rest = rest
    by (Some op) first rest = (first, rest)

-- a search gives such a document's number
pub hit_counted : (doc : Document) (hit : Hit) → hit.num ≡ doc.num → IsCounted doc → HasMadeNumber hit
hit_counted doc hit same counted =
    subst (λ (num : List Named). HasMadeNumber (record { key = hit.key; num = num })) (sym (same ∙ counted.is))
    (omega (arith, ints), omega (arith, ints, counted.small))

-- ---- where each operation adds one document at most

chosen_few : {X Y : Type 0} (f : X → Option Y) (xs : List X) → length (filter_map f xs) ≤ length xs
chosen_few f [] = omega arith
chosen_few {X} {Y} f (x ∷ xs) = by (f x) (chosen_few f xs)
  where
    by : (o : Option Y) → length (filter_map f xs) ≤ length xs → length (cons_option o (filter_map f xs)) ≤ suc (length xs)
    by None le = omega (arith, le)
    by (Some y) le = omega (arith, le)

pub folded_few : (docs : List Document) (ops : List Operation) → AllByRecursion KeepsCounted ops
    → length (folded docs ops) ≤ length docs + length ops
folded_few docs [] keeps = omega arith
folded_few docs (op ∷ ops) keeps =
    omega (
      arith,
      folded_few (filter_map (left_by op) docs ++ added_by op) ops keeps.1,
      length-append (filter_map (left_by op) docs) (added_by op),
      chosen_few (left_by op) docs,
      keeps.0.one,
    )

pub operations_few : (ls : List Line) → length (operations ls) ≤ length ls
operations_few ls = chosen_few (λ (l : Line). act_operation l.act) ls
