-- Documents with the callers that added them, and what each caller's lines make of its own.
use Rattle.std.proofs.Common.{◌≡◌, ◌≢◌, ◌∙◌, ℕ, Bool, true, false, cond, eqb, eq-eqb, ne_eqb, List, [], ◌∷◌, ◌++◌, map, Option, Some, None, refl, ap}
use Rattle.std.proofs.lemmas.List.{map-append}
use Rattle.std.proofs.lemmas.List.Elements.{filter-append}
use Rattle.std.specs.List.{filter_map, cons_option}
use Rattle.std.specs.Option.{option_map}
use Rattle.ix_base.specs.Documents.{Document}
use Rattle.ix_base.specs.declared.document.Operation.{Operation}
use Rattle.op_script.specs.declared.script.Line.{Line}
use Rattle.run_log.specs.Headline.{act_operation, operations}
use Rattle.run_log.proofs.ByKeys.{of_key}
use Rattle.made_runs.proofs.Folded.{left_by, added_by, folded}

-- a document with the caller of the line that added it
abbrev pub Tagged : Type 0
Tagged = ℕ × Document

abbrev pub tag_left : Operation → Tagged → Option Tagged
tag_left op t = option_map (λ (doc : Document). (t.0, doc)) (left_by op t.1)

abbrev pub tag_all : ℕ → List Document → List Tagged
tag_all caller docs = map (λ (doc : Document). (caller, doc)) docs

-- what a line makes of the documents: a search leaves them
abbrev pub tagged_by : ℕ → Option Operation → List Tagged → List Tagged
tagged_by caller None ts = ts
tagged_by caller (Some op) ts = filter_map (tag_left op) ts ++ tag_all caller (added_by op)

abbrev pub tagged : List Tagged → List Line → List Tagged
tagged ts [] = ts
tagged ts (l ∷ ls) = tagged (tagged_by l.caller (act_operation l.act) ts) ls

abbrev pub untagged : List Tagged → List Document
untagged ts = map (λ (t : Tagged). t.1) ts

abbrev pub of_caller : ℕ → List Line → List Line
of_caller c ls = of_key (λ (l : Line). l.caller) c ls

abbrev pub of_tag : ℕ → List Tagged → List Tagged
of_tag c ts = of_key (λ (t : Tagged). t.0) c ts

-- ---- without their tags the documents are folded

untag_left : (op : Operation) (ts : List Tagged) → untagged (filter_map (tag_left op) ts) ≡ filter_map (left_by op) (untagged ts)
untag_left op [] = refl
untag_left op (t ∷ ts) = by_left (left_by op t.1) (untag_left op ts)
  where
    by_left : (o : Option Document) → untagged (filter_map (tag_left op) ts) ≡ filter_map (left_by op) (untagged ts)
        → untagged (cons_option (option_map (λ (doc : Document). (t.0, doc)) o) (filter_map (tag_left op) ts))
        ≡ cons_option o (filter_map (left_by op) (untagged ts))
    by_left None h = h
    by_left (Some doc) h = ap (λ (l : List Document). doc ∷ l) h

untag_all : (caller : ℕ) (docs : List Document) → untagged (tag_all caller docs) ≡ docs
untag_all caller [] = refl
untag_all caller (doc ∷ docs) = ap (λ (l : List Document). doc ∷ l) (untag_all caller docs)

untag_step : (caller : ℕ) (op : Operation) (ts : List Tagged)
    → untagged (tagged_by caller (Some op) ts) ≡ filter_map (left_by op) (untagged ts) ++ added_by op
untag_step caller op ts =
    map-append (λ (t : Tagged). t.1) (filter_map (tag_left op) ts) (tag_all caller (added_by op))
    ∙ ap (λ (l : List Document). l ++ untagged (tag_all caller (added_by op))) (untag_left op ts)
    ∙ ap (λ (l : List Document). filter_map (left_by op) (untagged ts) ++ l) (untag_all caller (added_by op))

pub untag : (ts : List Tagged) (ls : List Line) → untagged (tagged ts ls) ≡ folded (untagged ts) (operations ls)
untag ts [] = refl
untag ts (l ∷ ls) = by_act (act_operation l.act) (λ us. untag us ls)
  where
    by_act : (o : Option Operation) → ((us : List Tagged) → untagged (tagged us ls) ≡ folded (untagged us) (operations ls))
        → untagged (tagged (tagged_by l.caller o ts) ls) ≡ folded (untagged ts) (cons_option o (operations ls))
    by_act None more = more ts
    by_act (Some op) more =
        more (tagged_by l.caller (Some op) ts)
        ∙ ap (λ (docs : List Document). folded docs (operations ls)) (untag_step l.caller op ts)

-- ---- a caller's own lines

of_tag_left : (c : ℕ) (op : Operation) (ts : List Tagged) → of_tag c (filter_map (tag_left op) ts) ≡ filter_map (tag_left op) (of_tag c ts)
of_tag_left c op [] = refl
of_tag_left c op (t ∷ ts) = by_tests (eqb t.0 c) (left_by op t.1) refl refl (of_tag_left c op ts)
  where
    rest : List Tagged
    rest = filter_map (tag_left op) ts

    by_tests : (b : Bool) (o : Option Document) → eqb t.0 c ≡ b → left_by op t.1 ≡ o
        → of_tag c rest ≡ filter_map (tag_left op) (of_tag c ts)
        → of_tag c (cons_option (option_map (λ (doc : Document). (t.0, doc)) o) rest)
        ≡ filter_map (tag_left op) (cond b (t ∷ of_tag c ts) (of_tag c ts))
    by_tests true None eb eo h = rw eo h
    by_tests true (Some doc) eb eo h = rw (eo, eb) (ap (λ (l : List Tagged). (t.0, doc) ∷ l) h)
    by_tests false None eb eo h = h
    by_tests false (Some doc) eb eo h = rw eb h

of_tag_own : (c : ℕ) (docs : List Document) → of_tag c (tag_all c docs) ≡ tag_all c docs
of_tag_own c [] = refl
of_tag_own c (doc ∷ docs) = rw (eq-eqb c c refl) (ap (λ (l : List Tagged). (c, doc) ∷ l) (of_tag_own c docs))

pub of_tag_other : (c caller : ℕ) (docs : List Document) → caller ≢ c → of_tag c (tag_all caller docs) ≡ []
of_tag_other c caller [] ne = refl
of_tag_other c caller (doc ∷ docs) ne = rw (ne_eqb caller c ne) (of_tag_other c caller docs ne)

pub own_step : (c : ℕ) (o : Option Operation) (ts : List Tagged) → of_tag c (tagged_by c o ts) ≡ tagged_by c o (of_tag c ts)
own_step c None ts = refl
own_step c (Some op) ts =
    filter-append (λ (t : Tagged). eqb t.0 c) (filter_map (tag_left op) ts) (tag_all c (added_by op))
    ∙ ap (λ (l : List Tagged). l ++ of_tag c (tag_all c (added_by op))) (of_tag_left c op ts)
    ∙ ap (λ (l : List Tagged). filter_map (tag_left op) (of_tag c ts) ++ l) (of_tag_own c (added_by op))
