-- A walk over options that are given once each.
use Rattle.std.proofs.Common.{◌≡◌, ◌∙◌, List, [], ◌∷◌, ◌++◌, false, map, fold, codes, Some, refl, ap, append-nil, append_assoc, ℕ, sym, subst}
use Rattle.std.specs.Prelude.{All}
use Rattle.std.proofs.lemmas.List.Elements.{All-head, All-tail}
use Rattle.clap.specs.Kinds.{Kinds, or_else}
use Rattle.clap.specs.Walk.{Held, Row, Rule, Text, Walk, finished, has_row, nothing_held, rows_after, settled, settled_rows, walk_from, walked, with_default}
use Rattle.clap.specs.Simple.{Shape}
use Rattle.clap.specs.Faults.{check_fault, defaults_fault, level_fault, settle_fault, walk_fault}
use Rattle.clap.proofs.OnLiterals.{clap_on_literals}
use Rattle.command_words.specs.WordLaws.{Use, words_of}
use Rattle.command_words.proofs.Rows.{Fresh, row_of_use}

-- what is held once an option's two words are read
abbrev pub held_after : List Rule → Held → Use → Held
held_after rules held one = record (settled rules held) { pending = Some (one.0, one.1 ∷ []) }

-- what a subcommand makes of the two words of an option that it has
pub record Takes (s : Shape) (P : Use → Type 0) : Type 0 where
  pub steps : (one : Use) → P one → (held : Held) → walked s.rules [] (walked s.rules [] (walk_from held) (codes "--" ++ one.0)) one.1 ≡ walk_from (held_after s.rules held one)
  pub fine : (one : Use) → P one → (held : Held) (words : List Text) → settle_fault s.rules s.args_override_self held ≡ []
      → walk_fault s [] (walk_from held) ((codes "--" ++ one.0) ∷ one.1 ∷ words) ≡ walk_fault s [] (walk_from (held_after s.rules held one)) words
  pub settles : (one : Use) → P one → (rows : List Row) → has_row one.0 rows ≡ false
      → settled_rows s.rules (Some (one.0, one.1 ∷ [])) rows ≡ rows ++ row_of_use one ∷ []
  pub settles_fine : (one : Use) → P one → (rows : List Row) (skip : ℕ) → has_row one.0 rows ≡ false
      → settle_fault s.rules s.args_override_self (record { rows = rows; pending = Some (one.0, one.1 ∷ []); skip = skip }) ≡ []

abbrev pub after : List Rule → Held → List Use → Held
after rules held [] = held
after rules held (one ∷ uses) = after rules (held_after rules held one) uses

walks : {s : Shape} {P : Use → Type 0} → Takes s P → (held : Held) (uses : List Use) → All P uses → fold (walked s.rules []) (walk_from held) (words_of uses) ≡ walk_from (after s.rules held uses)
walks t held [] all = refl
walks {s} {P} t held (one ∷ uses) all =
    ap (λ (w : Walk). fold (walked s.rules []) w (words_of uses)) (t.steps one (All-head P one uses all) held)
    ∙ walks t (held_after s.rules held one) uses (All-tail P one uses all)

-- the walk has no fault
walk_fine : {s : Shape} {P : Use → Type 0} → Takes s P → (held : Held) (uses : List Use) → All P uses → Fresh (settled s.rules held).rows uses
    → settle_fault s.rules s.args_override_self held ≡ [] → walk_fault s [] (walk_from held) (words_of uses) ≡ []
unfolding clap_on_literals
walk_fine t held [] all fresh fine = refl
walk_fine {s} {P} t held (one ∷ uses) all fresh fine =
    let is = All-head P one uses all in
    let rows = (settled s.rules held).rows in
    t.fine one is held (words_of uses) fine
    ∙ walk_fine t (held_after s.rules held one) uses (All-tail P one uses all)
    (subst (λ (seen : List Row). Fresh seen uses) (sym (t.settles one is rows fresh.0)) fresh.1)
    (t.settles_fine one is rows held.skip fresh.0)

-- and what is held at its end has none
end_fine : {s : Shape} {P : Use → Type 0} → Takes s P → (held : Held) (uses : List Use) → All P uses → Fresh (settled s.rules held).rows uses
    → settle_fault s.rules s.args_override_self held ≡ [] → settle_fault s.rules s.args_override_self (after s.rules held uses) ≡ []
end_fine t held [] all fresh fine = fine
end_fine {s} {P} t held (one ∷ uses) all fresh fine =
    let is = All-head P one uses all in
    let rows = (settled s.rules held).rows in
    end_fine t (held_after s.rules held one) uses (All-tail P one uses all)
    (subst (λ (seen : List Row). Fresh seen uses) (sym (t.settles one is rows fresh.0)) fresh.1)
    (t.settles_fine one is rows held.skip fresh.0)

-- its rows are those of the options
end_rows : {s : Shape} {P : Use → Type 0} → Takes s P → (held : Held) (uses : List Use) → All P uses → Fresh (settled s.rules held).rows uses
    → (settled s.rules (after s.rules held uses)).rows ≡ (settled s.rules held).rows ++ map row_of_use uses
end_rows {s} t held [] all fresh = sym (append-nil (settled s.rules held).rows)
end_rows {s} {P} t held (one ∷ uses) all fresh =
    let is = All-head P one uses all in
    let rows = (settled s.rules held).rows in
    end_rows t (held_after s.rules held one) uses (All-tail P one uses all)
    (subst (λ (seen : List Row). Fresh seen uses) (sym (t.settles one is rows fresh.0)) fresh.1)
    ∙ ap (λ (seen : List Row). seen ++ map row_of_use uses) (t.settles one is rows fresh.0)
    ∙ append_assoc rows (row_of_use one ∷ []) (map row_of_use uses)

no_faults : (a b c d : Kinds) → a ≡ [] → b ≡ [] → c ≡ [] → d ≡ [] → or_else a (or_else [] (or_else b (or_else c d))) ≡ []
no_faults a b c d a_none b_none c_none d_none = rw (a_none, b_none, c_none, d_none) refl

-- the rows of a subcommand with these options, and with its defaults
abbrev pub rows_with_defaults : Shape → List Use → List Row
rows_with_defaults s uses = fold with_default (map row_of_use uses) s.rules

pub level_rows : {s : Shape} {P : Use → Type 0} → Takes s P → (uses : List Use) → All P uses → Fresh [] uses → rows_after s.rules [] (words_of uses) ≡ rows_with_defaults s uses
level_rows {s} t uses all fresh =
    ap (λ (w : Walk). finished s.rules w.held) (walks t nothing_held uses all)
    ∙ ap (λ (rows : List Row). fold with_default rows s.rules) (end_rows t nothing_held uses all fresh)

pub level_fine : {s : Shape} {P : Use → Type 0} → Takes s P → (uses : List Use) → All P uses → Fresh [] uses
    → defaults_fault (map row_of_use uses) s.rules ≡ [] → check_fault s (rows_with_defaults s uses) false ≡ []
    → level_fault s [] nothing_held (words_of uses) false [] ≡ []
level_fine {s} t uses all fresh defaults checks =
    let held_is = ap (λ (w : Walk). w.held) (walks t nothing_held uses all) in
    let rows_are = end_rows t nothing_held uses all fresh in
    no_faults _ _ _ _
    (walk_fine t nothing_held uses all fresh refl)
    (ap (settle_fault s.rules s.args_override_self) held_is ∙ end_fine t nothing_held uses all fresh refl)
    (ap (λ (held : Held). defaults_fault (settled s.rules held).rows s.rules) held_is
    ∙ ap (λ (rows : List Row). defaults_fault rows s.rules) rows_are ∙ defaults)
    (ap (λ (held : Held). check_fault s (finished s.rules held) false) held_is
    ∙ ap (λ (rows : List Row). check_fault s (fold with_default rows s.rules) false) rows_are ∙ checks)
