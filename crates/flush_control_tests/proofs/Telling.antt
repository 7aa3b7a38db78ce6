-- Rounds told operation by operation.
use Rattle.std.proofs.Common.{◌≡◌, ◌∙◌, ℕ, ◌<◌, ◌≤◌, Bool, cond, not, List, [], ◌∷◌, ◌++◌, refl, sym, ap, subst, arith, append_assoc, append-nil, IsPermutation}
use Rattle.std.specs.List.{AllByRecursion}
use Rattle.std.proofs.lemmas.Bool.{lt-ltb}
use Rattle.std.proofs.lemmas.List.Sorted.{IsPermutation-refl}
use Rattle.ix_base.specs.Births.{last_birth, row_born}
use Rattle.ix_base.specs.declared.document.Document.{Document}
use Rattle.ix_base.specs.declared.document.Operation.{Operation}
use Rattle.ix_base.specs.declared.document.Operation.TheVariants as o
use Rattle.ix_base.specs.declared.document.Row.{Row}
use Rattle.node_words.specs.declared.entry.Entry.{Entry}
use Rattle.row_fates.specs.Fate.{Numbered, NumbersRise, BirthsRise, BornBy, added, adding, fate, rows_added}
use Rattle.frozen_packet.specs.Updates.{NumberedUpTo, Stands, Takes, TakingStands, as_operations}
use Rattle.frozen_packet.specs.declared.updates.Updates.{Updates}
use Rattle.segment_core.specs.LiveRows.{above}
use Rattle.segment_core.proofs.Numbers.{one_at_most}
use Rattle.packet_apply.specs.Stages.{up_to, within}
use Rattle.thread_writer.specs.Laws.{PiecesAreFew, has_row, with_row}
use Rattle.thread_writer.specs.Writing.{piece_rows}
use Rattle.thread_writer.specs.declared.piece.Piece.{Piece}
use Rattle.flush_control.specs.Published.{HasInversion}
use Rattle.flush_control.specs.Rounds.{IsRound, PiecesApart, StandsIn}
use Rattle.flush_control_tests.specs.Told.{AddsNone, AreTold, IsPieceOf}

-- ---- one more operation

rise_more : (base last n : ℕ) (ops : List Numbered) (op : Operation) → NumbersRise base ops → NumberedUpTo last ops → base ≤ last → last < n
    → NumbersRise base (ops ++ (n, op) ∷ [])
rise_more base last n [] op rise up low lt = (omega (arith, low, lt), tt)
rise_more base last n (o ∷ ops) op rise up low lt = (rise.0, rise_more o.0 last n ops op rise.1 up.1 up.0 lt)

up_more : (last n : ℕ) (ops : List Numbered) (op : Operation) → NumberedUpTo last ops → last < n → NumberedUpTo n (ops ++ (n, op) ∷ [])
up_more last n [] op up lt = (omega arith, tt)
up_more last n (o ∷ ops) op up lt = (omega (arith, up.0, lt), up_more last n ops op up.1 lt)

added_more : (n : ℕ) (op : Operation) (ops : List Numbered) → rows_added (ops ++ (n, op) ∷ []) ≡ rows_added ops ++ added n op
added_more n op [] = append-nil (added n op)
added_more n op (o ∷ ops) = ap (λ (rows : List Row). added o.0 o.1 ++ rows) (added_more n op ops) ∙ sym (append_assoc (added o.0 o.1) (rows_added ops) (added n op))

births_more : (base last : ℕ) (rows : List Row) (row : Row) → BirthsRise base rows → BornBy last rows → base ≤ last_birth last → last_birth last < row.birth
    → BirthsRise base (rows ++ row ∷ [])
births_more base last [] row rise born low lt = (omega (arith, low, lt), tt)
births_more base last (r ∷ rows) row rise born low lt = (rise.0, births_more r.birth last rows row rise.1 born.1 born.0 lt)

born_more : (last n : ℕ) (rows : List Row) (row : Row) → BornBy last rows → last < n → row.birth ≤ last_birth n → BornBy n (rows ++ row ∷ [])
born_more last n [] row born lt le = (le, tt)
born_more last n (r ∷ rows) row born lt le = (omega (arith, born.0, lt), born_more last n rows row born.1 lt le)

born_later : (last n : ℕ) (rows : List Row) → BornBy last rows → last < n → BornBy n rows
born_later last n [] born lt = tt
born_later last n (r ∷ rows) born lt = (omega (arith, born.0, lt), born_later last n rows born.1 lt)

bounds_later : (last n : ℕ) (ops : List Numbered) → NumberedUpTo last ops → last < n → NumberedUpTo n ops
bounds_later last n [] up lt = tt
bounds_later last n (o ∷ ops) up lt = (omega (arith, up.0, lt), bounds_later last n ops up.1 lt)

-- a row is added
pub row_told : TakingStands → (base last n : ℕ) (rows : List Row) (doc : Document) (updates : Updates) → AreTold base last rows updates → last < n
    → AreTold base n (rows ++ row_born n doc ∷ []) updates
row_told law base last n rows doc updates told lt =
    let row : Row = row_born n doc in
    record {
      ops = told.ops ++ (n, o.Add doc) ∷ [];
      rise = rise_more base last n told.ops (o.Add doc) told.rise told.up told.order lt;
      up = up_more last n told.ops (o.Add doc) told.up lt;
      order = omega (arith, told.order, lt);
      bounds = bounds_later last n (as_operations updates) told.bounds lt;
      stands = law updates updates told.ops n (o.Add doc) (λ r. ap (λ (ops : List Numbered). fate ops r) (sym (append-nil (as_operations updates)))) told.stands;
      rows_are = ap (λ (rs : List Row). rs ++ row ∷ []) told.rows_are ∙ sym (added_more n (o.Add doc) told.ops);
      births = births_more (last_birth base) last rows row told.births told.born (omega (arith, told.order)) (omega (arith, lt));
      born = born_more last n rows row told.born lt (omega arith);
    }

-- something else is done
pub entry_told : TakingStands → (base last n : ℕ) (rows : List Row) (old new : Updates) (entry : Entry) → AreTold base last rows old → AddsNone entry
    → last < n → Takes old n entry new → NumberedUpTo n (as_operations new) → AreTold base n rows new
entry_told law base last n rows old new entry told none lt takes bounds = record {
  ops = told.ops ++ (n, none.op) ∷ [];
  rise = rise_more base last n told.ops none.op told.rise told.up told.order lt;
  up = up_more last n told.ops none.op told.up lt;
  order = omega (arith, told.order, lt);
  bounds = bounds;
  stands = law old new told.ops n none.op (subst (λ (e : Entry). Takes old n e new) (sym none.is) takes) told.stands;
  rows_are =
      told.rows_are
      ∙ (sym (append-nil (rows_added told.ops))
      ∙ (ap (λ (rs : List Row). rows_added told.ops ++ rs) (sym (none.none n))
      ∙ sym (added_more n none.op told.ops)));
  births = told.births;
  born = born_later last n rows told.born lt;
}

-- ---- the round

none_up_to : (base low : ℕ) (ops : List Numbered) → base ≤ low → NumbersRise low ops → up_to base ops ≡ []
none_up_to base low [] le rise = refl
none_up_to base low (o ∷ ops) le rise =
    ap (λ (b : Bool). cond (not b) (o ∷ up_to base ops) (up_to base ops)) (lt-ltb base o.0 (omega (arith, le, rise.0)))
    ∙ none_up_to base o.0 ops (omega (arith, le, rise.0)) rise.1

stands_in : (base last : ℕ) (rows : List Row) (updates : Updates) (p : Piece) → (told : AreTold base last rows updates) → HasInversion p
    → p.frozen.rows.items ≡ rows → p.cut ≡ base → as_operations p.updates ≡ [] → StandsIn base told.ops last p
stands_in base last rows updates p told can is cut none = record {
  can = can;
  after = base;
  up = omega (arith, cut);
  not_before = omega (arith, cut);
  stands =
      subst (λ (n : ℕ). Stands p.updates (within base n told.ops)) (sym cut)
      (record {
        same = λ row. ap (λ (os : List Numbered). fate os row) (none ∙ sym (ap (above base) (none_up_to base base told.ops (omega arith) told.rise)));
      });
  births = subst (BirthsRise (last_birth base)) (sym is) told.births;
  born = subst (BornBy last) (sym is) told.born;
  within = omega (arith, cut, told.order);
}

pub round_of : PiecesAreFew → (base last : ℕ) (rows : List Row) (updates : Updates) (pieces : List Piece) → (told : AreTold base last rows updates) → IsPieceOf rows base pieces
    → IsRound base told.ops pieces (record { after = base; upto = last; updates = updates })
round_of law base last rows updates pieces told of = record {
  rise = told.rise;
  up = told.up;
  order = told.order;
  after = refl;
  packet = told.stands;
  pieces =
      subst (AllByRecursion (StandsIn base told.ops last)) (sym of.is)
      (stands_in base last rows updates of.piece told of.can of.rows_are of.cut_is of.none, tt);
  rows =
      subst (IsPermutation (piece_rows pieces))
      (ap piece_rows of.is ∙ (append-nil of.piece.frozen.rows.items ∙ (of.rows_are ∙ told.rows_are)))
      (IsPermutation-refl (piece_rows pieces));
  apart = subst PiecesApart (sym of.is) (λ n. omega (arith, one_at_most n of.piece.frozen.rows.items));
  few =
      subst (λ (ps : List Piece). with_row ps ≤ adding told.ops) (sym of.is)
      (omega (arith, ap {B = ℕ} (λ (rs : List Row). cond (has_row rs) 1 0) of.rows_are, law told.ops [] rows told.rows_are));
}
