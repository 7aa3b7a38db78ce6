-- A script's search lines are answered as its rounds end: the first ones, those behind one commit more, and in the end all.
use Rattle.std.proofs.Common.{◌≡◌, ◌≢◌, ◌⊎◌, ◌∙◌, inl, inr, ℕ, zero, suc, ◌+◌, ◌-◌, ◌<◌, ◌≤◌, Bool, true, false, cond, eqb}
use Rattle.std.proofs.Common.{List, [], ◌∷◌, ◌++◌, length, take, drop, refl, sym, ap, subst, arith, append-nil, append_assoc}
use Rattle.std.proofs.lemmas.Bool.Decides.{eqb_tells}
use Rattle.std.proofs.lemmas.List.{drop-drop, length-append, take-append-drop}
use Rattle.std.proofs.Math.Seq.{take-add}
use Rattle.std.specs.Global.{Vec}
use Rattle.std.specs.List.{AllByRecursion, AllZip}
use Rattle.ix_base.specs.declared.document.Row.{Row}
use Rattle.ix_base.specs.Steps.{after}
use Rattle.op_script.specs.Shape.{LinesRise}
use Rattle.op_script.specs.declared.script.Line.{Line}
use Rattle.index_writer.specs.declared.state.State.{State}
use Rattle.line_shares.proofs.AskLaws.{behinds_commit, behinds_rise}
use Rattle.line_shares.specs.Asks.{AreAsksFrom, BehindsRise, HasCommitLine, IsBehindCommit, asks_of, number_behind}
use Rattle.line_shares.specs.declared.asks.Ask.{Ask}
use Rattle.run_log.proofs.Lists.{Decided, each_in_first, each_in_second, each_pair}
use Rattle.run_log.proofs.NumberLaws.{has_line_in_front, number_in_front, number_past, rows_at_all, rows_at_front}
use Rattle.run_log.specs.Headline.{Interleaves, commit_numbers, is_commit, number_of, numbered, operations, rows_at}
use Rattle.run_log.specs.Numbering.{HasLine}
use Rattle.index_run.specs.Answered.{AllAnswerBehind, AnswersBehind, AreAnswered, IsAnswerBehind, IsAnswerOf, IsAnswered, IsNone}
use Rattle.index_run.specs.Answered.{IsSettled, IsTextOf, found_text}
use Rattle.index_run.specs.Doing.{IsWriterOn}
use Rattle.index_run.proofs.CommitLines.{commit_logged, commit_there, earlier, has_either, has_or_none, has_passed, has_says, placed_from, zip_both, zip_says}

-- ---- the texts

number_most : (base : ℕ) (log : List Line) (line : ℕ) → number_of base log line ≤ base + length log
number_most base [] line = omega arith
number_most base (l ∷ log) line = by (eqb l.line line) (number_most (base + 1) log line)
  where
    by : (b : Bool) → number_of (base + 1) log line ≤ base + 1 + length log
        → cond b (base + 1) (number_of (base + 1) log line) ≤ base + suc (length log)
    by true h = omega arith
    by false h = omega (arith, h)

behind_most : (base : ℕ) (log : List Line) (place : ℕ) → number_behind base log place ≤ base + length log
behind_most base log zero = omega arith
behind_most base log (suc place) = number_most base log (suc place)

-- the number of a commit that is in the log stays
behind_stays : (base : ℕ) (log more : List Line) (place : ℕ) → IsSettled log place
    → number_behind base (log ++ more) place ≡ number_behind base log place
behind_stays base log more zero settled = refl
behind_stays base log more (suc place) settled = number_in_front base log more (suc place) settled

settled_stays : (log more : List Line) (place : ℕ) → IsSettled log place → IsSettled (log ++ more) place
settled_stays log more zero settled = tt
settled_stays log more (suc place) settled = has_line_in_front log more (suc place) settled

-- an answer stays right when the log goes on
pub answer_stays : (first : State) (log more : List Line) (a : Ask) (text : List ℕ) → IsAnswerOf first log a text
    → IsAnswerOf first (log ++ more) a text
answer_stays first log more a text is = (
  settled_stays log more a.behind is.0,
  λ rows has.
      let base = first.published.upto in
      let s = number_behind base log a.behind in
      is.1 rows has
      ∙ ap (λ (rs : List Row). found_text s a.query rs a.line)
      (sym (rows_at_front base rows log more s (behind_most base log a.behind)))
      ∙ ap (λ (n : ℕ). found_text n a.query (rows_at base rows (log ++ more) n) a.line)
      (sym (behind_stays base log more a.behind is.0)),
)

-- an answer by the writer's rows is one in the log's last commit
pub answer_now : (first w : State) (log : List Line) (place : ℕ) → IsWriterOn first log w → IsSettled log place
    → number_behind first.published.upto log place ≡ w.published.upto → (a : Ask) (text : List ℕ)
    → IsAnswerBehind w place a text → IsAnswerOf first log a text
answer_now first w log place on settled at a text is = (
  subst (IsSettled log) (sym is.0) settled,
  λ rows has.
      let base = first.published.upto in
      let s = number_behind base log a.behind in
      let same : w.published.upto ≡ s = sym (ap (number_behind base log) is.0 ∙ at) in
      is.1 (after rows base (operations log)) (on.rows rows has)
      ∙ ap (λ (rs : List Row). found_text w.published.upto a.query rs a.line)
      (sym (rows_at_all base rows log w.published.upto on.upto))
      ∙ ap (λ (n : ℕ). found_text n a.query (rows_at base rows log n) a.line) same,
)

-- ---- the beginning

-- what is answered behind no commit is all that can be before the first line
pub answered_first : (first w : State) (asks : List Ask) (texts : List (List ℕ)) → IsWriterOn first [] w
    → AnswersBehind w 0 asks [] texts → IsAnswered first [] asks texts
answered_first first w asks texts on now = record {
  answers =
      subst (λ (ts : List (List ℕ)). AllZip (IsAnswerOf first []) (take (length ts) asks) ts) (sym now.new_is)
      (zip_says (IsAnswerBehind w 0) (IsAnswerOf first []) (take (length now.more) asks) now.more
      (λ a text is. answer_now first w [] 0 on tt (omega (arith, on.upto)) a text is) now.answers);
  next = λ a rest at settled. now.next a rest at (none a.behind settled);
}
  where
    none : (place : ℕ) → IsSettled [] place → place ≡ 0
    none zero settled = refl
    none (suc place) settled = absurd settled

-- ---- one round more

-- the commit lines of the round stand at such places
abbrev pub CommitsAt : (ℕ → Type 0) → List Line → Type 0
CommitsAt Q more = AllByRecursion (λ (l : Line). is_commit l.act ≡ true → Q l.line) more

-- no commit line is among them
pub none_commit : (base : ℕ) (more : List Line) → commit_numbers base more ≡ [] → CommitsAt (λ (place : ℕ). ⊥) more
none_commit base [] none = tt
none_commit base (l ∷ ls) none = by (is_commit l.act) none (none_commit (base + 1) ls)
  where
    by : (b : Bool) → cond b ((base + 1) ∷ commit_numbers (base + 1) ls) (commit_numbers (base + 1) ls) ≡ []
        → (commit_numbers (base + 1) ls ≡ [] → CommitsAt (λ (place : ℕ). ⊥) ls)
        → (b ≡ true → ⊥) × CommitsAt (λ (place : ℕ). ⊥) ls
    by true e rest = absurd (cc)
    by false e rest = ((λ is. absurd (let no : false ≡ true = is in cc)), rest e)

-- or one is, which is their last line
one_commit : (base : ℕ) (more : List Line) (s place : ℕ) → commit_numbers base more ≡ s ∷ [] → s ≡ base + length more
    → number_of base more place ≡ s → HasLine more place → CommitsAt (λ (at : ℕ). at ≡ place) more
one_commit base [] s place one last number has = tt
one_commit base (l ∷ ls) s place one last number has =
    by (is_commit l.act) one (eqb_tells l.line place) has (one_commit (base + 1) ls s place)
  where
    alone : (xs : List Line) → length xs ≡ 0 → CommitsAt (λ (at : ℕ). at ≡ place) xs
    alone [] none = tt
    alone (x ∷ xs) none = absurd (omega (arith, none))

    nowhere : (xs : List Line) → length xs ≡ 0 → HasLine xs place → ⊥
    nowhere [] none has = has
    nowhere (x ∷ xs) none has = omega (arith, none)

    by : (b : Bool) → cond b ((base + 1) ∷ commit_numbers (base + 1) ls) (commit_numbers (base + 1) ls) ≡ s ∷ []
        → Decided l.line place → HasLine (l ∷ ls) place
        → (commit_numbers (base + 1) ls ≡ s ∷ [] → s ≡ base + 1 + length ls → number_of (base + 1) ls place ≡ s
        → HasLine ls place → CommitsAt (λ (at : ℕ). at ≡ place) ls)
        → (b ≡ true → l.line ≡ place) × CommitsAt (λ (at : ℕ). at ≡ place) ls
    by true e here (inl at) rest =
        let first : base + 1 ≡ s = cc in
        let none : length ls ≡ 0 = omega (arith, first, last) in
        ((λ is. at), alone ls none)
    by true e here (inr there) rest =
        let first : base + 1 ≡ s = cc in
        let none : length ls ≡ 0 = omega (arith, first, last) in
        absurd (nowhere ls none there)
    by false e (inl k) at rest =
        let first : base + 1 ≡ s = (rw k.0 at number) in
        let none : length ls ≡ 0 = omega (arith, first, last) in
        absurd (empty ls none e)
      where
        empty : (xs : List Line) → length xs ≡ 0 → commit_numbers (base + 1) xs ≡ s ∷ [] → ⊥
        empty [] none e = cc
        empty (x ∷ xs) none e = omega (arith, none)
    by false e (inr k) (inl at) rest = absurd (k.1 at)
    by false e (inr k) (inr there) rest =
        let behind : number_of (base + 1) ls place ≡ s = (rw k.0 at number) in
        ((λ is. absurd (let no : false ≡ true = is in cc)), rest e (omega (arith, last)) behind there)

-- the commit of a round is the last of its lines
pub due_commit : (base : ℕ) (log more : List Line) (s place : ℕ) → commit_numbers (base + length log) more ≡ s ∷ []
    → s ≡ base + length (log ++ more) → HasLine (log ++ more) place → number_of base (log ++ more) place ≡ s
    → CommitsAt (λ (at : ℕ). at ≡ place) more
due_commit base log more s place one last has number = by (has_or_none log place)
  where
    count : length (log ++ more) ≡ length log + length more
    count = length-append log more

    by : HasLine log place ⊎ AllByRecursion (λ (l : Line). l.line ≢ place) log → CommitsAt (λ (at : ℕ). at ≡ place) more
    by (inl here) =
        let within = number_most base log place in
        let same = number_in_front base log more place here in
        let none : length more ≡ 0 = omega (arith, within, same, number, last, count) in
        nothing more none
      where
        nothing : (xs : List Line) → length xs ≡ 0 → CommitsAt (λ (at : ℕ). at ≡ place) xs
        nothing [] none = tt
        nothing (x ∷ xs) none = absurd (omega (arith, none))
    by (inr none) =
        one_commit (base + length log) more s place one (omega (arith, last, count))
        (sym (number_past base log more place none) ∙ number) (behind (has_either log more place has))
      where
        behind : HasLine log place ⊎ HasLine more place → HasLine more place
        behind (inl here) = absurd (nowhere log none here)
          where
            nowhere : (xs : List Line) → AllByRecursion (λ (l : Line). l.line ≢ place) xs → HasLine xs place → ⊥
            nowhere [] none has = has
            nowhere (x ∷ xs) none (inl e) = none.0 e
            nowhere (x ∷ xs) none (inr has) = nowhere xs none.1 has
        behind (inr there) = there

-- a commit line of the log with one round more was in the log, or is the round's
module _ (caller : ℕ) (lines log more rest : List Line) (rise : LinesRise 1 lines)
    (numbering : Interleaves lines ((log ++ more) ++ rest)) (Q : ℕ → Type 0) (only : CommitsAt Q more) where
  settles : (place : ℕ) → (place ≡ 0) ⊎ HasCommitLine caller lines place → IsSettled (log ++ more) place
      → IsSettled log place ⊎ Q place
  settles zero is settled = inl tt
  settles (suc place) (inl none) settled = absurd (omega (arith, none))
  settles (suc place) (inr has) settled = by (has_either log more (suc place) settled)
    where
      commits : AllByRecursion (λ (l : Line). l.line ≡ suc place → (l.caller ≡ caller) × (is_commit l.act ≡ true)) more
      commits =
          each_in_second (λ (l : Line). l.line ≡ suc place → (l.caller ≡ caller) × (is_commit l.act ≡ true)) log more
          (each_in_first (λ (l : Line). l.line ≡ suc place → (l.caller ≡ caller) × (is_commit l.act ≡ true)) (log ++ more) rest
          (commit_logged caller lines ((log ++ more) ++ rest) rise numbering (suc place) has))

      by : HasLine log (suc place) ⊎ HasLine more (suc place) → IsSettled log (suc place) ⊎ Q (suc place)
      by (inl here) = inl here
      by (inr there) =
          inr (has_says Q more (suc place)
          (each_pair (λ (l : Line). l.line ≡ suc place → (l.caller ≡ caller) × (is_commit l.act ≡ true))
          (λ (l : Line). is_commit l.act ≡ true → Q l.line) (λ (l : Line). l.line ≡ suc place → Q (suc place)) more
          (λ l says good e. subst Q e (good (says e).1)) commits only)
          there)

-- what is true of each ask is true of the next one
next_says : (P : Ask → Type 0) (asks : List Ask) (n : ℕ) (a : Ask) (rest : List Ask) → AllByRecursion P asks
    → drop n asks ≡ a ∷ rest → P a
next_says P [] zero a rest each at = absurd (cc)
next_says P [] (suc n) a rest each at = absurd (cc)
next_says P (x ∷ xs) zero a rest each at =
    let same : x ≡ a = ap (λ (these : List Ask). first_or these x) at in subst P same each.0
  where
    first_or : List Ask → Ask → Ask
    first_or [] d = d
    first_or (y ∷ ys) d = y
next_says P (x ∷ xs) (suc n) a rest each at = next_says P xs n a rest each.1 at

-- Where no commit line is among the round's lines, the same is answered.
pub answered_plain : (first : State) (caller : ℕ) (lines log more rest : List Line) (asks : List Ask)
    (texts : List (List ℕ)) → LinesRise 1 lines → Interleaves lines ((log ++ more) ++ rest) → asks ≡ asks_of caller lines
    → CommitsAt (λ (place : ℕ). ⊥) more → IsAnswered first log asks texts → IsAnswered first (log ++ more) asks texts
answered_plain first caller lines log more rest asks texts rise numbering asks_are only was = record {
  answers =
      zip_says (IsAnswerOf first log) (IsAnswerOf first (log ++ more)) (take (length texts) asks) texts
      (λ a text is. answer_stays first log more a text is) was.answers;
  next = λ a left at settled.
      was.next a left at (by a (settles caller lines log more rest rise numbering (λ (place : ℕ). ⊥) only a.behind
      (next_says (IsBehindCommit caller lines) asks (length texts) a left behinds at) settled));
}
  where
    behinds : AllByRecursion (IsBehindCommit caller lines) asks
    behinds = subst (AllByRecursion (IsBehindCommit caller lines)) (sym asks_are) (behinds_commit caller lines)

    by : (a : Ask) → IsSettled log a.behind ⊎ ⊥ → IsSettled log a.behind
    by a (inl settled) = settled
    by a (inr none) = absurd none

rise_behind : (low n : ℕ) (asks : List Ask) (a : Ask) (rest : List Ask) → BehindsRise low asks → drop n asks ≡ a ∷ rest
    → low ≤ a.behind
rise_behind low zero [] a rest rise at = absurd (cc)
rise_behind low (suc n) [] a rest rise at = absurd (cc)
rise_behind low zero (x ∷ xs) a rest rise at =
    let same : x.behind ≡ a.behind = ap (λ (these : List Ask). behind_or these 0) at in omega (arith, rise.0, same)
  where
    behind_or : List Ask → ℕ → ℕ
    behind_or [] d = d
    behind_or (y ∷ ys) d = y.behind
rise_behind low (suc n) (x ∷ xs) a rest rise at =
    let above = rise_behind x.behind n xs a rest rise.1 at in omega (arith, rise.0, above)

-- asks that are left rise too
rise_dropped : (low n : ℕ) (asks : List Ask) → BehindsRise low asks → (a : Ask) (rest : List Ask) → drop n asks ≡ a ∷ rest
    → BehindsRise a.behind rest
rise_dropped low zero [] rise a rest at = absurd (cc)
rise_dropped low (suc n) [] rise a rest at = absurd (cc)
rise_dropped low zero (x ∷ xs) rise a rest at =
    let same : BehindsRise low (a ∷ rest) = subst (BehindsRise low) at rise in same.1
rise_dropped low (suc n) (x ∷ xs) rise a rest at = rise_dropped x.behind n xs rise.1 a rest at

-- Those behind the round's commit line are answered then.
module _ (first w : State) (caller : ℕ) (lines log more rest : List Line) (place : ℕ) (asks : List Ask)
    (old new : List (List ℕ)) (rise : LinesRise 1 lines) (numbering : Interleaves lines ((log ++ more) ++ rest))
    (asks_are : asks ≡ asks_of caller lines) (only : CommitsAt (λ (at : ℕ). at ≡ place) more)
    (on : IsWriterOn first (log ++ more) w) (settled : IsSettled (log ++ more) place)
    (number : number_behind first.published.upto (log ++ more) place ≡ w.published.upto)
    (now : AnswersBehind w place asks old new) (was : IsAnswered first log asks old) where
  behinds : AllByRecursion (IsBehindCommit caller lines) asks
  behinds = subst (AllByRecursion (IsBehindCommit caller lines)) (sym asks_are) (behinds_commit caller lines)

  rises : BehindsRise 0 asks
  rises = subst (BehindsRise 0) (sym asks_are) (behinds_rise caller 0 1 lines rise (omega arith))

  abbrev n : ℕ
  n = length old

  count : length new ≡ n + length now.more
  count = ap length now.new_is ∙ length-append old now.more

  -- a search line that is left was left before, and the first of those answered now stands behind the commit line
  unsettled : (ts : List (List ℕ)) → AllZip (IsAnswerBehind w place) (take (length ts) (drop n asks)) ts
      → (a : Ask) (left : List Ask) → drop (length ts) (drop n asks) ≡ a ∷ left → a.behind ≢ place
      → IsBehindCommit caller lines a → IsSettled log a.behind → ⊥
  unsettled [] are a left at other behind there = was.next a left at there
  unsettled (t ∷ ts) are a left at other behind there = by (drop n asks) refl are at
    where
      by : (these : List Ask) → drop n asks ≡ these → AllZip (IsAnswerBehind w place) (take (length (t ∷ ts)) these) (t ∷ ts)
          → drop (length (t ∷ ts)) these ≡ a ∷ left → ⊥
      by [] is are at = are
      by (b ∷ bs) is are at =
          let open_before : IsSettled log place → ⊥ =
          λ (s : IsSettled log place). was.next b bs is (subst (IsSettled log) (sym are.0.0) s) in
          let above : b.behind ≤ a.behind =
          rise_behind b.behind (length ts) bs a left (rise_dropped 0 n asks rises b bs is) at in
          at_place place a.behind open_before (omega (arith, above, are.0.0, other)) there
          (next_says (IsBehindCommit caller lines) asks n b bs behinds is) are.0.0 behind
        where
          at_place : (p q : ℕ) → (IsSettled log p → ⊥) → p < q → IsSettled log q → IsBehindCommit caller lines b → b.behind ≡ p
              → (q ≡ 0) ⊎ HasCommitLine caller lines q → ⊥
          at_place zero q open_before before there own e later = open_before tt
          at_place (suc p) zero open_before before there own e later = omega (arith, before)
          at_place (suc p) (suc q) open_before before there (inl none) e later = omega (arith, none, e)
          at_place (suc p) (suc q) open_before before there (inr own) e (inl none) = omega (arith, none)
          at_place (suc p) (suc q) open_before before there (inr own) e (inr later) =
              open_before (earlier caller lines log (more ++ rest) (suc p) (suc q) rise
              (subst (Interleaves lines) (append_assoc log more rest) numbering)
              (subst (HasCommitLine caller lines) e own) later before there)

  pub answered_more : IsAnswered first (log ++ more) asks new
  answered_more = record {
    answers =
        subst (λ (ts : List (List ℕ)). AllZip (IsAnswerOf first (log ++ more)) (take (length ts) asks) ts) (sym now.new_is)
        (subst (λ (m : ℕ). AllZip (IsAnswerOf first (log ++ more)) (take m asks) (old ++ now.more))
        (sym (length-append old now.more))
        (subst (λ (these : List Ask). AllZip (IsAnswerOf first (log ++ more)) these (old ++ now.more))
        (sym (take-add n (length now.more) asks))
        (zip_both (IsAnswerOf first (log ++ more)) (take n asks) (take (length now.more) (drop n asks)) old now.more
        (zip_says (IsAnswerOf first log) (IsAnswerOf first (log ++ more)) (take n asks) old
        (λ a text is. answer_stays first log more a text is) was.answers)
        (zip_says (IsAnswerBehind w place) (IsAnswerOf first (log ++ more)) (take (length now.more) (drop n asks)) now.more
        (λ a text is. answer_now first w (log ++ more) place on settled number a text is) now.answers))));
    next = λ a left at there.
        let behind = next_says (IsBehindCommit caller lines) asks (length new) a left behinds at in
        let other = now.next a left at in
        let same : drop (length now.more) (drop n asks) ≡ a ∷ left =
        drop-drop (length now.more) n asks ∙ ap (λ (m : ℕ). drop m asks) (sym count) ∙ at in
        by a other (unsettled now.more now.answers a left same other behind)
        (settles caller lines log more rest rise numbering (λ (x : ℕ). x ≡ place) only a.behind behind there);
  }
    where
      by : (a : Ask) → a.behind ≢ place → (IsSettled log a.behind → ⊥) → IsSettled log a.behind ⊎ (a.behind ≡ place) → ⊥
      by a other before (inl there) = before there
      by a other before (inr here) = other here

-- ---- the end

-- Where the log has all numbered lines, all search lines are answered.
pub answered_all : (first : State) (caller : ℕ) (lines log : List Line) (asks : List Ask) (texts : List (List ℕ))
    → LinesRise 1 lines → Interleaves lines log → asks ≡ asks_of caller lines → IsAnswered first log asks texts
    → AllZip (IsTextOf first log) (asks_of caller lines) texts
answered_all first caller lines log asks texts rise numbering asks_are is =
    subst (λ (these : List Ask). AllZip (IsTextOf first log) these texts) asks_are
    (zip_says (IsAnswerOf first log) (IsTextOf first log) asks texts (λ a text h. h.1)
    (subst (λ (these : List Ask). AllZip (IsAnswerOf first log) these texts) (whole (drop (length texts) asks) refl) is.answers))
  where
    settled : (a : Ask) → IsBehindCommit caller lines a → IsSettled log a.behind
    settled a (inl none) = subst (IsSettled log) (sym none) tt
    settled a (inr has) = by a.behind has
      where
        by : (place : ℕ) → HasCommitLine caller lines place → IsSettled log place
        by zero has = tt
        by (suc place) has =
            has_passed (λ (l : Line). eqb l.caller caller) log (suc place)
            (commit_there caller lines log rise numbering (suc place) has)

    whole : (left : List Ask) → drop (length texts) asks ≡ left → take (length texts) asks ≡ asks
    whole [] none =
        sym (append-nil (take (length texts) asks)) ∙ ap (λ (these : List Ask). take (length texts) asks ++ these) (sym none)
        ∙ take-append-drop (length texts) asks
    whole (a ∷ left) at =
        absurd (is.next a left at (settled a (next_says (IsBehindCommit caller lines) asks (length texts) a left
        (subst (AllByRecursion (IsBehindCommit caller lines)) (sym asks_are) (behinds_commit caller lines)) at)))

-- ---- all callers

pub all_first : (first w : State) (lines : List Line) (asks : List (Vec Ask)) (olds news : List (Vec (List ℕ)))
    → IsWriterOn first [] w → AllByRecursion IsNone olds → AllAnswerBehind w 0 asks olds news → AreAnswered first [] asks news
all_first first w lines [] [] [] on none now = tt
all_first first w lines [] [] (n ∷ news) on none now = absurd now
all_first first w lines [] (o ∷ olds) news on none now = absurd now
all_first first w lines (a ∷ asks) [] news on none now = absurd now
all_first first w lines (a ∷ asks) (o ∷ olds) [] on none now = absurd now
all_first first w lines (a ∷ asks) (o ∷ olds) (n ∷ news) on none now = (
  answered_first first w a.items n.items on
      (subst (λ (ts : List (List ℕ)). AnswersBehind w 0 a.items ts n.items) none.0 now.0),
  all_first first w lines asks olds news on none.1 now.1,
)

pub all_plain : (first : State) (caller : ℕ) (lines log more rest : List Line) (asks : List (Vec Ask))
    (texts : List (Vec (List ℕ))) → LinesRise 1 lines → Interleaves lines ((log ++ more) ++ rest)
    → AreAsksFrom caller lines asks → CommitsAt (λ (place : ℕ). ⊥) more → AreAnswered first log asks texts
    → AreAnswered first (log ++ more) asks texts
all_plain first caller lines log more rest [] [] rise numbering asks_are only was = tt
all_plain first caller lines log more rest [] (t ∷ texts) rise numbering asks_are only was = absurd was
all_plain first caller lines log more rest (a ∷ asks) [] rise numbering asks_are only was = absurd was
all_plain first caller lines log more rest (a ∷ asks) (t ∷ texts) rise numbering asks_are only was = (
  answered_plain first caller lines log more rest a.items t.items rise numbering asks_are.0 only was.0,
  all_plain first (caller + 1) lines log more rest asks texts rise numbering asks_are.1 only was.1,
)

pub all_more : (first w : State) (caller : ℕ) (lines log more rest : List Line) (place : ℕ) (asks : List (Vec Ask))
    (olds news : List (Vec (List ℕ))) → LinesRise 1 lines → Interleaves lines ((log ++ more) ++ rest)
    → AreAsksFrom caller lines asks → CommitsAt (λ (at : ℕ). at ≡ place) more → IsWriterOn first (log ++ more) w
    → IsSettled (log ++ more) place → number_behind first.published.upto (log ++ more) place ≡ w.published.upto
    → AllAnswerBehind w place asks olds news → AreAnswered first log asks olds → AreAnswered first (log ++ more) asks news
all_more first w caller lines log more rest place [] [] [] rise numbering asks_are only on settled number now was = tt
all_more first w caller lines log more rest place [] [] (n ∷ news) rise numbering asks_are only on settled number now was =
    absurd now
all_more first w caller lines log more rest place [] (o ∷ olds) news rise numbering asks_are only on settled number now was =
    absurd was
all_more first w caller lines log more rest place (a ∷ asks) [] news rise numbering asks_are only on settled number now was =
    absurd was
all_more first w caller lines log more rest place (a ∷ asks) (o ∷ olds) [] rise numbering asks_are only on settled number now was =
    absurd now
all_more first w caller lines log more rest place (a ∷ asks) (o ∷ olds) (n ∷ news) rise numbering asks_are only on settled number now was = (
  answered_more first w caller lines log more rest place a.items o.items n.items rise numbering asks_are.0 only on settled
      number now.0 was.0,
  all_more first w (caller + 1) lines log more rest place asks olds news rise numbering asks_are.1 only on settled number
      now.1 was.1,
)

-- ---- a line of the log

pub settled_at : (log : List Line) (place : ℕ) → HasLine log place → IsSettled log place
settled_at log zero has = tt
settled_at log (suc place) has = has

pub number_at : (lines log rest : List Line) (base place : ℕ) → LinesRise 1 lines → Interleaves lines (log ++ rest)
    → HasLine log place → number_behind base log place ≡ number_of base log place
number_at lines log rest base zero rise numbering has =
    absurd (let some = placed_from lines (log ++ rest) zero rise numbering (has_line_in_front log rest zero has) in
    omega (arith, some))
number_at lines log rest base (suc place) rise numbering has = refl
