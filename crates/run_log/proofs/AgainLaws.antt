-- On files that have the first of a log's commits the next run can begin.
use Rattle.std.proofs.Common.{◌≡◌, ◌⊎◌, inl, inr, ℕ, ◌+◌, ◌*◌, ◌<◌, ◌≤◌, ◌^◌, List, [], ◌∷◌, ◌++◌, length, take}
use Rattle.std.proofs.Common.{refl, sym, subst, arith}
use Rattle.std.specs.Prelude.{Option, IsSome}
use Rattle.ix_base.specs.declared.file_name.FileName.TheVariants.{Commit}
use Rattle.ix_outside.specs.Files.{Files}
use Rattle.commit_point.specs.Holds.{IsLawful}
use Rattle.op_script.specs.declared.script.Line.{Line}
use Rattle.run_log.proofs.CommitLaws.{AllBelow, commits_rise, each_at, in_last, in_most, rises_last, split_last}
use Rattle.run_log.proofs.CountLaws.{same_count}
use Rattle.run_log.specs.Headline.{CanRun, CanRunOn, Given, HasFirst, HasNoCommit, HasOnly, HasRoom, HasSome, Interleaves, IsIn, IsNewCommit, commit_numbers, numbered, rows_at}
use Rattle.commit_point.proofs.KeptLaws.{inverted_there, there_by}
use Rattle.run_log.proofs.OnlyLaws.{lists_back, none_of}
use Rattle.run_log.specs.Numbering.{Rises}

-- the files have the given commits, and no other
pub again_none : (g : Given) (f : Files) → CanRun g → HasOnly g.files f → CanRunOn f
again_none g f can has = (
  record g { files = f },
  refl,
  (
    record {
      there = λ some. let was = can.0.there some in there_still was (has.kept g.base was (Commit g.base) (inl refl));
      none_above = λ s above. none_of (f (Commit s))
          (λ there. let some = has.only s there in let gone = can.0.none_above s above in cc);
    },
    by can.1,
  ),
)
  where
    there_still : IsSome (g.files (Commit g.base)) → f (Commit g.base) ≡ g.files (Commit g.base)
        → IsSome (f (Commit g.base))
    there_still was same = subst (λ (o : Option (List ℕ)). IsSome o) (sym same) was

    by : HasNoCommit g ⊎ ((1 ≤ g.base) × IsLawful g.files g.base g.next g.rows)
        → HasNoCommit g ⊎ ((1 ≤ g.base) × IsLawful f g.base g.next g.rows)
    by (inl none) = inl none
    by (inr on) = inr (
      on.0,
      record {
        holds = inverted_there g.files f g.base g.next g.rows has.kept on.1.holds;
        room = on.1.room;
        above = λ t e below lists. on.1.above t e below (lists_back g.files f t e has lists);
      },
    )

-- the last commit is one of the log's
again_some : (g : Given) (log : List Line) (count : ℕ) (front : List ℕ) (s : ℕ) (f : Files) → CanRun g
    → g.next + 2 * length log ≤ 2 ^ 61 → commit_numbers g.base (take count log) ≡ front ++ s ∷ []
    → HasFirst g log count f → CanRunOn f
again_some g log count front s f can room is has = (
  record { lines = []; files = f; base = s; next = this.own.id; rows = rows_at g.base g.rows log s },
  refl,
  (
    record { there = λ some. there; none_above = λ t above. none_of (f (Commit t)) (not_above t above) },
    inr (
      omega (arith, rise.0),
      record { holds = this.own.holds; room = omega (arith, this.own.to_limit, room); above = this.above },
    ),
  ),
)
  where
    this : IsNewCommit g log f s
    this =
        each_at (IsNewCommit g log f) (commit_numbers g.base (take count log)) s has.each
        (subst (λ (ns : List ℕ). IsIn ns s) (sym is) (in_last front s))

    rise : (g.base < s) × AllBelow s front
    rise =
        rises_last g.base s front
        (subst (λ (ns : List ℕ). Rises g.base ns) is (commits_rise g.base (take count log)))

    there : IsSome (f (Commit s))
    there = there_by f s _ this.own.holds.holds.spelled.head.file

    not_above : (t : ℕ) → s < t → IsSome (f (Commit t)) → ⊥
    not_above t above here = elim (has.only t here) [
      | inl was ↦ let gone = can.0.none_above t (omega (arith, above, rise.0)) in cc
      | inr among ↦
          absurd (omega (arith, above, in_most front s t rise.1 (subst (λ (ns : List ℕ). IsIn ns t) is among)))
    ]

-- Where the next id leaves room for the log.
pub again : (g : Given) (log : List Line) (f : Files) → CanRun g → g.next + 2 * length log ≤ 2 ^ 61
    → HasSome g log f → CanRunOn f
again g log f can room some = by (split_last (commit_numbers g.base (take some.0 log)))
  where
    by : (commit_numbers g.base (take some.0 log) ≡ [])
        ⊎ ((front : List ℕ) × (s : ℕ) × (commit_numbers g.base (take some.0 log) ≡ front ++ s ∷ [])) → CanRunOn f
    by (inl none) = again_none g f can (record {
      kept = some.1.kept;
      only = λ s there. elim (some.1.only s there) [
        | inl was ↦ was
        | inr among ↦ absurd (subst (λ (ns : List ℕ). IsIn ns s) none among)
      ];
    })
    by (inr last) = again_some g log some.0 last.0 last.1 f can room last.2 some.1

pub commits_run_on : (g : Given) (log : List Line) (f : Files) → CanRun g → Interleaves g.lines log → HasRoom g
    → HasSome g log f → CanRunOn f
commits_run_on g log f can numbering room some =
    let count : length log ≡ length (numbered g.lines) = same_count log (numbered g.lines) numbering in
    again g log f can (omega (arith, room, count)) some
