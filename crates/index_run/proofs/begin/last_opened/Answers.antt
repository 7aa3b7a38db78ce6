use Rattle.std.proofs.Common.{◌≡◌, ◌∙◌, ℕ, zero, suc, ◌≤◌, Err, Option, inl, inr, refl, sym, ap, subst, arith}
use Rattle.ix_base.specs.declared.damaged.Damaged.{Damaged}
use Rattle.ix_outside.specs.Disk.{told_files}
use Rattle.ix_outside.specs.Files.{Files, Was}
use Rattle.commit_point.specs.Holds.{HasSegments}
use Rattle.commit_point.specs.declared.fault.OpenFault.{OpenFault}
use Rattle.commit_point.specs.declared.fault.OpenFault.TheVariants as opening
use Rattle.report_text.specs.declared.fault.Fault.TheVariants as fault
use Rattle.index_run.specs.Causes.{stop_of}
use Rattle.index_run.specs.declared.stop.Stop.{Stop}
use Rattle.index_run.specs.declared.stop.Stop.TheVariants as stop
use Rattle.index_run.proofs.begin.last_opened.Goals as goal

some_of : (n : ℕ) → (n ≡ 0 → ⊥) → 1 ≤ n
some_of zero not = absurd (not refl)
some_of (suc n) not = omega arith

pub returns-in-Ok-clause-on : goal.returns-in-Ok-clause-on
returns-in-Ok-clause-on g c = λ given told last on.
    let same : c.in_ok-base.base ≡ given.base = c.in_ok-base.ensures.only given.files given.base told last in
    let there = ap told_files c.last_commit.ensures.reads ∙ told in
    record {
      some = some_of given.base (λ none. c.if-base-eq0.false (same ∙ none));
      is = λ entries segments has.
          subst (λ (n : ℕ). c.in-Ok.opened ≡ record { number = n; next_id = given.next; entries = entries; segments = segments }) same
          (c.in-Ok.ensures.only given.files given.next entries segments there
          (subst (λ (n : ℕ). HasSegments given.files n given.next entries segments) (sym same) has));
    }

pub returns-in-Err-clause-whole : goal.returns-in-Err-clause-whole
returns-in-Err-clause-whole g c = λ given told last on low.
    let same : c.in_ok-base.base ≡ given.base = c.in_ok-base.ensures.only given.files given.base told last in
    let there = ap told_files c.last_commit.ensures.reads ∙ told in
    elim on [
      | inl none ↦ absurd (c.if-base-eq0.false (same ∙ none.0))
      | inr held ↦
          let h = held.1 in
          elim (c.in-Err.ensures.whole given.files given.next h.entries h.segments there
          (subst (λ (n : ℕ). HasSegments given.files n given.next h.entries h.segments) (sym same) h.spelled)) [
            | inl e ↦ inl (c.from.ensures ∙ ap stop_of e)
            | inr e ↦ inr (c.from.ensures ∙ ap stop_of e)
          ]
    ]

damage_of : (f : OpenFault) (s : Stop) (d : Damaged) → s ≡ stop_of f → s ≡ stop.Fault (fault.Damaged d)
    → f ≡ opening.Damaged d
damage_of opening.Store s d is e = absurd (let both = sym is ∙ e in cc)
damage_of (opening.Damaged x) s d is e =
    let both : stop.Fault (fault.Damaged x) ≡ stop.Fault (fault.Damaged d) = sym is ∙ e in cc
damage_of (opening.NoSuch n) s d is e = absurd (let both = sym is ∙ e in cc)
damage_of opening.NoMemory s d is e = absurd (let both = sym is ∙ e in cc)

pub returns-in-Err-clause-damaged : goal.returns-in-Err-clause-damaged
returns-in-Err-clause-damaged g c = λ damaged is.
    let said : c.from.result ≡ stop.Fault (fault.Damaged damaged) = cc in
    let found = c.in-Err.ensures.damaged damaged (ap Err (damage_of c.in-Err.fault c.from.result damaged c.from.ensures said)) in (
      c.in_ok-base.base,
      record {
        last = c.in_ok-base.ensures.last;
        some = some_of c.in_ok-base.base c.if-base-eq0.false;
        broken = (
          found.0,
          subst (λ (o : Option Files). Was o found.0) (ap told_files c.last_commit.ensures.reads) found.1,
          found.2,
        );
      },
    )
