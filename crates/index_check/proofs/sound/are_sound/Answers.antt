use Rattle.std.proofs.Common.{◌≡◌, ◌≤◌, ◌∙◌, ℕ, List, Some, get_or, length, refl, ap, subst, sym, eqb-true, arith}
use Rattle.ix_outside.specs.Disk.{told_files}
use Rattle.commit_point.specs.declared.heads.HeadSegment.{HeadSegment}
use Rattle.index_check.specs.Known.{AreSound, IsSoundNow}
use Rattle.index_check.proofs.Owners.{fewer_known}
use Rattle.index_check.proofs.Passed.{all_sound, none_sound, one_more_seen}
use Rattle.index_check.proofs.WereRead.{some_at}
use Rattle.index_check.proofs.sound.are_sound.Goals as goal

pub loop-entry-init : goal.loop-entry-init
loop-entry-init g c = record {
  found = λ files told.
      none_sound files c.args.head.now.number c.keep.new.self
      (fewer_known files c.args.head.now.number c.args.known.now c.keep.new.self (c.requires.known files told) c.in_ok-keep.ensures.known c.in_ok-keep.ensures.owners);
  reads = refl;
  later = omega arith;
}

pub sound_segment-requires : goal.sound_segment-requires
sound_segment-requires g c = λ files told.
    let inv = c.loop-entry.invariant in
    (inv.found files (ap told_files (sym inv.reads) ∙ told)).known_now

pub loop-entry-preserved : goal.loop-entry-preserved
loop-entry-preserved g c =
    let inv = c.loop-entry.invariant in
    let head = c.args.head.now in
    let first : HeadSegment = record { id = 0; rows = 0; written = 0 } in
    record {
      found = λ files told.
          let now : told_files (g.S.Store.disk c.loop-entry.store) ≡ Some files = ap told_files inv.reads ∙ told in
          one_more_seen files head.number head.next_id head.segments c.as_slice-entries.result.now c.loop-entry.entry-index first c.loop-entry.known c.sound_segment.new.known c.loop-entry.docs c.in-Some.live c.saturating_add-docs.result
          c.as_slice-entries.ensures c.requires.fits.ids c.loop-entry-test.true (inv.found files told)
          (some_at c.in_ok-live.field-0 c.in-Some.live (IsSoundNow files head.number (get_or c.as_slice-entries.result.now c.loop-entry.entry-index first) c.loop-entry.known c.sound_segment.new.known) c.in-Some.is (c.in_ok-live.ensures.sound files now))
          (omega (arith, c.saturating_add-docs.ensures, c.from.ensures));
      reads = c.sound_segment.ensures.reads ∙ inv.reads;
      later = omega (arith, inv.later, c.sound_segment.ensures.later);
    }

pub returns-clause-sound : goal.returns-clause-sound
returns-clause-sound g c = λ files told same.
    let head = c.args.head.now in
    let past : length head.segments ≤ c.loop-entry.entry-index = subst (λ (es : List HeadSegment). length es ≤ c.loop-entry.entry-index) c.as_slice-entries.ensures c.loop-entry-test.false in
    subst (λ (n : ℕ). AreSound files head.number head.segments c.loop-entry.known n) (eqb-true _ _ same)
    (all_sound files head.number head.segments c.loop-entry.entry-index c.loop-entry.known c.loop-entry.docs past (c.loop-entry.invariant.found files told))
