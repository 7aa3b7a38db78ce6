use Rattle.std.proofs.Common.{◌<◌, length, arith, sym, subst, ap, ◌∙◌, All, Some, Vec, ℕ}
use Rattle.std.specs.declared.alloc.Global.{Global}
use Rattle.std.proofs.lemmas.List.Elements.{All-get_or}
use Rattle.ix_base.specs.FileNames.{IsFileName}
use Rattle.ix_base.specs.declared.file_name.FileName.{FileName}
use Rattle.ix_outside.specs.Files.{Files}
use Rattle.ix_outside.specs.Disk.{with_at}
use Rattle.ix_memory.proofs.SettledFiles.{more_pairs}
use Rattle.ix_memory.proofs.settled.settled_files.Goals as goal

pub put_file-requires : goal.put_file-requires
put_file-requires c =
    let lt : c.loop-file.file-index < length c.deref-file-items.result.now = omega arith in
    let all : All (λ (file : FileName × Vec ℕ Global). IsFileName file.0) c.deref-file-items.result.now = rw c.deref-file-items.ensures.value c.requires in
    subst (λ (file : FileName × Vec ℕ Global). IsFileName file.0) (sym c.file-item.is)
    (All-get_or (λ (file : FileName × Vec ℕ Global). IsFileName file.0) c.deref-file-items.result.now c.loop-file.file-index c.file-item.result lt all)

pub loop-file-preserved : goal.loop-file-preserved
loop-file-preserved c =
    let lt : c.loop-file.file-index < length c.deref-file-items.result.now = omega arith in
    record {
      files = c.in_ok-put_file.ensures.files
          ∙ (ap (λ (f : Files). with_at c.file-item.result.0 (Some c.file-item.result.1.items) f) c.loop-file.invariant.files
          ∙ sym (more_pairs c.deref-file-items.result.now c.loop-file.file-index c.file-item.result _ lt (sym c.file-item.is)));
      synced = c.in_ok-put_file.ensures.synced c.loop-file.invariant.synced;
    }
