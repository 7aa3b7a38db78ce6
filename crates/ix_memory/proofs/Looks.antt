-- Where the search for the bytes of a file goes from a call.
use Rattle.std.proofs.Common.{◌≡◌, ℕ, ◌+◌, ◌<◌, List, [], ◌∷◌, length, get_or, take, reverse, Bool, true, None, sym, ap, subst, ◌∙◌, arith, if◌then◌else◌}
use Rattle.std.specs.Prelude.{Option, option_and_then}
use Rattle.std.proofs.lemmas.List.{take_more, reverse-append, length-reverse, length-take-le}
use Rattle.ix_base.specs.declared.file_name.FileName.{FileName}
use Rattle.ix_outside.specs.Files.{Files}
use Rattle.ix_outside.specs.Disk.{is_same, moved, files as files_of}
use Rattle.ix_memory.specs.History.{files_left, bytes_left, leaves_step}
use Rattle.ix_outside.proofs.CrashLaws.{is_same-true}
use Rattle.ix_memory.proofs.HistoryLaws.{whole_is_read}
use Rattle.ix_memory.specs.Left.{Goes}
use Rattle.ix_memory.specs.declared.outcome.StepsLeft.{StepsLeft}
use Rattle.ix_memory.specs.declared.outcome.StepsLeft.TheVariants.{Every}
use Rattle.ix_memory.specs.declared.outcome.BytesLeft.{BytesLeft}
use Rattle.ix_memory.specs.declared.outcome.BytesLeft.TheVariants.{Whole}
use Rattle.ix_memory.specs.declared.left.Found.{Found}
use Rattle.ix_outside.specs.declared.step.Step.{Step}
use Rattle.ix_outside.specs.declared.step.Step.TheVariants.{Wrote, Synced, Renamed, Spoilt}

pub at_written : (call : Step) (older : List Step) (steps : StepsLeft) (bytes : BytesLeft) (name at : FileName) (written : List ℕ) (found : Found)
    → call ≡ Wrote at written → is_same name at ≡ true → Goes older (bytes_left bytes written) found → Goes older (files_left steps bytes (call ∷ older) name) found
at_written call older steps bytes name at written found is same goes =
    subst (λ (c : Step). Goes older (files_left steps bytes (c ∷ older) name) found) (sym is)
    (subst (λ (b : Bool). Goes older (if b then bytes_left bytes written else files_left steps bytes older name) found) (sym same) goes)

pub at_spoilt : (call : Step) (older : List Step) (steps : StepsLeft) (bytes : BytesLeft) (name at : FileName) (left : Option (List ℕ)) (found : Found)
    → call ≡ Spoilt at left → is_same name at ≡ true → Goes older (option_and_then (bytes_left bytes) left) found → Goes older (files_left steps bytes (call ∷ older) name) found
at_spoilt call older steps bytes name at left found is same goes =
    subst (λ (c : Step). Goes older (files_left steps bytes (c ∷ older) name) found) (sym is)
    (subst (λ (b : Bool). Goes older (if b then option_and_then (bytes_left bytes) left else files_left steps bytes older name) found) (sym same) goes)

pub at_synced : (call : Step) (older : List Step) (steps : StepsLeft) (bytes : BytesLeft) (name at : FileName)
    → call ≡ Synced at → is_same name at ≡ true → files_left steps bytes (call ∷ older) name ≡ files_left Every Whole older name
at_synced call older steps bytes name at is same =
    ap (λ (c : Step). files_left steps bytes (c ∷ older) name) is
    ∙ (ap (λ (b : Bool). if b then files_of older at else files_left steps bytes older name) same
    ∙ (ap (files_of older) (sym (is_same-true name at same)) ∙ sym (ap (λ (f : Files). f name) (whole_is_read older))))

pub at_renamed : (call : Step) (older : List Step) (steps : StepsLeft) (bytes : BytesLeft) (name «from» to : FileName) (found : Found)
    → call ≡ Renamed «from» to → leaves_step steps (length older) ≡ true → Goes older (moved «from» to None (files_left steps bytes older) name) found
    → Goes older (files_left steps bytes (call ∷ older) name) found
at_renamed call older steps bytes name «from» to found is leaves goes =
    subst (λ (c : Step). Goes older (files_left steps bytes (c ∷ older) name) found) (sym is)
    (subst (λ (b : Bool). Goes older ((if b then moved «from» to None (files_left steps bytes older) else files_left steps bytes older) name) found) (sym leaves) goes)

-- ---- from the newest call on

-- the calls up to one are that one and those before it
pub newest : (calls : List Step) (k : ℕ) (d : Step) → k < length calls → reverse (take (k + 1) calls) ≡ get_or calls k d ∷ reverse (take k calls)
newest calls k d lt = ap reverse (take_more calls k d lt) ∙ reverse-append (take k calls) (get_or calls k d ∷ [])

pub count_before : (calls : List Step) (k : ℕ) → k < length calls → length (reverse (take k calls)) ≡ k
count_before calls k lt = length-reverse (take k calls) ∙ length-take-le k calls (omega arith)
