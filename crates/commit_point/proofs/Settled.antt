-- Commits that were kept before a commit was made, and this one, are kept in every image.
use Rattle.std.proofs.Common.{◌≡◌, ◌≢◌, ◌∙◌, ℕ, zero, suc, ◌+◌, ◌<◌, ◌≤◌, eqb, Bool, true, false, cond, List, [], ◌∷◌, Option, Some, None, length, get_or, refl, sym, ap, subst, inl, inr, arith}
use Rattle.std.specs.Prelude.{Contains, IsSome, is_some}
use Rattle.std.specs.List.{AllByRecursion}
use Rattle.std.proofs.lemmas.Bool.{eqb-true, eq-eqb}
use Rattle.std.proofs.lemmas.List.Elements.{All-from_recursion}
use Rattle.ix_base.specs.declared.file_name.FileName.{FileName}
use Rattle.ix_base.specs.declared.file_name.FileName.TheVariants.{Commit, Rows}
use Rattle.ix_outside.specs.Crash.{MayHold}
use Rattle.ix_outside.specs.Disk.{Disk, told_files}
use Rattle.ix_outside.specs.Files.{Files, Changes}
use Rattle.ix_outside.specs.Images.{Follows}
use Rattle.segment_core.specs.LiveRows.{Lived}
use Rattle.commit_point.specs.declared.heads.HeadSegment.{HeadSegment}
use Rattle.commit_point.specs.declared.heads.Head.{Head}
use Rattle.commit_point.specs.declared.written.Written.{Written}
use Rattle.commit_point.specs.Fits.{EntryFits}
use Rattle.commit_point.specs.Holds.{Pairs, HasSegment, HasSegments, HaveSegments, IsAmong, IsFileOf, Lists, AreKept, names_of, head_of}
use Rattle.commit_point.proofs.Laws.{one_head}
use Rattle.commit_point.specs.Encoding.{own_files}
use Rattle.commit_point.specs.Publishing.{AreThere}
use Rattle.commit_point.specs.Settling.{AreOfCommits, Settles}
use Rattle.commit_point.proofs.Names.{there_append}
use Rattle.commit_point.specs.Writing.{AreWritten, CanCommit, ComesAfter, Commits, IsElsewhere, IsOldId, IsWritten, SegmentIdsRise, commit_files, entries_of, files_of, is_alive, listed}

pub by_number : {A : Type 0} (t s : ℕ) → (t ≡ s → A) → (t ≢ s → A) → A
by_number {A} t s same other = by (eqb t s) refl
  where
    by : (b : Bool) → eqb t s ≡ b → A
    by true e = same (eqb-true t s e)
    by false e = other (λ is. absurd (let both : true ≡ false = sym (eq-eqb t s is) ∙ e in cc))

is_there : (o : Option (List ℕ)) (bytes : List ℕ) → o ≡ Some bytes → IsSome o
is_there o bytes is = subst (λ (x : Option (List ℕ)). IsSome x) (sym is) refl

pub none_is_there : (o : Option (List ℕ)) → o ≡ None → IsSome o → ⊥
none_is_there o none some = let both : false ≡ true = sym (ap is_some none) ∙ some in absurd cc

-- what holds of each holds of one
holds_of : {X : Type 0} (P : X → Type 0) (xs : List X) (x : X) → AllByRecursion P xs → Contains xs x → P x
holds_of P xs x all one = subst P one.2 (All-from_recursion P xs all one.0 x one.1)

-- ---- what was written before

-- what was written of segments stands in files that have all of these
pub written_onto : (own files : Files) (t : ℕ) (gs : List Lived) (ws : List (Option Written)) → ((name : FileName) → IsSome (own name) → files name ≡ own name)
    → AreWritten own t gs ws → AreWritten files t gs ws
written_onto own files t [] ws same was = tt
written_onto own files t (g ∷ gs) [] same was = tt
written_onto own files t (g ∷ gs) (None ∷ ws) same was = (λ alive. tt, written_onto own files t gs ws same was.1)
written_onto own files t (g ∷ gs) (Some w ∷ ws) same was = (λ alive. one (was.0 alive), written_onto own files t gs ws same was.1)
  where
    at : (name : FileName) (bytes : List ℕ) → own name ≡ Some bytes → files name ≡ Some bytes
    at name bytes is = same name (is_there (own name) bytes is) ∙ is

    one : IsWritten own t (Some w) g → IsWritten files t (Some w) g
    one is = (
      is.0,
      record {
        id = is.1.id;
        count = is.1.count;
        whole = is.1.whole;
        applied = is.1.applied;
        rows = record { bytes = is.1.rows.bytes; file = at _ _ is.1.rows.file; spells = is.1.rows.spells };
        posts = at _ _ is.1.posts;
        live = at _ _ is.1.live;
        values = at _ _ is.1.values;
        rows_fit = is.1.rows_fit;
        posts_fit = is.1.posts_fit;
        live_fit = is.1.live_fit;
        values_fit = is.1.values_fit;
      },
    )

-- a commit of which there is a file is there
commit_there : (files : Files) (t : ℕ) (name : FileName) → IsFileOf files t name → IsSome (files name) → IsSome (files (Commit t))
commit_there files t name (inl is) some = subst (λ (n : FileName). IsSome (files n)) is some
commit_there files t name (inr file) some = let lists : Lists files t file.0 = file.1 in is_there (files (Commit t)) _ lists.has_head.file

-- what stands in files of commits stands in every image in which these are kept
image_has : (files own d : Files) (images : Files → Type 0) → AreOfCommits files own → AreKept files images → images d → (name : FileName) → IsSome (own name) → d name ≡ own name
image_has files own d images stand are image name some =
    let is = stand name some in
    are.kept d image is.0.0 (commit_there files is.0.0 name is.0.1 (subst IsSome (sym is.1) some)) name is.0.1 ∙ is.1

-- ---- rows of this commit

-- both have the same files of rows of these segments
abbrev SameRows : Files → Files → List Lived → Type 0
SameRows a c gs = AllByRecursion (λ (g : Lived). c (Rows g.segment.id) ≡ a (Rows g.segment.id)) gs

old_more : (w : Option Written) (g : Lived) (gs : List Lived) (ws : List (Option Written)) (id : ℕ) → g.segment.id ≢ id → IsOldId gs ws id → IsOldId (g ∷ gs) (w ∷ ws) id
old_more None g gs ws id other is = (other, is)
old_more (Some w) g gs ws id other is = is

-- ids rise, so one below theirs isn't that of a new segment
old_below : (low limit : ℕ) (gs : List Lived) (ws : List (Option Written)) (id : ℕ) → id < low → SegmentIdsRise low limit gs → IsOldId gs ws id
old_below low limit [] ws id lt rise = tt
old_below low limit (g ∷ gs) [] id lt rise = tt
old_below low limit (g ∷ gs) (w ∷ ws) id lt rise =
    old_more w g gs ws id (λ e. absurd (omega (arith, e, lt, rise.0))) (old_below (g.segment.id + 1) limit gs ws id (omega (arith, lt, rise.0)) rise.2)

-- Files with what the commit writes have the same files of rows of its segments, where they have those of old ones.
rows_same : (s low limit : ℕ) (gs : List Lived) (ws : List (Option Written)) (own a c : Files) → SegmentIdsRise low limit gs → AreWritten own s gs ws → AreThere (commit_files s gs ws) a → AreThere (commit_files s gs ws) c
    → ((id : ℕ) → low ≤ id → IsOldId gs ws id → IsSome (own (Rows id)) → c (Rows id) ≡ a (Rows id)) → length ws ≡ length gs → SameRows a c (listed gs)
rows_same s low limit [] ws own a c rise was there there_too old same = tt
rows_same s low limit (g ∷ gs) [] own a c rise was there there_too old same = absurd (omega (arith, same))
rows_same s low limit (g ∷ gs) (w ∷ ws) own a c rise was there there_too old same =
    let parts = there_append (own_files s w g) (commit_files s gs ws) a there in
    let parts_too = there_append (own_files s w g) (commit_files s gs ws) c there_too in
    let later = λ (id : ℕ) (le : g.segment.id + 1 ≤ id) (is : IsOldId gs ws id). old id (omega (arith, le, rise.0)) (old_more w g gs ws id (λ e. absurd (omega (arith, e, le))) is) in
    by (is_alive g) refl (one w was.0 old) parts.0 parts_too.0
    (rows_same s (g.segment.id + 1) limit gs ws own a c rise.2 was.1 parts.1 parts_too.1 later (omega (arith, same)))
  where
    one : (v : Option Written) → (is_alive g ≡ true → IsWritten own s v g)
        → ((id : ℕ) → low ≤ id → IsOldId (g ∷ gs) (v ∷ ws) id → IsSome (own (Rows id)) → c (Rows id) ≡ a (Rows id))
        → is_alive g ≡ true → AreThere (files_of s v g) a → AreThere (files_of s v g) c → c (Rows g.segment.id) ≡ a (Rows g.segment.id)
    one None is kept alive here here_too = here_too.0 ∙ sym here.0
    one (Some v) is kept alive here here_too =
        kept g.segment.id rise.0 (old_below (g.segment.id + 1) limit gs ws g.segment.id (omega arith) rise.2) (is_there (own (Rows g.segment.id)) _ (is alive).1.rows.file)

    by : (b : Bool) → is_alive g ≡ b
        → (is_alive g ≡ true → AreThere (files_of s w g) a → AreThere (files_of s w g) c → c (Rows g.segment.id) ≡ a (Rows g.segment.id))
        → AreThere (cond b (files_of s w g) []) a → AreThere (cond b (files_of s w g) []) c → SameRows a c (listed gs) → SameRows a c (cond b (g ∷ listed gs) (listed gs))
    by true alive here_is here here_too rest = (here_is alive here here_too, rest)
    by false alive here_is here here_too rest = rest

-- ---- this commit

-- two stores that have one segment, and the same file of its rows, have the same files of it
same_file : (s : ℕ) (e : HeadSegment) (g : Lived) (a c : Files) (name : FileName) → HasSegment a s e g → HasSegment c s e g → c (Rows g.segment.id) ≡ a (Rows g.segment.id) → IsAmong (names_of e) name → c name ≡ a name
same_file s e g a c name h k rows (inl is) = ap c is ∙ subst (λ (id : ℕ). c (Rows id) ≡ a (Rows id)) h.id rows ∙ sym (ap a is)
same_file s e g a c name h k rows (inr (inl is)) = ap c is ∙ k.posts ∙ sym h.posts ∙ sym (ap a is)
same_file s e g a c name h k rows (inr (inr (inl is))) = ap c is ∙ k.live ∙ sym h.live ∙ sym (ap a is)
same_file s e g a c name h k rows (inr (inr (inr (inl is)))) = ap c is ∙ k.values ∙ sym h.values ∙ sym (ap a is)
same_file s e g a c name h k rows (inr (inr (inr (inr none)))) = absurd none

same_files : (s : ℕ) (es : List HeadSegment) (gs : List Lived) (a c : Files) (e : HeadSegment) (name : FileName) (i : ℕ) → i < length es → get_or es i e ≡ e
    → HaveSegments a s es gs → HaveSegments c s es gs → SameRows a c gs → IsAmong (names_of e) name → c name ≡ a name
same_files s [] gs a c e name i lt is h k rows among = absurd (omega (arith, lt))
same_files s (x ∷ es) [] a c e name i lt is h k rows among = absurd h
same_files s (x ∷ es) (g ∷ gs) a c e name zero lt is h k rows among = same_file s x g a c name h.0 k.0 rows.0 (subst (λ (y : HeadSegment). IsAmong (names_of y) name) (sym is) among)
same_files s (x ∷ es) (g ∷ gs) a c e name (suc i) lt is h k rows among = same_files s es gs a c e name i (omega (arith, lt)) is h.1 k.1 rows.1 among

this_kept : (s next : ℕ) (entries : List HeadSegment) (gs : List Lived) (a c : Files) (name : FileName) → c (Commit s) ≡ a (Commit s) → HasSegments a s next entries gs → HasSegments c s next entries gs
    → SameRows a c gs → IsFileOf a s name → c name ≡ a name
this_kept s next entries gs a c name commit h k rows (inl is) = ap c is ∙ commit ∙ sym (ap a is)
this_kept s next entries gs a c name commit h k rows (inr file) =
    let lists : Lists a s file.0 = file.1 in
    let same : lists.head ≡ head_of s next h.tail entries gs = one_head a s lists.head (head_of s next h.tail entries gs) lists.has_head h.head in
    let one : Contains entries file.0 = subst (λ (head : Head). Contains head.segments file.0) same lists.listed in
    same_files s entries gs a c file.0 name one.0 one.1 one.2 h.each k.each rows file.2

-- ---- earlier commits

-- a file of an earlier commit is none of those that this one writes
earlier_elsewhere : (s t : ℕ) (Old : ℕ → Type 0) (e : HeadSegment) (name : FileName) → t < s → Old e.id → EntryFits t e → IsAmong (names_of e) name → IsElsewhere s Old name
earlier_elsewhere s t Old e name lt old fit among = by among
  where
    not_now : e.written ≢ s
    not_now is = absurd (omega (arith, is, fit.not_later, lt))

    by : IsAmong (names_of e) name → IsElsewhere s Old name
    by (inl is) = subst (IsElsewhere s Old) (sym is) old
    by (inr (inl is)) = subst (IsElsewhere s Old) (sym is) old
    by (inr (inr (inl is))) = subst (IsElsewhere s Old) (sym is) not_now
    by (inr (inr (inr (inl is)))) = subst (IsElsewhere s Old) (sym is) not_now
    by (inr (inr (inr (inr none)))) = absurd none

-- a file of an earlier commit was one before
pub was_file : (s t : ℕ) (gs : List Lived) (ws : List (Option Written)) (files now : Files) (name : FileName) → t < s → ComesAfter files s gs ws → now (Commit t) ≡ files (Commit t)
    → IsFileOf now t name → IsFileOf files t name × IsElsewhere s (IsOldId gs ws) name
was_file s t gs ws files now name lt after same (inl is) =
    (inl is, subst (IsElsewhere s (IsOldId gs ws)) (sym is) (λ e. absurd (omega (arith, e, lt))))
was_file s t gs ws files now name lt after same (inr file) =
    let lists : Lists now t file.0 = file.1 in
    let listed : Lists files t file.0 = record {
      head = lists.head;
      has_head = record { file = sym same ∙ lists.has_head.file; number = lists.has_head.number; fits = lists.has_head.fits };
      listed = lists.listed;
    } in
    let fit : EntryFits t file.0 = subst (λ (n : ℕ). EntryFits n file.0) lists.has_head.number (holds_of (EntryFits lists.head.number) lists.head.segments file.0 lists.has_head.fits.entries lists.listed) in
    (inr (file.0, listed, file.2), earlier_elsewhere s t (IsOldId gs ws) file.0 name lt (after.new_ids t file.0 listed) fit file.2)

-- ---- all of them

all_kept : (s next : ℕ) (pairs : Pairs) (gs : List Lived) (ws : List (Option Written)) (files now own : Files) (before after : Files → Type 0) → CanCommit s next gs ws
    → Commits s next pairs gs ws files now → Follows (Commits s next pairs gs ws) before after → ComesAfter files s gs ws → AreWritten own s gs ws
    → AreOfCommits files own → AreKept files before → AreKept now after
all_kept s next pairs gs ws files now own before after can made follows comes was stand are = record {
  kept = λ d image t some name file. by_number t s (λ is. new_kept d image t is name file) (λ other. old_kept d image t other some name file);
  only = λ d image t some. by_number t s (λ is. new_only t is) (λ other. old_only d image t other some);
}
  where
    new_kept : (d : Files) → after d → (t : ℕ) → t ≡ s → (name : FileName) → IsFileOf now t name → d name ≡ now name
    new_kept d image t is name file =
        let step = follows d image in
        let had : (n : FileName) → IsSome (own n) → step.0 n ≡ own n = image_has files own step.0 before stand are step.1 in
        let has : (n : FileName) → IsSome (own n) → files n ≡ own n = λ n own_some. (stand n own_some).1 in
        let rows : SameRows now d (listed gs) =
        rows_same s 1 next gs ws own now d can.ids was made.files step.2.files
        (λ id le old own_some. step.2.elsewhere (Rows id) old ∙ had (Rows id) own_some ∙ sym (has (Rows id) own_some) ∙ sym (made.elsewhere (Rows id) old))
        can.count in
        this_kept s next (entries_of s gs ws) (listed gs) now d name (step.2.commit ∙ sym made.commit) (made.spelled (written_onto own files s gs ws has was)) (step.2.spelled (written_onto own step.0 s gs ws had was))
        rows (subst (λ (n : ℕ). IsFileOf now n name) is file)

    earlier : (t : ℕ) → t ≢ s → IsSome (files (Commit t)) → t < s
    earlier t other some = let below : s ≤ t → ⊥ = λ le. none_is_there (files (Commit t)) (comes.none_from t le) some in omega (arith, below)

    old_kept : (d : Files) → after d → (t : ℕ) → t ≢ s → IsSome (now (Commit t)) → (name : FileName) → IsFileOf now t name → d name ≡ now name
    old_kept d image t other some name file =
        let step = follows d image in
        let same : now (Commit t) ≡ files (Commit t) = made.elsewhere (Commit t) other in
        let there : IsSome (files (Commit t)) = subst IsSome same some in
        let old = was_file s t gs ws files now name (earlier t other there) comes same file in
        step.2.elsewhere name old.1 ∙ are.kept step.0 step.1 t there name old.0 ∙ sym (made.elsewhere name old.1)

    new_only : (t : ℕ) → t ≡ s → IsSome (now (Commit t))
    new_only t is = subst (λ (n : ℕ). IsSome (now (Commit n))) (sym is) (subst IsSome (sym made.commit) refl)

    old_only : (d : Files) → after d → (t : ℕ) → t ≢ s → IsSome (d (Commit t)) → IsSome (now (Commit t))
    old_only d image t other some =
        let step = follows d image in
        subst IsSome (sym (made.elsewhere (Commit t) other)) (are.only step.0 step.1 t (subst IsSome (step.2.elsewhere (Commit t) other) some))

pub settles : (s next : ℕ) (pairs : Pairs) (gs : List Lived) (ws : List (Option Written)) (a b : Option Disk) → CanCommit s next gs ws → Changes (Commits s next pairs gs ws) (told_files a) (told_files b)
    → Follows (Commits s next pairs gs ws) (MayHold a) (MayHold b) → Settles s gs ws a b
settles s next pairs gs ws a b can changes follows files now own told told_now comes was stand are =
    let made : Commits s next pairs gs ws files now = subst (λ (o : Option Files). Changes (Commits s next pairs gs ws) (Some files) o) told_now (subst (λ (o : Option Files). Changes (Commits s next pairs gs ws) o (told_files b)) told changes) in
    all_kept s next pairs gs ws files now own (MayHold a) (MayHold b) can made follows comes was stand are
