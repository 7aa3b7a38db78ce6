-- Which files are deleted.
use Rattle.std.proofs.Common.{◌≡◌, ◌∙◌, ◌⊎◌, inl, inr, ℕ, zero, suc, ◌<◌, List, [], ◌∷◌, Bool, true, false, not, cond, Option, IsSome, get_or, length, map, refl, sym, ap, subst, arith}
use Rattle.std.specs.Prelude.{Contains}
use Rattle.std.specs.List.{AllZip, filter}
use Rattle.std.proofs.lemmas.List.Elements.{Contains-append_cases, Contains-append_left, Contains-append_right}
use Rattle.ix_base.specs.declared.file_name.FileName.{FileName}
use Rattle.ix_base.specs.declared.file_name.FileName.TheVariants.{Commit}
use Rattle.ix_outside.specs.Files.{Files}
use Rattle.commit_point.specs.declared.heads.HeadSegment.{HeadSegment}
use Rattle.commit_point.specs.declared.heads.Head.{Head}
use Rattle.commit_point.specs.Holds.{HasHead, IsAmong, IsFileOf, Lists, names_of}
use Rattle.commit_point.proofs.KeptLaws.{lists_there}
use Rattle.commit_point.proofs.Laws.{one_head}
use Rattle.commit_pruning.specs.Choosing.{IsPlan, earlier, entries_of, is_listed, latest}
use Rattle.commit_pruning.proofs.ListedLaws.{listed_by, own_listed}
use Rattle.commit_pruning.specs.Pruning.{IsPruned, Stays}
use Rattle.commit_pruning.proofs.Deletes.{among_or_not}
use Rattle.commit_pruning.proofs.Latest.{AreCommits, are_given_up, earlier_given_up, earlier_is_there, is_latest, latest_stays}
use Rattle.commit_pruning.proofs.OwnFiles.{CanPrune, no_some, not_gone, same_number}
use Rattle.commit_pruning.proofs.Pruned.{Loses}

-- ---- lists

among_kept : (keep : FileName → Bool) (names : List FileName) (name : FileName) → IsAmong (filter keep names) name → keep name ≡ true
among_kept keep [] name = λ none. absurd none
among_kept keep (n ∷ ns) name = by (keep n) refl (among_kept keep ns name)
  where
    by : (b : Bool) → keep n ≡ b → (IsAmong (filter keep ns) name → keep name ≡ true) → IsAmong (cond b (n ∷ filter keep ns) (filter keep ns)) name → keep name ≡ true
    by true e rest (inl same) = ap keep same ∙ e
    by true e rest (inr more) = rest more
    by false e rest more = rest more

among_filter : (keep : FileName → Bool) (names : List FileName) (name : FileName) → IsAmong names name → keep name ≡ true → IsAmong (filter keep names) name
among_filter keep [] name among is = among
among_filter keep (n ∷ ns) name among is = by (keep n) refl (λ more. among_filter keep ns name more is) among
  where
    by : (b : Bool) → keep n ≡ b → (IsAmong ns name → IsAmong (filter keep ns) name) → IsAmong (n ∷ ns) name → IsAmong (cond b (n ∷ filter keep ns) (filter keep ns)) name
    by true e rest (inl same) = inl same
    by true e rest (inr more) = inr (rest more)
    by false e rest (inl same) = let t : keep n ≡ true = sym (ap keep same) ∙ is in cc (t, e)
    by false e rest (inr more) = rest more

among_contains : (names : List FileName) (name : FileName) → Contains names name → IsAmong names name
among_contains names name c = at names c.0 c.1 c.2
  where
    at : (xs : List FileName) (k : ℕ) → k < length xs → get_or xs k name ≡ name → IsAmong xs name
    at [] k lt e = absurd (omega (arith, lt))
    at (x ∷ xs) zero lt e = inl (sym e)
    at (x ∷ xs) (suc k) lt e = inr (at xs k (omega (arith, lt)) e)

-- names of commit files
among_commits : (numbers : List ℕ) (name : FileName) → IsAmong (map Commit numbers) name → (s : ℕ) × (name ≡ Commit s) × Contains numbers s
among_commits [] name none = absurd none
among_commits (n ∷ ns) name (inl same) = (n, same, (zero, omega arith, refl))
among_commits (n ∷ ns) name (inr more) =
    let found = among_commits ns name more in
    (found.0, found.1, (suc found.2.0, omega (arith, found.2.1), found.2.2))

commit_among : (numbers : List ℕ) (s : ℕ) → Contains numbers s → IsAmong (map Commit numbers) (Commit s)
commit_among numbers s c = at numbers c.0 c.1 c.2
  where
    at : (xs : List ℕ) (k : ℕ) → k < length xs → get_or xs k s ≡ s → IsAmong (map Commit xs) (Commit s)
    at [] k lt e = absurd (omega (arith, lt))
    at (x ∷ xs) zero lt e = inl (ap Commit (sym e))
    at (x ∷ xs) (suc k) lt e = inr (at xs k (omega (arith, lt)) e)

-- ---- the entries of heads

-- a commit of these numbers has a head among these, whose entries stand among all
head_among : (files : Files) (numbers : List ℕ) (heads : List Head) → AllZip (HasHead files) numbers heads → (s : ℕ) → Contains numbers s
    → (head : Head) × HasHead files s head × ((e : HeadSegment) → Contains head.segments e → Contains (entries_of heads) e)
head_among files numbers heads zip s c = at numbers heads zip c.0 c.1 c.2
  where
    at : (xs : List ℕ) (hs : List Head) → AllZip (HasHead files) xs hs → (k : ℕ) → k < length xs → get_or xs k s ≡ s
        → (head : Head) × HasHead files s head × ((e : HeadSegment) → Contains head.segments e → Contains (entries_of hs) e)
    at [] hs zip k lt e = absurd (omega (arith, lt))
    at (x ∷ xs) [] zip k lt e = absurd zip
    at (x ∷ xs) (h ∷ hs) zip zero lt e =
        (h, subst (λ (n : ℕ). HasHead files n h) e zip.0, λ entry of. Contains-append_left h.segments (entries_of hs) entry of)
    at (x ∷ xs) (h ∷ hs) zip (suc k) lt e =
        let found = at xs hs zip.1 k (omega (arith, lt)) e in
        (found.0, found.1, λ entry of. Contains-append_right h.segments (entries_of hs) entry (found.2 entry of))

-- an entry is of one of the commits
owner : (files : Files) (numbers : List ℕ) (heads : List Head) → AllZip (HasHead files) numbers heads → (e : HeadSegment) → Contains (entries_of heads) e
    → (s : ℕ) × Contains numbers s × Lists files s e
owner files [] [] zip e c = absurd (omega (arith, c.1))
owner files [] (h ∷ hs) zip e c = absurd zip
owner files (n ∷ ns) [] zip e c = absurd zip
owner files (n ∷ ns) (h ∷ hs) zip e c = by (Contains-append_cases h.segments (entries_of hs) e c) (owner files ns hs zip.1 e)
  where
    by : Contains h.segments e ⊎ Contains (entries_of hs) e → (Contains (entries_of hs) e → (s : ℕ) × Contains ns s × Lists files s e) → (s : ℕ) × Contains (n ∷ ns) s × Lists files s e
    by (inl own) rest = (n, (zero, omega arith, refl), record { head = h; has_head = zip.0; listed = own })
    by (inr more) rest =
        let found = rest more in
        (found.0, (suc found.1.0, omega (arith, found.1.1), found.1.2), found.2)

-- ---- files that no entry names

abbrev unnamed : List HeadSegment → FileName → Bool
unnamed entries name = not (is_listed entries name)

not_both : (b : Bool) → b ≡ true → not b ≡ true → ⊥
not_both true p q = cc
not_both false p q = cc

-- ---- what was planned

true_or_false : (b : Bool) → (b ≡ true) ⊎ (b ≡ false)
true_or_false true = inl refl
true_or_false false = inr refl

module _ (keep : ℕ) (files : Files) (gone rest : List FileName) (plan : IsPlan keep files gone rest) where
  pub commits_are : AreCommits files plan.numbers
  commits_are = record { rise = plan.rise; each = plan.commits }

  -- the commit files that go are those of the earlier commits
  pub gone_earlier : (name : FileName) → IsAmong gone name → (s : ℕ) × (name ≡ Commit s) × Contains (earlier keep plan.numbers) s
  gone_earlier name among = among_commits (earlier keep plan.numbers) name (subst (λ (names : List FileName). IsAmong names name) plan.gone_are among)

  pub earlier_gone : (s : ℕ) → Contains (earlier keep plan.numbers) s → IsAmong gone (Commit s)
  earlier_gone s c = subst (λ (names : List FileName). IsAmong names (Commit s)) (sym plan.gone_are) (commit_among (earlier keep plan.numbers) s c)

  pub gone_is_earlier : (s : ℕ) → IsAmong gone (Commit s) → Contains (earlier keep plan.numbers) s
  gone_is_earlier s among =
      let found = gone_earlier (Commit s) among in
      subst (Contains (earlier keep plan.numbers)) (sym (same_number s found.0 found.1)) found.2

  rest_unlisted : (name : FileName) → IsAmong rest name → unnamed (entries_of plan.heads) name ≡ true
  rest_unlisted name among =
      among_kept (unnamed (entries_of plan.heads)) plan.names name (subst (λ (names : List FileName). IsAmong names name) plan.rest_are among)

  own_file_listed : (s : ℕ) → Contains (latest keep plan.numbers) s → (name : FileName) → IsFileOf files s name → is_listed (entries_of plan.heads) name ≡ true
  own_file_listed s c name (inl same) = ap (is_listed (entries_of plan.heads)) same
  own_file_listed s c name (inr (e, lists, among)) =
      let h = head_among files (latest keep plan.numbers) plan.heads plan.heads_are s c in
      let same : lists.head ≡ h.0 = one_head files s lists.head h.0 lists.has_head h.1 in
      own_listed (entries_of plan.heads) e name (h.2 e (subst (λ (x : Head). Contains x.segments e) same lists.listed)) among

  pub can_prune : CanPrune files gone rest
  can_prune = record {
    commits = λ name among. let found = gone_earlier name among in (found.0, found.1);
    there = λ s among. earlier_is_there keep files plan.numbers commits_are s (gone_is_earlier s among);
    no_commits = λ s among. not_both true refl (rest_unlisted (Commit s) among);
    unlisted = λ s there out name file among.
        let c = is_latest keep files plan.numbers commits_are s there (λ front. out (earlier_gone s front)) in
        not_both (is_listed (entries_of plan.heads) name) (own_file_listed s c name file) (rest_unlisted name among);
  }

  pub gone_given_up : (s : ℕ) → Stays keep files s → ¬ IsAmong gone (Commit s)
  gone_given_up s stays among = stays.not_given_up (earlier_given_up keep files plan.numbers commits_are s (gone_is_earlier s among))

  -- ---- what is left

  module _ (now : Files) (loses : Loses gone rest files now) where
    same_commit : (s : ℕ) → ¬ IsAmong gone (Commit s) → now (Commit s) ≡ files (Commit s)
    same_commit s out = loses.others (Commit s) out (λ among. not_both true refl (rest_unlisted (Commit s) among))

    still_stays : (s : ℕ) → IsSome (now (Commit s)) → Stays keep files s
    still_stays s some = by (among_or_not gone (Commit s))
      where
        by : IsAmong gone (Commit s) ⊎ (¬ IsAmong gone (Commit s)) → Stays keep files s
        by (inl among) = absurd (no_some (now (Commit s)) (loses.first (Commit s) among) some)
        by (inr out) =
            let was : IsSome (files (Commit s)) = subst (λ (o : Option (List ℕ)). IsSome o) (same_commit s out) some in
            latest_stays keep files plan.numbers commits_are s (is_latest keep files plan.numbers commits_are s was (λ front. out (earlier_gone s front)))

    was_there : (name : FileName) → IsSome (now name) → IsSome (files name) × (¬ IsAmong rest name)
    was_there name some = by (among_or_not gone name) (among_or_not rest name)
      where
        by : IsAmong gone name ⊎ (¬ IsAmong gone name) → IsAmong rest name ⊎ (¬ IsAmong rest name) → IsSome (files name) × (¬ IsAmong rest name)
        by (inl among) any = absurd (no_some (now name) (loses.first name among) some)
        by (inr out) (inl among) = absurd (no_some (now name) (loses.second name among) some)
        by (inr out) (inr apart) = (subst (λ (o : Option (List ℕ)). IsSome o) (loses.others name out apart) some, apart)

    is_named : (name : FileName) → IsSome (now name) → is_listed (entries_of plan.heads) name ≡ true
    is_named name some = by (true_or_false (is_listed (entries_of plan.heads) name))
      where
        by : (is_listed (entries_of plan.heads) name ≡ true) ⊎ (is_listed (entries_of plan.heads) name ≡ false) → is_listed (entries_of plan.heads) name ≡ true
        by (inl is) = is
        by (inr e) =
            let was = was_there name some in
            let listed : IsAmong plan.names name = among_contains plan.names name ((plan.names_are.each name).1 was.0) in
            absurd (was.1 (subst (λ (names : List FileName). IsAmong names name) (sym plan.rest_are) (among_filter (unnamed (entries_of plan.heads)) plan.names name listed (ap not e))))

    pub clean : (name : FileName) → IsSome (now name) → (s : ℕ) × IsSome (now (Commit s)) × IsFileOf now s name
    clean name some = by (listed_by (entries_of plan.heads) name (is_named name some))
      where
        by : ((s : ℕ) × (name ≡ Commit s)) ⊎ ((e : HeadSegment) × Contains (entries_of plan.heads) e × IsAmong (names_of e) name) → (s : ℕ) × IsSome (now (Commit s)) × IsFileOf now s name
        by (inl (s, same)) = (s, subst (λ (n : FileName). IsSome (now n)) same some, inl same)
        by (inr (e, c, among)) =
            let own = owner files (latest keep plan.numbers) plan.heads plan.heads_are e c in
            let stays = latest_stays keep files plan.numbers commits_are own.0 own.1 in
            let same = same_commit own.0 (gone_given_up own.0 stays) in
            (own.0, subst (λ (o : Option (List ℕ)). IsSome o) (sym same) stays.there, inr (e, lists_there files now own.0 e same own.2, among))

    pub is_pruned : IsPruned keep (length (earlier keep plan.numbers)) files now
    is_pruned = record {
      gone = earlier keep plan.numbers;
      given_up = are_given_up keep files plan.numbers commits_are;
      many = refl;
      stays = λ s stays name file.
          loses.others name (apart s stays name file) (can_prune.unlisted s stays.there (gone_given_up s stays) name file);
      only = still_stays;
      clean = clean;
    }
      where
        apart : (s : ℕ) → Stays keep files s → (name : FileName) → IsFileOf files s name → ¬ IsAmong gone name
        apart s stays name file among = not_gone files gone can_prune.commits s (gone_given_up s stays) name file among
