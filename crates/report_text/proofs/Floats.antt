-- The report's values have no float, so that serde_json's compact text is what is written for them.
use Rattle.std.proofs.Common.{◌≡◌, ℕ, ℤ, pos, negsuc, List, [], ◌∷◌, false, fold, map, refl, Ordering}
use Rattle.std.specs.Ordering.{nat_cmp, match_ordering}
use Rattle.std.specs.declared.cmp.Ordering.TheVariants.{Less, Equal, Greater}
use Rattle.std.specs.Cmp.Lexicographic.{slice_cmp}
use Rattle.std.proofs.lemmas.Bool.{or_parts, or_from}
use Rattle.serde_json.specs.Data.{Data, Members, member, no_members, put}
use Rattle.serde_json.specs.Find.{is_float, of_integer}
use Rattle.serde_json.specs.View.{items_of}
use Rattle.serde_json.specs.Written.{has_float, items_have_float, members_have_float}
use Rattle.ix_base.specs.declared.document.Hit.{Hit}
use Rattle.report_text.specs.Lines.{hit_value, search_value, with_number, write_value, commit_value, refused_value, listed_value, summary_value, with_text}
use Rattle.ix_base.specs.declared.refusal.Refusal.{Refusal}
use Rattle.report_text.specs.declared.summary.Summary.{Summary}
use Rattle.ix_base.specs.declared.refusal.Refusal.TheVariants.{Term, Query}

is_float-of_integer : (z : ℤ) → is_float (of_integer z) ≡ false
is_float-of_integer (pos n) = refl
is_float-of_integer (negsuc n) = refl

members_have_float-put : (k : List ℕ) (d : Data) (ms : Members) → has_float d ≡ false → members_have_float ms ≡ false → members_have_float (put k d ms) ≡ false
members_have_float-put k d no_members plain old = or_from _ _ plain refl
members_have_float-put k d (member l e ms) plain old = go (members_have_float-put k d ms plain (or_parts _ _ old).1) (slice_cmp nat_cmp k l)
  where
    go : members_have_float (put k d ms) ≡ false → (o : Ordering) → members_have_float (match_ordering o (member k d (member l e ms)) (member l d ms) (member l e (put k d ms))) ≡ false
    go later Less = or_from _ _ plain old
    go later Equal = or_from _ _ plain (or_parts _ _ old).1
    go later Greater = or_from _ _ (or_parts _ _ old).0 later

numbers_plain : (ms : Members) (nums : List (List ℕ × ℤ)) → members_have_float ms ≡ false → members_have_float (fold with_number ms nums) ≡ false
numbers_plain ms [] old = old
numbers_plain ms (n ∷ nums) old = numbers_plain (with_number ms n) nums (members_have_float-put n.0 _ ms (is_float-of_integer n.1) old)

hit_plain : (hit : Hit) → has_float (hit_value hit) ≡ false
hit_plain hit = rw (numbers_plain no_members hit.num refl) refl

hits_plain : (hits : List Hit) → items_have_float (items_of (map hit_value hits)) ≡ false
hits_plain [] = refl
hits_plain (hit ∷ hits) = or_from _ _ (hit_plain hit) (hits_plain hits)

pub search_plain : (commit : ℕ) (hits : List Hit) (line : ℕ) → has_float (search_value commit hits line) ≡ false
search_plain commit hits line = rw (hits_plain hits) refl

pub write_plain : (line s : ℕ) → has_float (write_value line s) ≡ false
write_plain line s = refl

pub commit_plain : (docs line s : ℕ) → has_float (commit_value docs line s) ≡ false
commit_plain docs line s = refl

pub refusal_plain : (line : ℕ) (refusal : Refusal) → has_float (refused_value line refusal) ≡ false
refusal_plain line (Term size) = refl
refusal_plain line (Query size) = refl

texts_plain : (ms : Members) (pairs : List (List ℕ × List ℕ)) → members_have_float ms ≡ false
    → members_have_float (fold with_text ms pairs) ≡ false
texts_plain ms [] old = old
texts_plain ms (pair ∷ pairs) old =
    texts_plain (with_text ms pair) pairs (members_have_float-put pair.0 _ ms refl old)

pub listed_plain : (commit : ℕ) (pairs : List (List ℕ × List ℕ)) (docs : ℕ)
    → has_float (listed_value commit pairs docs) ≡ false
listed_plain commit [] docs = refl
listed_plain commit (pair ∷ pairs) docs = rw (texts_plain no_members (pair ∷ pairs) refl) refl

pub summary_plain : (summary : Summary) → has_float (summary_value summary) ≡ false
summary_plain summary = refl
