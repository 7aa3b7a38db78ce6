-- The names of an object's members.
use Rattle.std.proofs.Common.{◌≡◌, ◌∙◌, ℕ, suc, List, [], ◌∷◌, Bool, true, false, ◌&&◌, ◌||◌, length, Option, Some, None, is_some, option_map, map, refl, sym, ap, String, string_bytes, string_cmp, Ordering, Less, Equal, Greater, is_eq, nat_cmp, bytes_eq}
use Rattle.std.specs.List.{list_any, list_all}
use Rattle.std.specs.List.Sorted.{IsStrictlySortedBy}
use Rattle.std.specs.Map.{keys_of}
use Rattle.std.specs.Cmp.Lexicographic.{slice_cmp}
use Rattle.std.specs.Ordering.{match_ordering, is_lt}
use Rattle.std.specs.declared.alloc.Global.{Global}
use Rattle.std.proofs.lemmas.Map.Text.{is_eq-slice_cmp}
use Rattle.std.proofs.lemmas.Slice.Eq.{bytes_eq-Decides}
use Rattle.serde_json.specs.Data.{Data, null, boolean, number, string, array, object, Members, no_members, member}
use Rattle.serde_json.specs.Find.{get, get_member, as_object}
use Rattle.serde_json.specs.View.{members_view}
use Rattle.serde_json.specs.declared.value.Value.{Value}
use Rattle.ix_base.specs.Limits.{is_among, names_rise}
use Rattle.op_script.specs.Values.{names_of, member_names}

abbrev Entry : Type 0
Entry = String Global × Value

pub names_of-members_view : (es : List Entry) → names_of (members_view es) ≡ map (λ e. string_bytes e.0) es
names_of-members_view [] = refl
names_of-members_view (e ∷ es) = ap (λ names. string_bytes e.0 ∷ names) (names_of-members_view es)

pub length-names_of : (es : List Entry) → length (names_of (members_view es)) ≡ length es
length-names_of [] = refl
length-names_of (e ∷ es) = ap suc (length-names_of es)

pub list_any-map : {X Y : Type 0} (test : Y → Bool) (f : X → Y) (xs : List X) → list_any (λ x. test (f x)) xs ≡ list_any test (map f xs)
list_any-map test f [] = refl
list_any-map test f (x ∷ xs) = ap (λ rest. test (f x) || rest) (list_any-map test f xs)

pub list_all-map : {X Y : Type 0} (test : Y → Bool) (f : X → Y) (xs : List X) → list_all (λ x. test (f x)) xs ≡ list_all test (map f xs)
list_all-map test f [] = refl
list_all-map test f (x ∷ xs) = ap (λ rest. test (f x) && rest) (list_all-map test f xs)

same_tests : (b c : Bool) → (b ≡ true → c ≡ true) → (c ≡ true → b ≡ true) → b ≡ c
same_tests true true f g = refl
same_tests true false f g = sym (f refl)
same_tests false true f g = g refl
same_tests false false f g = refl

bytes_eq-sym : (xs ys : List ℕ) → bytes_eq xs ys ≡ bytes_eq ys xs
bytes_eq-sym xs ys = same_tests _ _ (λ h. (bytes_eq-Decides ys xs).1 (sym ((bytes_eq-Decides xs ys).0 h))) (λ h. (bytes_eq-Decides xs ys).1 (sym ((bytes_eq-Decides ys xs).0 h)))

found_at : (o : Ordering) (b : Bool) (e : Data) (rest : Option Data) → is_eq o ≡ b → is_some (match_ordering o rest (Some e) rest) ≡ (b || is_some rest)
found_at Less b e rest is = rw (sym is)
found_at Equal b e rest is = rw (sym is)
found_at Greater b e rest is = rw (sym is)

found_member : (name : List ℕ) (ms : Members) → is_some (get_member name ms) ≡ is_among (names_of ms) name
found_member name no_members = refl
found_member name (member l e ms) = found_at (slice_cmp nat_cmp name l) (bytes_eq l name) e (get_member name ms) (is_eq-slice_cmp name l ∙ bytes_eq-sym name l) ∙ ap (λ rest. bytes_eq l name || rest) (found_member name ms)

-- what `get` finds is a member of that name
pub found : (name : List ℕ) (d : Data) → is_some (get name d) ≡ is_among (member_names d) name
found name null = refl
found name (boolean b) = refl
found name (number n) = refl
found name (string s) = refl
found name (array ds) = refl
found name (object ms) = found_member name ms

pub is_some-option_map : {X Y : Type 0} (f : X → Y) (o : Option X) → is_some (option_map f o) ≡ is_some o
is_some-option_map f None = refl
is_some-option_map f (Some x) = refl

less_is_lt : (o : Ordering) → o ≡ Less → is_lt o ≡ true
less_is_lt o e = rw e

-- a map's keys rise by their bytes
pub names_rise-members : (es : List Entry) → IsStrictlySortedBy string_cmp (keys_of es) → names_rise (names_of (members_view es)) ≡ true
unfolding IsStrictlySortedBy
names_rise-members [] h = refl
names_rise-members (e ∷ []) h = refl
names_rise-members (e ∷ f ∷ es) h = rw (less_is_lt _ h.0.0) (names_rise-members (f ∷ es) h.1)

pub names_in : (d : Data) (ms : Members) → Some ms ≡ as_object d → member_names d ≡ names_of ms
names_in null ms is = cc
names_in (boolean b) ms is = cc
names_in (number n) ms is = cc
names_in (string s) ms is = cc
names_in (array ds) ms is = cc
names_in (object ns) ms is = cc
