-- The texts and the numbers of an object's members.
use Rattle.std.proofs.Common.{◌≡◌, ◌∙◌, ℕ, ℤ, ◌<◌, ◌≤◌, List, [], ◌∷◌, ◌++◌, length, true, map, Option, Some, None, option_map, option_and_then, refl, sym, ap, arith, append_assoc, String, string_cmp}
use Rattle.std.proofs.lemmas.List.{append-nil}
use Rattle.std.specs.List.Sorted.{IsStrictlySortedBy}
use Rattle.std.specs.Map.{keys_of}
use Rattle.std.specs.Option.{option_map_or}
use Rattle.std.specs.declared.alloc.Global.{Global}
use Rattle.std.proofs.lemmas.Bool.{lt-ltb, le-ltb}
use Rattle.serde_json.specs.Data.{Data, Members, no_members, member, object}
use Rattle.serde_json.specs.Find.{get, as_object}
use Rattle.serde_json.specs.View.{members_view}
use Rattle.serde_json.specs.declared.value.Value.{Value}
use Rattle.ix_base.specs.Limits.{names_rise}
use Rattle.op_script.specs.Values.{names_of, member_names}
use Rattle.op_script.specs.Documents.{texts_of, numbers_of, named_text, named_number, few_by, names_at}
use Rattle.op_script.proofs.Names.{names_rise-members, length-names_of, names_in}

abbrev Entry : Type 0
Entry = String Global × Value

abbrev pub Named : Type 0 → Type 0
Named X = List ℕ × X

moved : {X : Type 0} (done : List X) (x : X) (left : Option (List X))
    → option_map (λ rest. (done ++ x ∷ []) ++ rest) left ≡ option_map (λ rest. done ++ rest) (option_map (λ rest. x ∷ rest) left)
moved done x None = refl
moved done x (Some rest) = ap Some (append_assoc done (x ∷ []) rest)

more : {X : Type 0} (done : List (Named X)) (pair : Named X) (name : List ℕ) (left : Option (List (Named X))) (o : Option X) → Some pair ≡ option_map (λ x. (name, x)) o
    → option_map (λ rest. (done ++ pair ∷ []) ++ rest) left ≡ option_map (λ rest. done ++ rest) (option_and_then (λ x. option_map (λ rest. (name, x) ∷ rest) left) o)
more done pair name left None is = cc
more done pair name left (Some x) is =
    let same : pair ≡ (name, x) = cc in
    rw same (moved done (name, x) left)

pub texts_more : (done : List (Named (List ℕ))) (pair : Named (List ℕ)) (name : List ℕ) (d : Data) (ms : Members) → Some pair ≡ option_map (λ text. (name, text)) (named_text name d)
    → option_map (λ rest. (done ++ pair ∷ []) ++ rest) (texts_of ms) ≡ option_map (λ rest. done ++ rest) (texts_of (member name d ms))
texts_more done pair name d ms is = more done pair name (texts_of ms) (named_text name d) is

pub numbers_more : (done : List (Named ℤ)) (pair : Named ℤ) (name : List ℕ) (d : Data) (ms : Members) → Some pair ≡ option_map (λ number. (name, number)) (named_number name d)
    → option_map (λ rest. (done ++ pair ∷ []) ++ rest) (numbers_of ms) ≡ option_map (λ rest. done ++ rest) (numbers_of (member name d ms))
numbers_more done pair name d ms is = more done pair name (numbers_of ms) (named_number name d) is

names_more : {X : Type 0} (name : List ℕ) (names : List (List ℕ)) (o : Option X) (left : Option (List (Named X))) (ps : List (Named X))
    → ((qs : List (Named X)) → left ≡ Some qs → map (λ p. p.0) qs ≡ names)
    → option_and_then (λ x. option_map (λ rest. (name, x) ∷ rest) left) o ≡ Some ps → map (λ p. p.0) ps ≡ name ∷ names
names_more name names None left ps rest is = cc
names_more name names (Some x) None ps rest is = cc
names_more name names (Some x) (Some qs) ps rest is =
    let same : ps ≡ (name, x) ∷ qs = cc in
    rw (same, rest qs refl) refl

pub names_of-texts : (ms : Members) (ps : List (Named (List ℕ))) → texts_of ms ≡ Some ps → map (λ p. p.0) ps ≡ names_of ms
names_of-texts no_members ps is = let same : ps ≡ [] = cc in rw same refl
names_of-texts (member name d ms) ps is = names_more name (names_of ms) (named_text name d) (texts_of ms) ps (names_of-texts ms) is

pub names_of-numbers : (ms : Members) (ps : List (Named ℤ)) → numbers_of ms ≡ Some ps → map (λ p. p.0) ps ≡ names_of ms
names_of-numbers no_members ps is = let same : ps ≡ [] = cc in rw same refl
names_of-numbers (member name d ms) ps is = names_more name (names_of ms) (named_number name d) (numbers_of ms) ps (names_of-numbers ms) is

pub texts_rise : (es : List Entry) (ps : List (Named (List ℕ))) → IsStrictlySortedBy string_cmp (keys_of es) → texts_of (members_view es) ≡ Some ps → names_rise (map (λ p. p.0) ps) ≡ true
texts_rise es ps sorted is = rw (names_of-texts (members_view es) ps is) (names_rise-members es sorted)

pub numbers_rise : (es : List Entry) (ps : List (Named ℤ)) → IsStrictlySortedBy string_cmp (keys_of es) → numbers_of (members_view es) ≡ Some ps → names_rise (map (λ p. p.0) ps) ≡ true
numbers_rise es ps sorted is = rw (names_of-numbers (members_view es) ps is) (names_rise-members es sorted)

length-map : {X Y : Type 0} (f : X → Y) (xs : List X) → length (map f xs) ≡ length xs
length-map f [] = refl
length-map f (x ∷ xs) = omega (arith, length-map f xs)

-- as many texts as members
pub length-texts : (es : List Entry) (ps : List (Named (List ℕ))) → texts_of (members_view es) ≡ Some ps → length ps ≡ length es
length-texts es ps is = sym (length-map (λ (p : Named (List ℕ)). p.0) ps) ∙ ap length (names_of-texts (members_view es) ps is) ∙ length-names_of es

pub few_by-few : {X : Type 0} (f : Members → Option X) (es : List Entry) → length es ≤ 65535 → few_by f (object (members_view es)) ≡ f (members_view es)
few_by-few f es few =
    let lt : length (names_of (members_view es)) < 65536 = omega (arith, length-names_of es) in
    rw (lt-ltb _ _ lt) refl

pub few_by-many : {X : Type 0} (f : Members → Option X) (es : List Entry) → 65535 < length es → few_by f (object (members_view es)) ≡ None
few_by-many f es many =
    let le : 65536 ≤ length (names_of (members_view es)) = omega (arith, length-names_of es) in
    rw (le-ltb _ _ le) refl

names_found : (o : Option Data) (ms : Members) → Some ms ≡ option_and_then as_object o → option_map_or member_names o [] ≡ names_of ms
names_found None ms is = cc
names_found (Some d) ms is = names_in d ms is

pub names_at-object : (name : List ℕ) (d : Data) (ms : Members) → Some ms ≡ option_and_then as_object (get name d) → names_at name d ≡ names_of ms
names_at-object name d ms is = names_found (get name d) ms is

all_done : {X : Type 0} (done : List X) (left : Option (List X)) (all : Option (List X)) → left ≡ Some [] → option_map (λ rest. done ++ rest) left ≡ all → all ≡ Some done
all_done done left all none is = sym is ∙ rw none (ap Some (append-nil done))

pub all_texts : (done : List (Named (List ℕ))) (left es : List Entry) → left ≡ [] → option_map (λ rest. done ++ rest) (texts_of (members_view left)) ≡ texts_of (members_view es) → texts_of (members_view es) ≡ Some done
all_texts done left es none is = all_done done (texts_of (members_view left)) _ (rw none refl) is

pub all_numbers : (done : List (Named ℤ)) (left es : List Entry) → left ≡ [] → option_map (λ rest. done ++ rest) (numbers_of (members_view left)) ≡ numbers_of (members_view es) → numbers_of (members_view es) ≡ Some done
all_numbers done left es none is = all_done done (numbers_of (members_view left)) _ (rw none refl) is
