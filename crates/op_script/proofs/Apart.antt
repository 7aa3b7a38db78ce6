-- A document that was read has its names apart.
use Rattle.std.proofs.Common.{◌≡◌, ℕ, List, [], Bool, true, false, if◌then◌else◌, map, codes, Option, Some, None, refl}
use Rattle.std.specs.Option.{option_map_or}
use Rattle.serde_json.specs.Data.{Data, null, boolean, number, string, array, object, Members}
use Rattle.serde_json.specs.Find.{get}
use Rattle.ix_base.specs.Limits.{names_are_apart}
use Rattle.op_script.specs.Values.{names_of, member_names}
use Rattle.op_script.specs.Documents.{are_apart, texts_at, texts_of, names_at, few_by, is_few}
use Rattle.op_script.proofs.Pairs.{Named, names_of-texts}

few_names : (test : Bool) (ms : Members) (ps : List (Named (List ℕ))) → (if test then texts_of ms else None) ≡ Some ps → map (λ p. p.0) ps ≡ names_of ms
few_names true ms ps is = names_of-texts ms ps is
few_names false ms ps is = cc

found_names : (o : Option Data) (ps : List (Named (List ℕ))) → option_map_or (few_by texts_of) o (Some []) ≡ Some ps → map (λ p. p.0) ps ≡ option_map_or member_names o []
found_names None ps is = let same : ps ≡ [] = cc in rw same refl
found_names (Some null) ps is = cc
found_names (Some (boolean b)) ps is = cc
found_names (Some (number n)) ps is = cc
found_names (Some (string s)) ps is = cc
found_names (Some (array ds)) ps is = cc
found_names (Some (object ms)) ps is = few_names (is_few ms) ms ps is

-- the texts of a member have its names
texts_names : (name : List ℕ) (d : Data) (ps : List (Named (List ℕ))) → texts_at name d ≡ Some ps → map (λ p. p.0) ps ≡ names_at name d
texts_names name d ps is = found_names (get name d) ps is

pub apart : (d : Data) (text exact : List (Named (List ℕ))) → are_apart d ≡ true → texts_at (codes "text") d ≡ Some text → texts_at (codes "exact") d ≡ Some exact
    → names_are_apart (map (λ p. p.0) text) (map (λ p. p.0) exact) ≡ true
apart d text exact is at_text at_exact = rw (texts_names (codes "text") d text at_text, texts_names (codes "exact") d exact at_exact) is
