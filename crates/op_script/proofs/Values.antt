-- What the bytes of a line spell, and what an array holds.
use Rattle.std.proofs.Common.{◌≡◌, ℕ, List, [], ◌∷◌, length, Bool, true, false, Some, None, option_and_then, refl, if◌then◌else◌}
use Rattle.std.specs.Str.{IsUtf8, is_utf8}
use Rattle.std.proofs.lemmas.Str.{IsUtf8-from_is_utf8, is_utf8-from_IsUtf8}
use Rattle.serde_json.specs.Data.{Data, null, boolean, number, string, array, object}
use Rattle.serde_json.specs.Find.{as_array}
use Rattle.serde_json.specs.Read.{read}
use Rattle.serde_json.specs.View.{items_view}
use Rattle.serde_json.specs.declared.value.Value.{Value}
use Rattle.op_script.specs.Values.{value_of, pair_in, text_pair, bounds_in}

pub value_of-some : (bytes : List ℕ) (d : Data) → IsUtf8 bytes → read bytes ≡ Some d → value_of bytes ≡ Some d
value_of-some bytes d text is = rw (is_utf8-from_IsUtf8 bytes text) is

pub value_of-none : (bytes : List ℕ) → (IsUtf8 bytes → read bytes ≡ None) → value_of bytes ≡ None
value_of-none bytes none = go (is_utf8 bytes) refl
  where
    go : (b : Bool) → is_utf8 bytes ≡ b → (if b then read bytes else None) ≡ None
    go true e = none (IsUtf8-from_is_utf8 bytes e)
    go false e = refl

-- an array of another length is no pair
pub pair_in-other : (vs : List Value) → (length vs ≡ 2 → ⊥) → pair_in (items_view vs) ≡ None
pair_in-other [] other = refl
pair_in-other (v ∷ []) other = refl
pair_in-other (v ∷ w ∷ []) other = absurd (other refl)
pair_in-other (v ∷ w ∷ x ∷ vs) other = refl

pub text_pair-array : (d : Data) → text_pair d ≡ option_and_then pair_in (as_array d)
text_pair-array null = refl
text_pair-array (boolean b) = refl
text_pair-array (number n) = refl
text_pair-array (string s) = refl
text_pair-array (array ds) = refl
text_pair-array (object ms) = refl

-- an array of another length is no range
pub bounds_in-other : (vs : List Value) → (length vs ≡ 3 → ⊥) → bounds_in (items_view vs) ≡ None
bounds_in-other [] other = refl
bounds_in-other (v ∷ []) other = refl
bounds_in-other (v ∷ w ∷ []) other = refl
bounds_in-other (v ∷ w ∷ x ∷ []) other = absurd (other refl)
bounds_in-other (v ∷ w ∷ x ∷ y ∷ vs) other = refl
