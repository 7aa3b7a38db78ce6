-- The first long term of places that are joined.
use Rattle.std.proofs.Common.{◌≡◌, ℕ, ◌+◌, List, [], ◌∷◌, ◌++◌, Bool, true, false, Option, Some, None, cond, length, refl, nat_lt, ◌∙◌, ap}
use Rattle.std.specs.Prelude.{option_map, find}
use Rattle.ix_base.specs.Terms.{Place, long_term, placed_from, most_term_bytes, text_places, folded_words}

abbrev is_long : Place → Bool
is_long place = nat_lt most_term_bytes (length place.bytes)

abbrev size : Place → ℕ
size place = length place.bytes

-- a term's size where it is too long
abbrev pub long_size : List ℕ → Option ℕ
long_size bytes = cond (nat_lt 32766 (length bytes)) (Some (length bytes)) None

keep : (b : Bool) (x : Place) (o p : Option Place) (q : Option ℕ) → (option_map size o ≡ q → option_map size p ≡ q) → option_map size (cond b (Some x) o) ≡ q → option_map size (cond b (Some x) p) ≡ q
keep true x o p q f e = e
keep false x o p q f e = f e

skip : (b : Bool) (n : ℕ) (x : Place) (o : Option Place) → cond b (Some n) None ≡ None → option_map size (cond b (Some x) o) ≡ option_map size o
skip true n x o e = cc
skip false n x o e = refl

take_it : (b : Bool) (n m : ℕ) (x : Place) (o : Option Place) → size x ≡ n → cond b (Some n) None ≡ Some m → option_map size (cond b (Some x) o) ≡ Some m
take_it true n m x o s e = cc
take_it false n m x o s e = cc

pub long_term-skip : (place : Place) (places : List Place) → long_size place.bytes ≡ None → long_term (place ∷ places) ≡ long_term places
long_term-skip place places e = skip (is_long place) (size place) place (find is_long places) e

pub long_term-take : (place : Place) (places : List Place) (n : ℕ) → long_size place.bytes ≡ Some n → long_term (place ∷ places) ≡ Some n
long_term-take place places n e = take_it (is_long place) (size place) n place (find is_long places) refl e

same_test : (b : Bool) (x y : Place) (o p : Option Place) → size x ≡ size y → option_map size o ≡ option_map size p → option_map size (cond b (Some x) o) ≡ option_map size (cond b (Some y) p)
same_test true x y o p s e = ap Some s
same_test false x y o p s e = e

none_first : (b : Bool) (x : Place) (o : Option Place) → option_map size (cond b (Some x) o) ≡ None → (option_map size (cond b (Some x) o) ≡ option_map size o) × (option_map size o ≡ None)
none_first true x o e = cc
none_first false x o e = (refl, e)

both_none : (b : Bool) (x : Place) (o p : Option Place) (q : Option ℕ) → (option_map size o ≡ None → option_map size p ≡ q) → option_map size (cond b (Some x) o) ≡ None → option_map size (cond b (Some x) p) ≡ q
both_none true x o p q f e = cc
both_none false x o p q f e = f e

pub long_term-append_none : (xs ys : List Place) → long_term xs ≡ None → long_term (xs ++ ys) ≡ long_term ys
long_term-append_none [] ys e = refl
long_term-append_none (x ∷ xs) ys e = both_none (is_long x) x (find is_long xs) (find is_long (xs ++ ys)) (long_term ys) (λ f. long_term-append_none xs ys f) e

pub long_term-append_some : (xs ys : List Place) (n : ℕ) → long_term xs ≡ Some n → long_term (xs ++ ys) ≡ Some n
long_term-append_some [] ys n e = cc
long_term-append_some (x ∷ xs) ys n e = keep (is_long x) x (find is_long xs) (find is_long (xs ++ ys)) (Some n) (λ f. long_term-append_some xs ys n f) e

-- where words stand doesn't matter
pub long_term-placed_from : (at to : ℕ) (field other : List ℕ) (words : List (List ℕ)) → long_term (placed_from at field words) ≡ long_term (placed_from to other words)
long_term-placed_from at to field other [] = refl
long_term-placed_from at to field other (word ∷ words) =
    same_test (nat_lt most_term_bytes (length word)) (record { field = field; bytes = word; position = at }) (record { field = other; bytes = word; position = to })
    (find is_long (placed_from (at + 1) field words)) (find is_long (placed_from (to + 1) other words)) refl (long_term-placed_from (at + 1) (to + 1) field other words)

pub skip_short_word : (word : List ℕ) (words : List (List ℕ)) → long_size word ≡ None → long_term (placed_from 0 [] (word ∷ words)) ≡ long_term (placed_from 0 [] words)
skip_short_word word words e = long_term-skip (record { field = []; bytes = word; position = 0 }) (placed_from 1 [] words) e ∙ long_term-placed_from 1 0 [] [] words

-- a text field's words, and then the other fields'
pub long_text_some : (field text : List ℕ) (rest : List Place) (n : ℕ) → long_term (placed_from 0 [] (folded_words text)) ≡ Some n → long_term (text_places (field, text) ++ rest) ≡ Some n
long_text_some field text rest n e = long_term-append_some (text_places (field, text)) rest n (long_term-placed_from 0 0 field [] (folded_words text) ∙ e)

pub long_text_none : (field text : List ℕ) (rest : List Place) → long_term (placed_from 0 [] (folded_words text)) ≡ None → long_term (text_places (field, text) ++ rest) ≡ long_term rest
long_text_none field text rest e = long_term-append_none (text_places (field, text)) rest (long_term-placed_from 0 0 field [] (folded_words text) ∙ e)
