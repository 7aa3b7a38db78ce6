-- A document that is read is the one that was written, and what was written is read again.
use Rattle.std.proofs.Common.{◌≡◌, ℕ, ◌^◌, ◌<◌, Bool, true, false, not, cond, List, [], ◌∷◌, ◌++◌, length, map, Option, Some, None, Ok, Err, refl, sym, ap, subst, ◌∙◌, append_assoc, arith}
use Rattle.std.specs.Prelude.{ℤ, ◌&&◌, codes}
use Rattle.std.specs.Bool.{one_answer}
use Rattle.std.specs.Cmp.Derive.{both_true}
use Rattle.std.specs.Int.{w32, w64}
use Rattle.std.specs.List.{flat_map, AllByRecursion, list_any}
use Rattle.std.specs.Str.{bytes_eq}
use Rattle.std.proofs.lemmas.Bool.{and_parts, or_parts, or_from, not-true}
use Rattle.std.proofs.lemmas.Slice.Eq.{bytes_eq-Decides}
use Rattle.ix_base.specs.Limits.{text_lt, rise_after, names_rise, is_among, share_name, names_are_apart}
use Rattle.ix_base.specs.Documents.{Document}
use Rattle.ix_base.specs.Codec.{◌>>=◌, number_at, signed_at, text_at, name_at, items_at}
use Rattle.ix_base.proofs.CodecLaws.{bind_ok, ok_is, passes, Takes, Takes-then, u32_takes, u32_again, u64_takes, u64_again, signed_takes, signed_again, text_takes, text_again}
use Rattle.ix_base.specs.Spelling.{be32, be64, signed64, text_bytes, AreBytes}
use Rattle.segment_files.specs.Spelling.{field, fields, number_bytes, numbers_bytes, document}
use Rattle.segment_files.specs.Fits.{FieldFits, NumberFits, DocumentFits}
use Rattle.ix_base.specs.FileReading.{name_where}
use Rattle.segment_files.specs.Fields.{comes_after, is_key, is_free_name, may_name, field_at, fields_at, numbered_at, numbers_at, document_at}
use Rattle.ix_base.proofs.FileLaws.{name_where_takes, name_where_again}
use Rattle.ix_base.proofs.ItemLaws.{AllGood, TakesItem, GivesItem, items_take, items_again, items_have, good_onto, good_each, good_both, all_both}

-- ---- names rise

abbrev pub Comes : {V : Type 0} → Option (List ℕ) → List ℕ × V → Type 0
Comes last pair = comes_after last pair.0 ≡ true

abbrev pub own_name : {V : Type 0} → List ℕ × V → Option (List ℕ)
own_name pair = Some pair.0

abbrev pub names : {V : Type 0} → List (List ℕ × V) → List (List ℕ)
names pairs = map (λ pair. pair.0) pairs

rise_more : {V : Type 0} (low : List ℕ) (pairs : List (List ℕ × V)) → AllGood Comes own_name (Some low) pairs → rise_after low (names pairs) ≡ true
rise_more low [] all = refl
rise_more low (p ∷ ps) all = both_true all.0 (rise_more p.0 ps all.1)

pub rise_of : {V : Type 0} (pairs : List (List ℕ × V)) → AllGood Comes own_name None pairs → names_rise (names pairs) ≡ true
rise_of [] all = refl
rise_of (p ∷ ps) all = rise_more p.0 ps all.1

rise_back : {V : Type 0} (low : List ℕ) (pairs : List (List ℕ × V)) → rise_after low (names pairs) ≡ true → AllGood Comes own_name (Some low) pairs
rise_back low [] e = tt
rise_back low (p ∷ ps) e = let h = and_parts (text_lt low p.0) (rise_after p.0 (names ps)) e in (h.0, rise_back p.0 ps h.1)

pub rise_from : {V : Type 0} (pairs : List (List ℕ × V)) → names_rise (names pairs) ≡ true → AllGood Comes own_name None pairs
rise_from [] e = tt
rise_from (p ∷ ps) e = (refl, rise_back p.0 ps e)

-- ---- names are apart

bytes_turn : (a b : List ℕ) → bytes_eq a b ≡ bytes_eq b a
bytes_turn a b = one_answer (bytes_eq a b) (bytes_eq b a) (bytes_eq-Decides a b) ((λ e. sym ((bytes_eq-Decides b a).0 e)), (λ e. (bytes_eq-Decides b a).1 (sym e)))

none_any : {X : Type 0} (p : X → Bool) (xs : List X) → AllByRecursion (λ x. p x ≡ false) xs → list_any p xs ≡ false
none_any p [] all = refl
none_any p (x ∷ xs) all = or_from (p x) (list_any p xs) all.0 (none_any p xs all.1)

any_none : {X : Type 0} (p : X → Bool) (xs : List X) → list_any p xs ≡ false → AllByRecursion (λ x. p x ≡ false) xs
any_none p [] e = tt
any_none p (x ∷ xs) e = let h = or_parts (p x) (list_any p xs) e in (h.0, any_none p xs h.1)

-- no name is taken
abbrev NoneAmong : List (List ℕ) → List (List ℕ) → Type 0
NoneAmong taken these = AllByRecursion (λ name. is_among taken name ≡ false) these

first_other : (t : List ℕ) (ts these : List (List ℕ)) → NoneAmong (t ∷ ts) these → AllByRecursion (λ e. bytes_eq e t ≡ false) these
first_other t ts [] all = tt
first_other t ts (e ∷ es) all = (bytes_turn e t ∙ (or_parts (bytes_eq t e) (is_among ts e) all.0).0, first_other t ts es all.1)

others_too : (t : List ℕ) (ts these : List (List ℕ)) → NoneAmong (t ∷ ts) these → NoneAmong ts these
others_too t ts [] all = tt
others_too t ts (e ∷ es) all = ((or_parts (bytes_eq t e) (is_among ts e) all.0).1, others_too t ts es all.1)

none_shared : (taken these : List (List ℕ)) → NoneAmong taken these → share_name taken these ≡ false
none_shared [] these all = refl
none_shared (t ∷ ts) these all = or_from (is_among these t) (share_name ts these) (none_any (λ e. bytes_eq e t) these (first_other t ts these all)) (none_shared ts these (others_too t ts these all))

none_at_all : (these : List (List ℕ)) → NoneAmong [] these
none_at_all [] = tt
none_at_all (e ∷ es) = (refl, none_at_all es)

shared_none : (taken these : List (List ℕ)) → share_name taken these ≡ false → NoneAmong taken these
shared_none [] these e = none_at_all these
shared_none (t ∷ ts) these e =
    let h = or_parts (is_among these t) (share_name ts these) e in
    all_both (λ x. bytes_eq x t ≡ false) (λ x. is_among ts x ≡ false) (λ x. is_among (t ∷ ts) x ≡ false)
    (λ x p q. or_from (bytes_eq t x) (is_among ts x) (bytes_turn t x ∙ p) q) these (any_none (λ x. bytes_eq x t) these h.0) (shared_none ts these h.1)

abbrev AllFree : {V : Type 0} → List (List ℕ) → List (List ℕ × V) → Type 0
AllFree taken pairs = AllByRecursion (λ pair. is_free_name taken pair.0 ≡ true) pairs

no_key : {V : Type 0} (taken : List (List ℕ)) (pairs : List (List ℕ × V)) → AllFree taken pairs → is_among (names pairs) (codes "key") ≡ false
no_key taken [] all = refl
no_key taken (p ∷ ps) all =
    let h = and_parts (not (is_key p.0)) (not (is_among taken p.0)) all.0 in
    or_from (is_key p.0) (is_among (names ps) (codes "key")) (not-true (is_key p.0) h.0) (no_key taken ps all.1)

none_taken : {V : Type 0} (taken : List (List ℕ)) (pairs : List (List ℕ × V)) → AllFree taken pairs → NoneAmong taken (names pairs)
none_taken taken [] all = tt
none_taken taken (p ∷ ps) all =
    let h = and_parts (not (is_key p.0)) (not (is_among taken p.0)) all.0 in
    (not-true (is_among taken p.0) h.1, none_taken taken ps all.1)

all_free : {V : Type 0} (taken : List (List ℕ)) (pairs : List (List ℕ × V)) → is_among (names pairs) (codes "key") ≡ false → NoneAmong taken (names pairs) → AllFree taken pairs
all_free taken [] e all = tt
all_free taken (p ∷ ps) e all =
    let h = or_parts (is_key p.0) (is_among (names ps) (codes "key")) e in
    (both_true (ap not h.0) (ap not all.0), all_free taken ps h.1 all.1)

apart_of : {V W : Type 0} (xs : List (List ℕ × V)) (ys : List (List ℕ × W)) → AllFree [] xs → AllFree (names xs) ys → names_are_apart (names xs) (names ys) ≡ true
apart_of xs ys first second =
    both_true (ap not (no_key [] xs first)) (both_true (ap not (no_key (names xs) ys second)) (ap not (none_shared (names xs) (names ys) (none_taken (names xs) ys second))))

free_of : {V W : Type 0} (xs : List (List ℕ × V)) (ys : List (List ℕ × W)) → names_are_apart (names xs) (names ys) ≡ true → AllFree [] xs × AllFree (names xs) ys
free_of xs ys e =
    let a = and_parts (not (is_among (names xs) (codes "key"))) (not (is_among (names ys) (codes "key")) && not (share_name (names xs) (names ys))) e in
    let b = and_parts (not (is_among (names ys) (codes "key"))) (not (share_name (names xs) (names ys))) a.1 in
    (all_free [] xs (not-true _ a.0) (none_at_all (names xs)), all_free (names xs) ys (not-true _ b.0) (shared_none (names xs) (names ys) (not-true _ b.1)))

-- ---- fields

pub record FieldGood (taken : List (List ℕ)) (last : Option (List ℕ)) (pair : List ℕ × List ℕ) : Type 0 where
  pub fits : FieldFits pair
  pub named : may_name taken last pair.0 ≡ true

field_takes : (taken : List (List ℕ)) → TakesItem (field_at taken) field (FieldGood taken)
unfolding field_at
field_takes taken last bytes x fits e =
    let a = bind_ok (name_where (may_name taken last) bytes) (λ name. text_at name.1 >>= λ t. Ok ((name.0, t.0), t.1)) x e in
    let b = bind_ok (text_at a.0.1) (λ t. Ok ((a.0.0, t.0), t.1)) x a.2 in
    let t0 = name_where_takes (may_name taken last) bytes a.0 fits a.1 in
    let t1 = text_takes a.0.1 b.0 t0.0.rest_fits b.1 in
    let both = Takes-then bytes (text_bytes a.0.0) a.0.1 (text_bytes b.0.0) b.0.1 t0.0 t1.0 in
    let made : (List ℕ × List ℕ) × List ℕ = ((a.0.0, b.0.0), b.0.1) in
    subst (λ (y : (List ℕ × List ℕ) × List ℕ). Takes bytes (field y.0) y.1 × FieldGood taken last y.0) (ok_is made x b.2) (both, record { fits = record { name = t0.1; text = t1.1 }; named = t0.2 })

field_again : (taken : List (List ℕ)) → GivesItem (field_at taken) field (FieldGood taken)
unfolding field_at
field_again taken last pair rest good =
    let regrouped : field pair ++ rest ≡ text_bytes pair.0 ++ (text_bytes pair.1 ++ rest) = append_assoc (text_bytes pair.0) (text_bytes pair.1) rest in
    ap (field_at taken last) regrouped ∙ rw (name_where_again (may_name taken last) pair.0 (text_bytes pair.1 ++ rest) good.fits.name good.named, text_again pair.1 rest good.fits.text) refl

pub fields_take : (taken : List (List ℕ)) (bytes : List ℕ) (x : List (List ℕ × List ℕ) × List ℕ) → AreBytes bytes → fields_at taken bytes ≡ Ok x
    → Takes bytes (fields x.0) x.1 × (length x.0 < 2 ^ 32) × AllGood (FieldGood taken) own_name None x.0
unfolding fields_at
fields_take taken bytes x fits e =
    let a = bind_ok (number_at w32 bytes) (λ n. items_at (field_at taken) own_name None n.0 n.1) x e in
    let t0 = u32_takes bytes a.0 fits a.1 in
    let t1 = items_take (field_at taken) own_name field (FieldGood taken) (field_takes taken) None a.0.0 a.0.1 x t0.0.rest_fits a.2 in
    let both = Takes-then bytes (be32 a.0.0) a.0.1 (flat_map field x.0) x.1 t0.0 t1.0 in
    (subst (λ (n : ℕ). Takes bytes (be32 n ++ flat_map field x.0) x.1) (sym t1.1) both, omega (arith, t0.1, t1.1), t1.2)

pub fields_again : (taken : List (List ℕ)) (pairs : List (List ℕ × List ℕ)) (rest : List ℕ) → length pairs < 2 ^ 32 → AllGood (FieldGood taken) own_name None pairs → fields_at taken (fields pairs ++ rest) ≡ Ok (pairs, rest)
unfolding fields_at
fields_again taken pairs rest short good =
    let regrouped : fields pairs ++ rest ≡ be32 (length pairs) ++ (flat_map field pairs ++ rest) = append_assoc (be32 (length pairs)) (flat_map field pairs) rest in
    ap (fields_at taken) regrouped ∙ rw (u32_again (length pairs) (flat_map field pairs ++ rest) short) (items_again (field_at taken) own_name field (FieldGood taken) (field_again taken) None pairs rest good)

-- names rise in what is read, and are free, whatever the bytes are
pub named_ok : (test : List ℕ → Bool) (bytes : List ℕ) (x : List ℕ × List ℕ) → name_where test bytes ≡ Ok x → test x.0 ≡ true
named_ok test bytes x e =
    let b = bind_ok (name_at bytes) (λ n. cond (test n.0) (Ok n) (Err (length bytes))) x e in
    let g = passes (test b.0.0) (length bytes) b.0 x b.2 in
    subst (λ (y : List ℕ × List ℕ). test y.0 ≡ true) g.1 g.0

field_comes : (taken : List (List ℕ)) (last : Option (List ℕ)) (bytes : List ℕ) (x : (List ℕ × List ℕ) × List ℕ) → field_at taken last bytes ≡ Ok x → Comes last x.0
unfolding field_at
field_comes taken last bytes x e =
    let a = bind_ok (name_where (may_name taken last) bytes) (λ name. text_at name.1 >>= λ t. Ok ((name.0, t.0), t.1)) x e in
    let b = bind_ok (text_at a.0.1) (λ t. Ok ((a.0.0, t.0), t.1)) x a.2 in
    let made : (List ℕ × List ℕ) × List ℕ = ((a.0.0, b.0.0), b.0.1) in
    subst (λ (y : (List ℕ × List ℕ) × List ℕ). Comes last y.0) (ok_is made x b.2) (and_parts (comes_after last a.0.0) (is_free_name taken a.0.0) (named_ok (may_name taken last) bytes a.0 a.1)).0

pub field_list_rises : (taken : List (List ℕ)) (n : ℕ) (bytes : List ℕ) (x : List (List ℕ × List ℕ) × List ℕ) → items_at (field_at taken) own_name None n bytes ≡ Ok x → names_rise (names x.0) ≡ true
field_list_rises taken n bytes x e = rise_of x.0 (items_have (field_at taken) own_name Comes (field_comes taken) None n bytes x e)

field_named : (taken : List (List ℕ)) (last : Option (List ℕ)) (bytes : List ℕ) (x : (List ℕ × List ℕ) × List ℕ) → field_at taken last bytes ≡ Ok x → may_name taken last x.0.0 ≡ true
unfolding field_at
field_named taken last bytes x e =
    let a = bind_ok (name_where (may_name taken last) bytes) (λ name. text_at name.1 >>= λ t. Ok ((name.0, t.0), t.1)) x e in
    let b = bind_ok (text_at a.0.1) (λ t. Ok ((a.0.0, t.0), t.1)) x a.2 in
    let made : (List ℕ × List ℕ) × List ℕ = ((a.0.0, b.0.0), b.0.1) in
    subst (λ (y : (List ℕ × List ℕ) × List ℕ). may_name taken last y.0.0 ≡ true) (ok_is made x b.2) (named_ok (may_name taken last) bytes a.0 a.1)

fields_free : (taken : List (List ℕ)) (bytes : List ℕ) (x : List (List ℕ × List ℕ) × List ℕ) → fields_at taken bytes ≡ Ok x → AllFree taken x.0
unfolding fields_at
fields_free taken bytes x e =
    let a = bind_ok (number_at w32 bytes) (λ n. items_at (field_at taken) own_name None n.0 n.1) x e in
    good_each (λ (last : Option (List ℕ)) (p : List ℕ × List ℕ). may_name taken last p.0 ≡ true) (λ p. is_free_name taken p.0 ≡ true) own_name
    (λ last p named. (and_parts (comes_after last p.0) (is_free_name taken p.0) named).1) None x.0
    (items_have (field_at taken) own_name (λ last p. may_name taken last p.0 ≡ true) (field_named taken) None a.0.0 a.0.1 x a.2)

-- two lists of fields that were read one after the other have their names apart
pub read_apart : (bytes later : List ℕ) (text exact : List (List ℕ × List ℕ) × List ℕ) → fields_at [] bytes ≡ Ok text → fields_at (names text.0) later ≡ Ok exact
    → names_are_apart (names text.0) (names exact.0) ≡ true
read_apart bytes later text exact first second = apart_of text.0 exact.0 (fields_free [] bytes text first) (fields_free (names text.0) later exact second)

number_comes : (last : Option (List ℕ)) (bytes : List ℕ) (x : (List ℕ × ℤ) × List ℕ) → numbered_at last bytes ≡ Ok x → Comes last x.0
unfolding numbered_at
number_comes last bytes x e =
    let a = bind_ok (name_where (comes_after last) bytes) (λ name. signed_at name.1 >>= λ t. Ok ((name.0, t.0), t.1)) x e in
    let b = bind_ok (signed_at a.0.1) (λ t. Ok ((a.0.0, t.0), t.1)) x a.2 in
    let made : (List ℕ × ℤ) × List ℕ = ((a.0.0, b.0.0), b.0.1) in
    subst (λ (y : (List ℕ × ℤ) × List ℕ). Comes last y.0) (ok_is made x b.2) (named_ok (comes_after last) bytes a.0 a.1)

pub number_list_rises : (n : ℕ) (bytes : List ℕ) (x : List (List ℕ × ℤ) × List ℕ) → items_at numbered_at own_name None n bytes ≡ Ok x → names_rise (names x.0) ≡ true
number_list_rises n bytes x e = rise_of x.0 (items_have numbered_at own_name Comes number_comes None n bytes x e)

-- ---- numbers

pub record NumberGood (last : Option (List ℕ)) (pair : List ℕ × ℤ) : Type 0 where
  pub fits : NumberFits pair
  pub named : comes_after last pair.0 ≡ true

number_takes : TakesItem numbered_at number_bytes NumberGood
unfolding numbered_at
number_takes last bytes x fits e =
    let a = bind_ok (name_where (comes_after last) bytes) (λ name. signed_at name.1 >>= λ t. Ok ((name.0, t.0), t.1)) x e in
    let b = bind_ok (signed_at a.0.1) (λ t. Ok ((a.0.0, t.0), t.1)) x a.2 in
    let t0 = name_where_takes (comes_after last) bytes a.0 fits a.1 in
    let t1 = signed_takes a.0.1 b.0 t0.0.rest_fits b.1 in
    let both = Takes-then bytes (text_bytes a.0.0) a.0.1 (signed64 b.0.0) b.0.1 t0.0 t1.0 in
    let made : (List ℕ × ℤ) × List ℕ = ((a.0.0, b.0.0), b.0.1) in
    subst (λ (y : (List ℕ × ℤ) × List ℕ). Takes bytes (number_bytes y.0) y.1 × NumberGood last y.0) (ok_is made x b.2) (both, record { fits = record { name = t0.1; value = t1.1 }; named = t0.2 })

number_again : GivesItem numbered_at number_bytes NumberGood
unfolding numbered_at
number_again last pair rest good =
    let regrouped : number_bytes pair ++ rest ≡ text_bytes pair.0 ++ (signed64 pair.1 ++ rest) = append_assoc (text_bytes pair.0) (signed64 pair.1) rest in
    ap (numbered_at last) regrouped ∙ rw (name_where_again (comes_after last) pair.0 (signed64 pair.1 ++ rest) good.fits.name good.named, signed_again pair.1 rest good.fits.value) refl

pub numbers_take : (bytes : List ℕ) (x : List (List ℕ × ℤ) × List ℕ) → AreBytes bytes → numbers_at bytes ≡ Ok x
    → Takes bytes (numbers_bytes x.0) x.1 × (length x.0 < 2 ^ 64) × AllGood NumberGood own_name None x.0
unfolding numbers_at
numbers_take bytes x fits e =
    let a = bind_ok (number_at w64 bytes) (λ n. items_at numbered_at own_name None n.0 n.1) x e in
    let t0 = u64_takes bytes a.0 fits a.1 in
    let t1 = items_take numbered_at own_name number_bytes NumberGood number_takes None a.0.0 a.0.1 x t0.0.rest_fits a.2 in
    let both = Takes-then bytes (be64 a.0.0) a.0.1 (flat_map number_bytes x.0) x.1 t0.0 t1.0 in
    (subst (λ (n : ℕ). Takes bytes (be64 n ++ flat_map number_bytes x.0) x.1) (sym t1.1) both, omega (arith, t0.1, t1.1), t1.2)

pub numbers_again : (pairs : List (List ℕ × ℤ)) (rest : List ℕ) → length pairs < 2 ^ 64 → AllGood NumberGood own_name None pairs → numbers_at (numbers_bytes pairs ++ rest) ≡ Ok (pairs, rest)
unfolding numbers_at
numbers_again pairs rest short good =
    let regrouped : numbers_bytes pairs ++ rest ≡ be64 (length pairs) ++ (flat_map number_bytes pairs ++ rest) = append_assoc (be64 (length pairs)) (flat_map number_bytes pairs) rest in
    ap numbers_at regrouped ∙ rw (u64_again (length pairs) (flat_map number_bytes pairs ++ rest) short) (items_again numbered_at own_name number_bytes NumberGood number_again None pairs rest good)

-- ---- documents

pub document_takes : (bytes : List ℕ) (x : Document × List ℕ) → AreBytes bytes → document_at bytes ≡ Ok x → Takes bytes (document x.0) x.1 × DocumentFits x.0
unfolding document_at
document_takes bytes x fits e =
    let a = bind_ok (text_at bytes) (λ key. fields_at [] key.1 >>= λ t. fields_at (map (λ pair. pair.0) t.0) t.1 >>= λ ex. numbers_at ex.1 >>= λ num. Ok (record { key = key.0; text = t.0; exact = ex.0; num = num.0 }, num.1)) x e in
    let b = bind_ok (fields_at [] a.0.1) (λ t. fields_at (map (λ pair. pair.0) t.0) t.1 >>= λ ex. numbers_at ex.1 >>= λ num. Ok (record { key = a.0.0; text = t.0; exact = ex.0; num = num.0 }, num.1)) x a.2 in
    let c = bind_ok (fields_at (map (λ pair. pair.0) b.0.0) b.0.1) (λ ex. numbers_at ex.1 >>= λ num. Ok (record { key = a.0.0; text = b.0.0; exact = ex.0; num = num.0 }, num.1)) x b.2 in
    let d = bind_ok (numbers_at c.0.1) (λ num. Ok (record { key = a.0.0; text = b.0.0; exact = c.0.0; num = num.0 }, num.1)) x c.2 in
    let t0 = text_takes bytes a.0 fits a.1 in
    let t1 = fields_take [] a.0.1 b.0 t0.0.rest_fits b.1 in
    let t2 = fields_take (names b.0.0) b.0.1 c.0 t1.0.rest_fits c.1 in
    let t3 = numbers_take c.0.1 d.0 t2.0.rest_fits d.1 in
    let e23 = Takes-then b.0.1 (fields c.0.0) c.0.1 (numbers_bytes d.0.0) d.0.1 t2.0 t3.0 in
    let e13 = Takes-then a.0.1 (fields b.0.0) b.0.1 (fields c.0.0 ++ numbers_bytes d.0.0) d.0.1 t1.0 e23 in
    let e03 = Takes-then bytes (text_bytes a.0.0) a.0.1 (fields b.0.0 ++ (fields c.0.0 ++ numbers_bytes d.0.0)) d.0.1 t0.0 e13 in
    let made : Document × List ℕ = (record { key = a.0.0; text = b.0.0; exact = c.0.0; num = d.0.0 }, d.0.1) in
    subst (λ (y : Document × List ℕ). Takes bytes (document y.0) y.1 × DocumentFits y.0) (ok_is made x d.2) (
      e03,
      record {
        key = t0.1;
        text_count = t1.1;
        text = good_each (FieldGood []) FieldFits own_name (λ s p g. g.fits) None b.0.0 t1.2;
        text_rises = rise_of b.0.0 (good_onto (FieldGood []) Comes own_name (λ s p g. (and_parts (comes_after s p.0) (is_free_name [] p.0) g.named).0) None b.0.0 t1.2);
        exact_count = t2.1;
        exact = good_each (FieldGood (names b.0.0)) FieldFits own_name (λ s p g. g.fits) None c.0.0 t2.2;
        exact_rises = rise_of c.0.0 (good_onto (FieldGood (names b.0.0)) Comes own_name (λ s p g. (and_parts (comes_after s p.0) (is_free_name (names b.0.0) p.0) g.named).0) None c.0.0 t2.2);
        num_count = t3.1;
        num = good_each NumberGood NumberFits own_name (λ s p g. g.fits) None d.0.0 t3.2;
        num_rises = rise_of d.0.0 (good_onto NumberGood Comes own_name (λ s p g. g.named) None d.0.0 t3.2);
        apart = apart_of b.0.0 c.0.0 (good_each (FieldGood []) (λ p. is_free_name [] p.0 ≡ true) own_name (λ s p g. (and_parts (comes_after s p.0) (is_free_name [] p.0) g.named).1) None b.0.0 t1.2)
            (good_each (FieldGood (names b.0.0)) (λ p. is_free_name (names b.0.0) p.0 ≡ true) own_name (λ s p g. (and_parts (comes_after s p.0) (is_free_name (names b.0.0) p.0) g.named).1) None c.0.0 t2.2);
      },
    )

fields_good : (taken : List (List ℕ)) (pairs : List (List ℕ × List ℕ)) → AllByRecursion FieldFits pairs → names_rise (names pairs) ≡ true → AllFree taken pairs → AllGood (FieldGood taken) own_name None pairs
fields_good taken pairs fits rises free =
    good_both (FieldGood taken) Comes (λ p. FieldFits p × (is_free_name taken p.0 ≡ true)) own_name (λ s p fit comes. record { fits = fit.0; named = both_true comes fit.1 }) None pairs
    (all_both FieldFits (λ p. is_free_name taken p.0 ≡ true) (λ p. FieldFits p × (is_free_name taken p.0 ≡ true)) (λ p a b. (a, b)) pairs fits free) (rise_from pairs rises)

numbers_good : (pairs : List (List ℕ × ℤ)) → AllByRecursion NumberFits pairs → names_rise (names pairs) ≡ true → AllGood NumberGood own_name None pairs
numbers_good pairs fits rises = good_both NumberGood Comes NumberFits own_name (λ s p fit comes. record { fits = fit; named = comes }) None pairs fits (rise_from pairs rises)

pub document_again : (doc : Document) (rest : List ℕ) → DocumentFits doc → document_at (document doc ++ rest) ≡ Ok (doc, rest)
unfolding document_at
document_again doc rest fits =
    let regrouped : document doc ++ rest ≡ text_bytes doc.key ++ (fields doc.text ++ (fields doc.exact ++ (numbers_bytes doc.num ++ rest))) =
    append_assoc (text_bytes doc.key) (fields doc.text ++ (fields doc.exact ++ numbers_bytes doc.num)) rest
    ∙ ap (λ (x : List ℕ). text_bytes doc.key ++ x) (append_assoc (fields doc.text) (fields doc.exact ++ numbers_bytes doc.num) rest)
    ∙ ap (λ (x : List ℕ). text_bytes doc.key ++ (fields doc.text ++ x)) (append_assoc (fields doc.exact) (numbers_bytes doc.num) rest) in
    let free = free_of doc.text doc.exact fits.apart in
    let after_exact = numbers_bytes doc.num ++ rest in
    let after_text = fields doc.exact ++ after_exact in
    ap document_at regrouped ∙ rw (
      text_again doc.key (fields doc.text ++ after_text) fits.key,
      fields_again [] doc.text after_text fits.text_count (fields_good [] doc.text fits.text fits.text_rises free.0),
      fields_again (names doc.text) doc.exact after_exact fits.exact_count (fields_good (names doc.text) doc.exact fits.exact fits.exact_rises free.1),
      numbers_again doc.num rest fits.num_count (numbers_good doc.num fits.num fits.num_rises),
    ) refl
