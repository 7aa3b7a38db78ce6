-- A file's name stands in a JSON text as it is.
use Rattle.std.proofs.Common.{◌≡◌, ℕ, zero, suc, ◌+◌, ◌/◌, ◌%◌, ◌<◌, Bool, true, false, cond, eqb, List, [], ◌∷◌, ◌++◌, codes, refl, ap, ◌∙◌, arith}
use Rattle.std.specs.Fmt.{decimal, digits, digits_onto, digit_glyph}
use Rattle.std.proofs.lemmas.Bool.{lt-ltb}
use Rattle.std.proofs.lemmas.Grind.{flat_map-append}
use Rattle.json.specs.Print.{escape_byte, escape}
use Rattle.json.proofs.Printed.Strings.{escape_byte_plain}
use Rattle.ix_base.specs.FileNames.{name_text}
use Rattle.ix_base.specs.declared.file_name.FileName.{FileName}
use Rattle.ix_base.specs.declared.file_name.FileName.TheVariants.{Commit, Pending, Rows, Posts, Live, Values}

glyph_plain : (d : ℕ) → d < 10 → escape_byte (digit_glyph false d) ≡ digit_glyph false d ∷ []
glyph_plain d lt =
    let test = lt-ltb d 10 lt in
    let glyph : digit_glyph false d ≡ 48 + d = rw test refl in
    rw glyph (escape_byte_plain (48 + d) (λ e. absurd (omega (arith, e, lt))) (λ e. absurd (omega (arith, e, lt))) (omega arith))

onto_plain : (k n : ℕ) (acc : List ℕ) → escape acc ≡ acc → escape (digits_onto k 10 false n acc) ≡ digits_onto k 10 false n acc
onto_plain zero n acc h = h
onto_plain (suc k) n acc h =
    let last : escape (digit_glyph false (n % 10) ∷ acc) ≡ digit_glyph false (n % 10) ∷ acc =
    ap (λ (front : List ℕ). front ++ escape acc) (glyph_plain (n % 10) (omega arith)) ∙ ap (λ (rest : List ℕ). digit_glyph false (n % 10) ∷ rest) h in
    by_test (eqb (n / 10) 0) _ _ last (onto_plain k (n / 10) (digit_glyph false (n % 10) ∷ acc) last)
  where
    by_test : (b : Bool) (x y : List ℕ) → escape x ≡ x → escape y ≡ y → escape (cond b x y) ≡ cond b x y
    by_test true x y p q = p
    by_test false x y p q = q

decimal_plain : (n : ℕ) → escape (decimal n) ≡ decimal n
unfolding digits
decimal_plain n = onto_plain 64 n [] refl

joined : (a b : List ℕ) → escape a ≡ a → escape b ≡ b → escape (a ++ b) ≡ a ++ b
joined a b p q = flat_map-append escape_byte a b ∙ ap (λ (x : List ℕ). x ++ escape b) p ∙ ap (λ (y : List ℕ). a ++ y) q

segments : escape (codes "segments_") ≡ codes "segments_"
unfolding escape_byte
segments = refl

pending : escape (codes "pending_segments_") ≡ codes "pending_segments_"
unfolding escape_byte
pending = refl

seg : escape (codes "seg_") ≡ codes "seg_"
unfolding escape_byte
seg = refl

row : escape (codes ".row") ≡ codes ".row"
unfolding escape_byte
row = refl

pst : escape (codes ".pst") ≡ codes ".pst"
unfolding escape_byte
pst = refl

liv : escape (codes ".liv") ≡ codes ".liv"
unfolding escape_byte
liv = refl

val : escape (codes ".val") ≡ codes ".val"
unfolding escape_byte
val = refl

line : escape (codes "_") ≡ codes "_"
unfolding escape_byte
line = refl

pub name_plain : (name : FileName) → escape (name_text name) ≡ name_text name
name_plain (Commit s) = joined (codes "segments_") (decimal s) segments (decimal_plain s)
name_plain (Pending s) = joined (codes "pending_segments_") (decimal s) pending (decimal_plain s)
name_plain (Rows id) = joined (codes "seg_") _ seg (joined (decimal id) _ (decimal_plain id) row)
name_plain (Posts id) = joined (codes "seg_") _ seg (joined (decimal id) _ (decimal_plain id) pst)
name_plain (Live id v) = joined (codes "seg_") _ seg (joined (decimal id) _ (decimal_plain id) (joined (codes "_") _ line (joined (decimal v) _ (decimal_plain v) liv)))
name_plain (Values id v) = joined (codes "seg_") _ seg (joined (decimal id) _ (decimal_plain id) (joined (codes "_") _ line (joined (decimal v) _ (decimal_plain v) val)))
