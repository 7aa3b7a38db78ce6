-- Values that the codec writes and reads: what is found at the start of bytes is the one value there.
use Rattle.std.proofs.Common.{◌≡◌, ℕ, ◌<◌, ◌^◌, List, ◌++◌, Result, Ok, Err, sym, ap, ◌∙◌}
use Rattle.std.specs.Int.{w32, w64}
use Rattle.std.specs.Prelude.{FitsSigned}
use Rattle.ix_base.specs.Codec.{byte_at, number_at, signed_at, text_at, name_at}
use Rattle.ix_base.proofs.CodecLaws.{Takes, ok_is, byte_takes, byte_again, u32_takes, u32_again, u64_takes, u64_again, signed_takes, signed_again, text_takes, text_again, name_takes, name_again}
use Rattle.ix_base.specs.Spelling.{be32, be64, signed64, text_bytes, AreBytes, IsText, IsName}
use Rattle.node_words.specs.Reads.{StandsAtStart, NoneAtStart, byte_alone}

-- no spelling of a value is a prefix of another's
abbrev pub OneForm : {V : Type 0} → (V → Type 0) → (V → List ℕ) → Type 0
OneForm {V} IsOne spelling = (v w : V) (x y : List ℕ) → IsOne v → IsOne w → spelling v ++ x ≡ spelling w ++ y → (v ≡ w) × (x ≡ y)

-- the codec reads such values: the two laws
pub record IsCodec {V : Type 0} (IsOne : V → Type 0) (spelling : V → List ℕ) (read : List ℕ → Result (V × List ℕ) ℕ) : Type 0 where
  takes : (bytes : List ℕ) (x : V × List ℕ) → AreBytes bytes → read bytes ≡ Ok x → Takes bytes (spelling x.0) x.1 × IsOne x.0
  again : (v : V) (rest : List ℕ) → IsOne v → read (spelling v ++ rest) ≡ Ok (v, rest)

pub byte_codec : IsCodec (λ b. b < 256) byte_alone byte_at
byte_codec = record { takes = byte_takes; again = λ b rest is. byte_again b rest }

pub number_codec : IsCodec (λ n. n < 2 ^ 32) be32 (number_at w32)
number_codec = record { takes = u32_takes; again = u32_again }

pub word_codec : IsCodec (λ n. n < 2 ^ 64) be64 (number_at w64)
word_codec = record { takes = u64_takes; again = u64_again }

pub signed_codec : IsCodec (FitsSigned w64) signed64 signed_at
signed_codec = record { takes = signed_takes; again = signed_again }

pub text_codec : IsCodec IsText text_bytes text_at
text_codec = record { takes = text_takes; again = text_again }

pub name_codec : IsCodec IsName text_bytes name_at
name_codec = record { takes = name_takes; again = name_again }

module _ {V : Type 0} (IsOne : V → Type 0) (spelling : V → List ℕ) (read : List ℕ → Result (V × List ℕ) ℕ) (codec : IsCodec IsOne spelling read) where
  pub found : (start bytes : List ℕ) (v : V) (rest : List ℕ) → start ≡ bytes → AreBytes start → read start ≡ Ok (v, rest) → StandsAtStart IsOne spelling v bytes rest
  found start bytes v rest same fits e =
      let t = codec.takes start (v, rest) fits e in
      (t.1, sym same ∙ t.0.parts)

  pub rest_fits : (bytes : List ℕ) (v : V) (rest : List ℕ) → AreBytes bytes → read bytes ≡ Ok (v, rest) → AreBytes rest
  rest_fits bytes v rest fits e = (codec.takes bytes (v, rest) fits e).0.rest_fits

  pub not_found : (start bytes : List ℕ) (left : ℕ) → start ≡ bytes → read start ≡ Err left → NoneAtStart IsOne spelling bytes
  not_found start bytes left same e v rest is s =
      let both = sym e ∙ ap read (same ∙ s) ∙ codec.again v rest is in
      absurd cc

  one_form : OneForm IsOne spelling
  one_form v w x y p q e =
      let s = ok_is (v, x) (w, y) (sym (codec.again v x p) ∙ ap read e ∙ codec.again w y q) in
      (ap (λ (t : V × List ℕ). t.0) s, ap (λ (t : V × List ℕ). t.1) s)

pub one_number : OneForm (λ n. n < 2 ^ 32) be32
one_number = one_form (λ n. n < 2 ^ 32) be32 (number_at w32) number_codec

pub one_word : OneForm (λ n. n < 2 ^ 64) be64
one_word = one_form (λ n. n < 2 ^ 64) be64 (number_at w64) word_codec

pub one_signed : OneForm (FitsSigned w64) signed64
one_signed = one_form (FitsSigned w64) signed64 signed_at signed_codec

pub one_text : OneForm IsText text_bytes
one_text = one_form IsText text_bytes text_at text_codec

pub one_name : OneForm IsName text_bytes
one_name = one_form IsName text_bytes name_at name_codec
