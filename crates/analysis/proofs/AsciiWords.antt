-- Folding words of ASCII characters alone.
use Rattle.std.proofs.Common.{◌≡◌, ℕ, ◌<◌, List, [], ◌∷◌, ◌++◌, map, encode_utf8_all, refl, sym, ap, ◌∙◌}
use Rattle.std.specs.Char.{to_ascii_lowercase}
use Rattle.std.specs.List.{AllByRecursion}
use Rattle.std.specs.Str.{IsAscii}
use Rattle.std.proofs.lemmas.List.Elements.{recursion_from_All}
use Rattle.std.proofs.lemmas.Str.{chars-IsAscii, encode_ascii}
use Rattle.std.proofs.lemmas.Str.Ascii.{All-from_ascii, lowercase_ascii}
use Rattle.caseless.specs.Caseless.{default_case_fold}
use Rattle.caseless.proofs.CaselessLemmas.{default_case_fold-ascii}
use Rattle.ix_base.specs.Terms.{folded}

lowercase_bytes : (bs : List ℕ) → AllByRecursion (λ b. b < 128) bs → encode_utf8_all (map to_ascii_lowercase bs) ≡ map to_ascii_lowercase bs
lowercase_bytes [] h = refl
lowercase_bytes (b ∷ bs) h =
    ap (λ (l : List ℕ). l ++ encode_utf8_all (map to_ascii_lowercase bs)) (encode_ascii (to_ascii_lowercase b) (lowercase_ascii b h.0))
    ∙ ap (λ (l : List ℕ). to_ascii_lowercase b ∷ l) (lowercase_bytes bs h.1)

pub folded_ascii : (word : List ℕ) → IsAscii word → map to_ascii_lowercase word ≡ folded word
folded_ascii word h =
    let all = All-from_ascii word h in
    sym (ap (λ (cs : List ℕ). encode_utf8_all (default_case_fold cs)) (chars-IsAscii word h)
    ∙ ap encode_utf8_all (default_case_fold-ascii word all)
    ∙ lowercase_bytes word (recursion_from_All (λ b. b < 128) word all))
