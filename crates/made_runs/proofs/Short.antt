-- No operation of a made script is refused: its terms and its query are short.
use Rattle.std.proofs.Common.{◌≡◌, ◌∙◌, ℕ, ◌+◌, ◌*◌, ◌^◌, ◌<◌, ◌≤◌, ◌/◌, ◌%◌, Bool, cond, nat_lt, List, [], ◌∷◌, ◌++◌, codes, length, Option, Some, None, refl, sym, ap, subst, arith, mod-lt, length-append, encode_utf8, encode_utf8_all, IsUtf8, chars}
use Rattle.std.proofs.lemmas.Bool.{le-ltb}
use Rattle.std.proofs.lemmas.Bool.Decides.{nat_tests}
use Rattle.std.proofs.lemmas.Fmt.{length-decimal-le, IsAscii-decimal}
use Rattle.std.proofs.lemmas.List.Elements.{All-from_recursion, recursion_from_All}
use Rattle.std.proofs.lemmas.Str.{IsUtf8-from_ascii, encodes-chars, length-encode, IsAscii-append}
use Rattle.std.proofs.lemmas.Str.Ascii.{All-from_ascii, IsAscii-from_all, IsAscii-cons}
use Rattle.std.specs.Char.{len_utf8}
use Rattle.std.specs.Fmt.{decimal}
use Rattle.std.specs.List.{AllByRecursion, concat, filter}
use Rattle.std.specs.Prelude.{find, min, ◌-◌, option_map}
use Rattle.std.specs.Str.{IsAscii}
use Rattle.caseless.proofs.CaselessLemmas.{length-default_case_fold}
use Rattle.caseless.specs.Caseless.{default_case_fold}
use Rattle.unicode_segmentation.proofs.SegmentsLemmas.{concat-segments}
use Rattle.unicode_segmentation.specs.Segments.{segments, has_alphanumeric}
use Rattle.unicode_segmentation.specs.Word.{is_word_break}
use Rattle.ix_base.specs.Entry.{most_query_bytes}
use Rattle.ix_base.specs.Query.{tree_of}
use Rattle.ix_base.specs.QueryBytes.{query_bytes}
use Rattle.ix_base.specs.Refusals.{term_refusal, query_refusal, document_refusal, refusal, first_refusal, query_size}
use Rattle.ix_base.specs.Spelling.{be32, text_bytes}
use Rattle.ix_base.specs.Terms.{Place, terms, long_term, most_term_bytes, placed_from, folded, folded_words}
use Rattle.ix_base.specs.Tree.{Tree, term}
use Rattle.ix_base.specs.declared.document.Term as own
use Rattle.ix_base.specs.declared.document.Operation.{Operation}
use Rattle.ix_base.specs.declared.refusal.Refusal.{Refusal}
use Rattle.ix_base.specs.declared.refusal.Refusal.TheVariants.{Term as TooLong, Query as TooLargeQuery}
use Rattle.run_log.proofs.Lists.{each_says, each_in_first, each_in_second, each_mapped, each_of_filter, each_in_both}
use Rattle.script_maker.specs.Operations.{document_of, key_of, tag_of, body_of, key_term, tag_term, query_of, drawn_operation}
use Rattle.made_runs.proofs.Own.{each_kind}

-- ---- words of a short text

-- a piece of ASCII text of at most so many bytes
record IsShort (most : ℕ) (piece : List ℕ) : Type 0 where
  ascii : AllByRecursion (λ (b : ℕ). b < 128) piece
  short : length piece ≤ most

pieces_short : (most : ℕ) (pieces : List (List ℕ)) → AllByRecursion (λ (b : ℕ). b < 128) (concat pieces)
    → length (concat pieces) ≤ most → AllByRecursion (IsShort most) pieces
pieces_short most [] ascii le = tt
pieces_short most (p ∷ pieces) ascii le =
    let size = length-append p (concat pieces) in (
      record { ascii = each_in_first (λ (b : ℕ). b < 128) p (concat pieces) ascii; short = omega (arith, le, size) },
      pieces_short most pieces (each_in_second (λ (b : ℕ). b < 128) p (concat pieces) ascii) (omega (arith, le, size)),
    )

four_bytes : (c : ℕ) → len_utf8 c ≤ 4
four_bytes c = grind (arith, nat_tests)

encoded_short : (cs : List ℕ) → length (encode_utf8_all cs) ≤ 4 * length cs
encoded_short [] = omega arith
encoded_short (c ∷ cs) =
    omega (arith, length-append (encode_utf8 c) (encode_utf8_all cs), length-encode c, four_bytes c, encoded_short cs)

-- folding makes a piece at most eight times as long
folded_short : (most : ℕ) (piece : List ℕ) → IsShort most piece → length (folded piece) ≤ 8 * most
folded_short most piece is =
    let utf8 : IsUtf8 piece =
    IsUtf8-from_ascii piece (IsAscii-from_all piece (All-from_recursion (λ (b : ℕ). b < 128) piece is.ascii)) in
    omega (arith, encoded_short (default_case_fold (chars piece)), length-default_case_fold (chars piece), ap length (encodes-chars piece utf8), is.short)

words_short : (most : ℕ) (text : List ℕ) → IsAscii text → length text ≤ most
    → AllByRecursion (λ (word : List ℕ). length word ≤ 8 * most) (folded_words text)
words_short most text ascii le =
    let whole : concat (segments is_word_break text) ≡ text = concat-segments is_word_break text (IsUtf8-from_ascii text ascii) in
    let all : AllByRecursion (λ (b : ℕ). b < 128) (concat (segments is_word_break text)) =
    subst (AllByRecursion (λ (b : ℕ). b < 128)) (sym whole) (recursion_from_All (λ (b : ℕ). b < 128) text (All-from_ascii text ascii)) in
    let size : length (concat (segments is_word_break text)) ≤ most = subst (λ (t : List ℕ). length t ≤ most) (sym whole) le in
    each_mapped folded (λ (word : List ℕ). length word ≤ 8 * most) (filter has_alphanumeric (segments is_word_break text))
    (each_of_filter has_alphanumeric (λ (piece : List ℕ). length (folded piece) ≤ 8 * most) (segments is_word_break text)
    (each_says (IsShort most) (λ (piece : List ℕ). length (folded piece) ≤ 8 * most) (segments is_word_break text)
    (folded_short most) (pieces_short most (segments is_word_break text) all size)))

-- ---- the texts of a made script

digits_short : (n : ℕ) → n < 256 → length (decimal n) ≤ 3
digits_short n lt = length-decimal-le 3 n (omega arith) (omega (arith, lt)) (omega (arith, lt))

numbered_short : (letter a b : ℕ) (between : List ℕ) → a < 256 → b < 256 → length between ≤ 2
    → length (letter ∷ (decimal a ++ (between ++ decimal b))) ≤ 9
numbered_short letter a b between la lb le =
    omega (arith, length-append (decimal a) (between ++ decimal b), length-append between (decimal b), digits_short a la, digits_short b lb, le)

sixteenth : (n : ℕ) → n % 16 < 256
sixteenth n = let lt : n % 16 < 16 = mod-lt n (omega arith) in omega (arith, lt)

fourth : (n : ℕ) → n % 4 < 256
fourth n = let lt : n % 4 < 4 = mod-lt n (omega arith) in omega (arith, lt)

key_short : (caller number : ℕ) → caller < 256 → length (key_of caller number) ≤ 9
key_short caller number lt = numbered_short 107 caller (number % 16) (45 ∷ []) lt (sixteenth number) (omega arith)

tag_short : (caller number : ℕ) → caller < 256 → length (tag_of caller number) ≤ 9
tag_short caller number lt = numbered_short 116 caller (number % 4) (45 ∷ []) lt (fourth number) (omega arith)

body_short : (number : ℕ) → length (body_of number) ≤ 9
body_short number = numbered_short 119 (number % 16) (number % 4) (32 ∷ 119 ∷ []) (sixteenth number) (fourth number) (omega arith)

ascii_decimal : (n : ℕ) → n < 256 → IsAscii (decimal n)
ascii_decimal n lt = IsAscii-decimal n (omega (arith, lt))

body_ascii : (number : ℕ) → IsAscii (body_of number)
body_ascii number =
    IsAscii-cons 119 (decimal (number % 16) ++ (32 ∷ 119 ∷ decimal (number % 4))) (omega arith)
    (IsAscii-append (decimal (number % 16)) (32 ∷ 119 ∷ decimal (number % 4)) (ascii_decimal (number % 16) (sixteenth number))
    (IsAscii-cons 32 (119 ∷ decimal (number % 4)) (omega arith)
    (IsAscii-cons 119 (decimal (number % 4)) (omega arith) (ascii_decimal (number % 4) (fourth number)))))

-- ---- documents and terms

abbrev IsShortPlace : Place → Type 0
IsShortPlace place = length place.bytes ≤ most_term_bytes

none_long : (places : List Place) → AllByRecursion IsShortPlace places → long_term places ≡ None
none_long places short = ap (λ (o : Option Place). option_map (λ (place : Place). length place.bytes) o) (none_found places short)
  where
    none_found : (ps : List Place) → AllByRecursion IsShortPlace ps → find (λ (place : Place). nat_lt most_term_bytes (length place.bytes)) ps ≡ None
    none_found [] h = refl
    none_found (p ∷ ps) h =
        ap (λ (b : Bool). cond b (Some p) (find (λ (place : Place). nat_lt most_term_bytes (length place.bytes)) ps))
        (le-ltb most_term_bytes (length p.bytes) h.0)
        ∙ none_found ps h.1

placed_short : (at : ℕ) (field : List ℕ) (words : List (List ℕ)) → AllByRecursion (λ (word : List ℕ). length word ≤ most_term_bytes) words
    → AllByRecursion IsShortPlace (placed_from at field words)
placed_short at field [] h = tt
placed_short at field (word ∷ words) h = (h.0, placed_short (at + 1) field words h.1)

document_taken : (caller number : ℕ) → caller < 256 → document_refusal (document_of caller number) ≡ None
document_taken caller number lt =
    let key = key_short caller number lt in
    let tag = tag_short caller number lt in
    let words : AllByRecursion (λ (word : List ℕ). length word ≤ most_term_bytes) (folded_words (body_of number)) =
    each_says (λ (word : List ℕ). length word ≤ 8 * 9) (λ (word : List ℕ). length word ≤ most_term_bytes) (folded_words (body_of number))
    (λ word le. omega (arith, le)) (words_short 9 (body_of number) (body_ascii number) (body_short number)) in
    ap (λ (o : Option ℕ). option_map TooLong o) (none_long (terms (document_of caller number)) (
      omega (arith, key),
      (
        omega (arith, tag),
        each_in_both IsShortPlace (placed_from 0 (codes "body") (folded_words (body_of number))) []
            (placed_short 0 (codes "body") (folded_words (body_of number)) words) tt,
      ),
    ))

term_taken : (t : own.Term) → length t.bytes ≤ 9 → term_refusal t ≡ None
term_taken t le =
    ap (λ (b : Bool). cond b (Some (TooLong (length t.bytes))) None) (le-ltb most_term_bytes (length t.bytes) (omega (arith, le)))

-- ---- the query

size_of_text : (text : List ℕ) → length (text_bytes text) ≡ 4 + length text
unfolding be32
size_of_text text = length-append (be32 (length text)) text

size_of_term : (field bytes : List ℕ) → length (query_bytes (term field bytes)) ≡ 9 + length field + length bytes
size_of_term field bytes =
    omega (arith, length-append (text_bytes field) (text_bytes bytes), size_of_text field, size_of_text bytes)

size_of_one : (count : ℕ) (q : Tree) → length (be32 count ++ (query_bytes q ++ [])) ≡ 4 + length (query_bytes q)
unfolding be32
size_of_one count q = omega (arith, length-append (be32 count) (query_bytes q ++ []), length-append (query_bytes q) [])

size_of_none : (count : ℕ) → length (be32 count ++ []) ≡ 4
unfolding be32
size_of_none count = length-append (be32 count) []

query_short : (caller number : ℕ) → caller < 256 → length (query_bytes (tree_of (query_of caller number))) ≤ most_query_bytes
query_short caller number lt =
    let tag = term (codes "tag") (tag_of caller number) in
    let key = term (codes "key") (key_of caller number) in
    omega (
      arith,
      length-append (be32 1 ++ (query_bytes tag ++ [])) ((be32 0 ++ []) ++ (be32 1 ++ (query_bytes key ++ []))),
      length-append (be32 0 ++ []) (be32 1 ++ (query_bytes key ++ [])),
      size_of_one 1 tag,
      size_of_none 0,
      size_of_one 1 key,
      size_of_term (codes "tag") (tag_of caller number),
      size_of_term (codes "key") (key_of caller number),
      tag_short caller number lt,
      key_short caller number lt,
    )

query_taken : (caller number : ℕ) → caller < 256 → query_refusal (tree_of (query_of caller number)) ≡ None
query_taken caller number lt =
    let size = query_size (tree_of (query_of caller number)) in
    let short : size ≤ most_query_bytes =
    below (length (query_bytes (tree_of (query_of caller number)))) (query_short caller number lt) in
    ap (λ (b : Bool). cond b (Some (TooLargeQuery size)) None) (le-ltb most_query_bytes size short)
  where
    below : (n : ℕ) → n ≤ most_query_bytes → min n (2 ^ 64 - 1) ≤ most_query_bytes
    below n le = omega (arith, le)

-- An operation that a caller draws is not refused.
pub drawn_taken : (caller draw : ℕ) → caller < 256 → refusal (drawn_operation caller draw) ≡ None
unfolding drawn_operation
drawn_taken caller draw lt =
    each_kind (λ (op : Operation). refusal op ≡ None) (draw % 8) caller (draw / 8)
    (document_taken caller (draw / 8) lt)
    (ap (λ (o : Option Refusal). first_refusal o (document_refusal (document_of caller (draw / 8))))
    (term_taken (key_term caller (draw / 8)) (key_short caller (draw / 8) lt))
    ∙ document_taken caller (draw / 8) lt)
    (term_taken (tag_term caller (draw / 8)) (tag_short caller (draw / 8) lt))
    (term_taken (tag_term caller (draw / 8)) (tag_short caller (draw / 8) lt))
    (query_taken caller (draw / 8) lt)
