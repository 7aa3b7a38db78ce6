-- Whether bytes begin with a mark.
use Rattle.std.proofs.Common.{◌≡◌, ℕ, true, false, List, length, take, drop, Ok, Err, refl, sym, ap, ◌∙◌}
use Rattle.std.specs.Str.{bytes_eq}
use Rattle.ix_base.specs.FileReading.{mark_at}

pub mark_found : (mark bytes rest : List ℕ) → length mark ≡ 8 → bytes_eq (take (length mark) bytes) mark ≡ true → rest ≡ drop (length mark) bytes → mark_at mark bytes ≡ Ok rest
unfolding mark_at
mark_found mark bytes rest len same is =
    let eight : bytes_eq (take 8 bytes) mark ≡ true = ap (λ (n : ℕ). bytes_eq (take n bytes) mark) (sym len) ∙ same in
    rw (eight, is, len) refl

pub mark_missing : (mark bytes : List ℕ) → length mark ≡ 8 → bytes_eq (take (length mark) bytes) mark ≡ false → mark_at mark bytes ≡ Err (length bytes)
unfolding mark_at
mark_missing mark bytes len other =
    let eight : bytes_eq (take 8 bytes) mark ≡ false = ap (λ (n : ℕ). bytes_eq (take n bytes) mark) (sym len) ∙ other in
    rw eight refl
