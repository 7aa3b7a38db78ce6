-- Which names are free.
use Rattle.std.proofs.Common.{◌≡◌, ℕ, Bool, true, List, refl, subst}
use Rattle.std.specs.Prelude.{not, codes}
use Rattle.std.specs.Str.{bytes_eq}
use Rattle.ix_base.specs.Limits.{is_among}
use Rattle.segment_files.specs.Fields.{is_free_name}

pub free_from : (taken : List (List ℕ)) (name seen : List ℕ) (found : Bool) → seen ≡ name → not (bytes_eq seen (codes "key")) ≡ true → found ≡ is_among taken name → not found ≡ is_free_name taken name
free_from taken name seen found same other is =
    let own : not (bytes_eq name (codes "key")) ≡ true = subst (λ (t : List ℕ). not (bytes_eq t (codes "key")) ≡ true) same other in
    rw (is, own) refl
